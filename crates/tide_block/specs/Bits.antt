-- The bits of a word.
use Rattle.std.specs.Prelude.{ℕ, ◌≡◌, ◌<◌, ◌≤◌, ◌==◌, if◌then◌else◌}
use Rattle.std.specs.Int.{bit_at}

-- the bit of the word is set
abbrev pub IsSet : ℕ → ℕ → Type 0
IsSet word bit = bit_at word bit ≡ 1

-- the bit of the word is not set
abbrev pub IsClear : ℕ → ℕ → Type 0
IsClear word bit = bit_at word bit ≡ 0

-- no bit of the word from this one on is set
abbrev pub IsClearFrom : ℕ → ℕ → Type 0
IsClearFrom word from = (bit : ℕ) → from ≤ bit → bit < 64 → IsClear word bit

-- the bit is the lowest of a word's 64 that is set and not below another
pub record IsLowestFrom (word from bit : ℕ) : Type 0 where
  pub inside : bit < 64
  pub not_below : from ≤ bit
  pub set : IsSet word bit
  pub lowest : (other : ℕ) → from ≤ other → other < bit → IsClear word other

-- the new word has this value at the bit, and that of the old word at each other one
abbrev pub IsWithBit : ℕ → ℕ → ℕ → ℕ → Type 0
IsWithBit old new bit value = (other : ℕ) → other < 64 → bit_at new other ≡ (if other == bit then value else bit_at old other)
