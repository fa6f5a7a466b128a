-- The words of one table, and where among them a pair stands.
use Rattle.std.specs.Prelude.{ℕ, ◌≡◌, ◌≢◌, ◌<◌, ◌⊎◌, List, slice_index}
use Rattle.tide_model.specs.declared.val.Val.{Val}
use Rattle.tide_words.specs.heap.Reading.{IsPairOf}

-- the word at this place is that of a pair of the key and the value
pub record PairStandsAt (words : List ℕ) (key : ℕ) (value : Val) (place : ℕ) : Type 0 where
  pub within : place < 8
  pub is_pair : IsPairOf key value (slice_index words place)

-- no word is that of a pair of the key
abbrev pub LacksKey : List ℕ → ℕ → Type 0
LacksKey words key = (value : Val) (place : ℕ) → PairStandsAt words key value place → ⊥

-- this place is the first without a pair
pub record IsFirstZero (words : List ℕ) (place : ℕ) : Type 0 where
  pub within : place < 8
  pub zero_there : slice_index words place ≡ 0
  pub earlier : (other : ℕ) → other < place → slice_index words other ≢ 0

-- each place has a pair
abbrev pub HasNoZero : List ℕ → Type 0
HasNoZero words = (place : ℕ) → place < 8 → slice_index words place ≢ 0

-- the place for a pair of the key: the one of its pair, and else the first without a pair
abbrev pub IsPlaceAmong : List ℕ → ℕ → ℕ → Type 0
IsPlaceAmong words key place =
    ((value : Val) × PairStandsAt words key value place) ⊎ (LacksKey words key × IsFirstZero words place)
