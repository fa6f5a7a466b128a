-- The words of array references and of claims.
use Rattle.std.specs.Prelude.{ℕ, ◌+◌, zero, suc, Option, Some, None}

-- the word of a number, or of none
abbrev pub optional_word : Option ℕ → ℕ
optional_word None = 0
optional_word (Some number) = number + 1

-- the number that a word is of, or none
abbrev pub optional_of : ℕ → Option ℕ
optional_of zero = None
optional_of (suc number) = Some number

-- the word of a cell's array, or of none
abbrev pub array_word : Option ℕ → ℕ
array_word array = optional_word array

-- the word of the mutator that holds a cell's claim, or of none
abbrev pub claim_word : Option ℕ → ℕ
claim_word holder = optional_word holder
