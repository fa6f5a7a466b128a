-- The words of values.
use Rattle.std.specs.Prelude.{◌≡◌, ℕ, ◌+◌, ◌*◌, ◌^◌, ◌<◌}
use Rattle.tide_model.specs.declared.val.Val.{Val}
use Rattle.tide_model.specs.declared.val.Val.TheVariants.{Empty, Int, Cell}

-- the word of a value
abbrev pub val_word : Val → ℕ
val_word Empty = 0
val_word (Int n) = 4 * n + 1
val_word (Cell cell) = 4 * cell + 2

-- the value's number is a u32, as in each value that a program can hold
abbrev pub HasU32 : Val → Type 0
HasU32 Empty = Unit {0}
HasU32 (Int n) = n < 2 ^ 32
HasU32 (Cell cell) = cell < 2 ^ 32

-- some value has this word
abbrev pub IsValWord : ℕ → Type 0
IsValWord word = (value : Val) × HasU32 value × (val_word value ≡ word)
