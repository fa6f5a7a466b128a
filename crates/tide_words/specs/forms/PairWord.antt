-- The words of a table's pairs.
use Rattle.std.specs.Prelude.{◌≡◌, ℕ, ◌+◌, ◌*◌, ◌^◌, ◌<◌}
use Rattle.tide_model.specs.declared.val.Val.{Val}
use Rattle.tide_words.specs.forms.ValueWord.{val_word, HasU32}

-- no layout has more cells: 64 in each of 262,144 blocks of five classes
abbrev pub max_cells : ℕ
max_cells = 83886080

-- the word of the pair of a key cell and a value
abbrev pub pair_word : ℕ → Val → ℕ
pair_word key value = 2 ^ 36 * (key + 1) + val_word value

-- some pair has this word
abbrev pub IsPairWord : ℕ → Type 0
IsPairWord word = (key : ℕ) × (value : Val) × (key < max_cells) × HasU32 value × (pair_word key value ≡ word)
