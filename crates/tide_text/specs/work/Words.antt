-- The words of a text, and the numbers that they spell.
use Rattle.std.specs.Prelude.{ℕ, ◌-◌, ◌^◌, Bool, not, ◌&&◌, ◌==◌, nat_lt, nat_le, if◌then◌else◌, List, [], ◌∷◌, length, slice_index, filter, Option, Some, None, option_and_then}
use Rattle.std.specs.Char.{is_ascii_digit}
use Rattle.std.specs.List.{list_all, slice_split}
use Rattle.std.specs.Str.Parse.{digits_value}

-- the byte that parts words
abbrev pub is_space : ℕ → Bool
is_space byte = byte == 32

-- a byte of a word
abbrev pub is_word_byte : ℕ → Bool
is_word_byte byte = not (is_space byte)

-- a text neither begins nor ends with a space
abbrev pub is_trimmed : List ℕ → Bool
is_trimmed text = not (is_space (slice_index text 0)) && not (is_space (slice_index text (length text - 1)))

-- the words of a text: what stands between its spaces and isn't empty
abbrev pub words_in : List ℕ → List (List ℕ)
words_in text = filter (λ part. nat_lt 0 (length part)) (slice_split is_space text)

-- the one word, where there is one
abbrev pub one_word : List (List ℕ) → Option (List ℕ)
one_word (only ∷ []) = Some only
one_word _ = None

-- the two words of a list that has just two
abbrev pub two_words : List (List ℕ) → Option (List ℕ × List ℕ)
two_words (first ∷ second ∷ []) = Some (first, second)
two_words _ = None

-- the three words of a list that has just three
abbrev pub three_words : List (List ℕ) → Option (List ℕ × List ℕ × List ℕ)
three_words (first ∷ second ∷ third ∷ []) = Some (first, second, third)
three_words _ = None

-- a word has one to ten decimal digits and nothing else
abbrev pub is_numeral : List ℕ → Bool
is_numeral word = (nat_lt 0 (length word) && nat_le (length word) 10) && list_all is_ascii_digit word

-- the number that a word spells, where it fits 32 bits
abbrev pub number_of : List ℕ → Option ℕ
number_of word = if is_numeral word && nat_lt (digits_value 10 word) (2 ^ 32) then Some (digits_value 10 word) else None

-- the number that a word spells, where it is below a limit
abbrev pub number_below : ℕ → List ℕ → Option ℕ
number_below limit word = option_and_then (λ number. if nat_lt number limit then Some number else None) (number_of word)
