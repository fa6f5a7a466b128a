-- The names of property keys, and the numbers of the keys.
use Rattle.std.specs.Prelude.{ℕ, nat_le, nat_lt, length, Bool, ◌==◌, ◌&&◌, ◌||◌, if◌then◌else◌, List, [], ◌∷◌, ◌++◌, slice_index}
use Rattle.std.specs.Char.{is_ascii_digit, is_ascii_lowercase}
use Rattle.std.specs.List.{list_all, list_any, position_or_len}
use Rattle.std.specs.Str.{bytes_eq}

-- a byte of a key: a letter from a to z, a digit or `_`
abbrev pub is_key_byte : ℕ → Bool
is_key_byte byte = (is_ascii_lowercase byte || is_ascii_digit byte) || byte == 95

-- the word is a key: it has 1 to 16 bytes, and begins with a letter
unfoldable pub is_key : List ℕ → Bool
is_key word = ((nat_lt 0 (length word) && nat_le (length word) 16) && is_ascii_lowercase (slice_index word 0)) && list_all is_key_byte word

-- the word is one of the names
abbrev pub is_named : List (List ℕ) → List ℕ → Bool
is_named names word = list_any (λ name. bytes_eq name word) names

-- the names with one more at their end, unless it is there
abbrev pub add_name : List (List ℕ) → List ℕ → List (List ℕ)
add_name names word = if is_named names word then names else names ++ word ∷ []

-- the number of a key: the place of its name
abbrev pub key_number : List (List ℕ) → List ℕ → ℕ
key_number names word = position_or_len (λ name. bytes_eq name word) names
