-- The paths that a document declares, and how they number the keys.
use Rattle.std.specs.Prelude.{ℕ, nat_le, nat_lt, length, Bool, ◌&&◌, if◌then◌else◌, List, [], map, fold, Option, Some, None, option_and_then, Result, Ok, Err}
use Rattle.std.specs.List.{list_all}
use Rattle.toml.specs.Data.{Data, as_str, Members, get_member}
use Rattle.tide_shape.specs.Shapes.{first_double}
use Rattle.tide_text.specs.declared.work.fault.Fault.{Fault}
use Rattle.tide_text.specs.declared.work.fault.Fault.TheVariants.{Bad}
use Rattle.tide_text.specs.declared.work.field.Field.TheVariants.{Shapes}
use Rattle.tide_text.specs.work.FieldNames.{name_of}
use Rattle.tide_text.specs.work.Keys.{is_key, add_name, key_number}
use Rattle.tide_text.specs.work.Words.{is_trimmed, words_in}
use Rattle.tide_workload.specs.Fields.{or_default, values_in}
use Rattle.tide_workload.specs.Steps.{◌>>=◌, each, good}

-- the words are a path: 1 to 64 keys
abbrev pub are_keys : List (List ℕ) → Bool
are_keys words = (nat_lt 0 (length words) && nat_le (length words) 64) && list_all is_key words

-- the words of a path's text
abbrev pub path_words : List ℕ → Option (List (List ℕ))
path_words text = if is_trimmed text && are_keys (words_in text) then Some (words_in text) else None

-- the words of the path that a value is the text of
abbrev pub path_in : Data → Result (List (List ℕ)) Fault
path_in value = good Shapes (option_and_then path_words (as_str value))

-- the words of each path that a value declares, 64 paths at most
abbrev pub paths_in : Data → Result (List (List (List ℕ))) Fault
paths_in value = do
  values ← values_in Shapes 0 64 value
  each path_in values

-- the names with those of a path's words at their end that are new
abbrev pub add_names : List (List ℕ) → List (List ℕ) → List (List ℕ)
add_names names words = fold add_name names words

-- the names of the keys by number: each word once, in the order in which the paths, from first to last and from
-- their front, name them first
abbrev pub key_names : List (List (List ℕ)) → List (List ℕ)
key_names paths = fold add_names [] paths

-- the paths as the numbers of their keys
abbrev pub paths_by_number : List (List ℕ) → List (List (List ℕ)) → List (List ℕ)
paths_by_number names paths = map (map (key_number names)) paths

-- keys and paths, unless there is a path that names a key twice
abbrev pub unless_double : List (List ℕ) → List (List ℕ) → Option ℕ → Result (List (List ℕ) × List (List ℕ)) Fault
unless_double keys paths None = Ok (keys, paths)
unless_double keys paths (Some path) = Err (Bad Shapes)

-- the names of the keys and the paths by number, none of which may name a key twice
abbrev pub declared_by : List (List (List ℕ)) → Result (List (List ℕ) × List (List ℕ)) Fault
declared_by words =
    unless_double (key_names words) (paths_by_number (key_names words) words) (first_double (paths_by_number (key_names words) words))

-- the keys and the paths of a document, which has none where the field isn't there
unfoldable pub declared_in : Members → Result (List (List ℕ) × List (List ℕ)) Fault
declared_in document = do
  words ← or_default [] paths_in (get_member (name_of Shapes) document)
  declared_by words
