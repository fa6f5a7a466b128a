-- The keys and paths that reading makes are within a workload's limits.
use Rattle.std.proofs.Common.{◌≡◌, ℕ, ◌+◌, ◌<◌, ◌≤◌, Bool, true, false, cond, not, ◌&&◌, ◌||◌, nat_lt, nat_le, List, [], ◌∷◌, ◌++◌, length, map, refl, ap, ◌∙◌, arith, Result, Ok, Err, Option, Some, None, subst}
use Rattle.std.specs.Prelude.{All, IfOk, fold, if◌then◌else◌}
use Rattle.std.specs.List.{list_all}
use Rattle.std.specs.Str.{bytes_eq}
use Rattle.std.proofs.lemmas.Bool.{and_parts, leb-true, ltb-true}
use Rattle.std.proofs.lemmas.List.{length-map}
use Rattle.std.proofs.lemmas.List.Elements.{All-nil, All-cons, All-map, All-weaker}
use Rattle.std.proofs.lemmas.List.Folds.{list_any-append}
use Rattle.std.proofs.lemmas.Slice.Eq.{bytes_eq-Decides}
use Rattle.toml.specs.Data.{Members, get_member}
use Rattle.tide_shape.specs.Shapes.{first_double, IsPath}
use Rattle.tide_text.specs.declared.work.fault.Fault.{Fault}
use Rattle.tide_text.specs.declared.work.field.Field.TheVariants.{Shapes}
use Rattle.tide_workload.specs.Fields.{or_default}
use Rattle.tide_text.specs.work.FieldNames.{name_of}
use Rattle.tide_text.specs.work.Keys.{is_key, is_named, add_name, key_number}
use Rattle.tide_workload.specs.Shapes.{are_keys, paths_in, add_names, key_names, paths_by_number, unless_double, declared_by, declared_in}
use Rattle.tide_workload.specs.Steps.{◌>>=◌, Gives}
use Rattle.tide_text.specs.work.Work.{ArePaths}

same_word : (word : List ℕ) → bytes_eq word word ≡ true
same_word word = grind (arith, bytes_eq-Decides)

or_true : (b : Bool) → (b || true) ≡ true
or_true true = refl
or_true false = refl

-- a name stays one with another added
still_named : (names : List (List ℕ)) (word name : List ℕ) → is_named names name ≡ true → is_named (add_name names word) name ≡ true
still_named names word name is = step (is_named names word)
  where
    step : (b : Bool) → is_named (if b then names else names ++ word ∷ []) name ≡ true
    step true = is
    step false = list_any-append (λ known. bytes_eq known name) names (word ∷ []) ∙ rw is

-- and the other one is one then
now_named : (names : List (List ℕ)) (word : List ℕ) → is_named (add_name names word) word ≡ true
now_named names word = step (is_named names word) refl
  where
    step : (b : Bool) → is_named names word ≡ b → is_named (if b then names else names ++ word ∷ []) word ≡ true
    step true is = is
    step false is = list_any-append (λ known. bytes_eq known word) names (word ∷ []) ∙ rw (is, same_word word)

kept_by_path : (words names : List (List ℕ)) (name : List ℕ) → is_named names name ≡ true → is_named (add_names names words) name ≡ true
kept_by_path [] names name is = is
kept_by_path (word ∷ words) names name is = kept_by_path words (add_name names word) name (still_named names word name is)

kept_by_paths : (paths : List (List (List ℕ))) (names : List (List ℕ)) (name : List ℕ) → is_named names name ≡ true → is_named (fold add_names names paths) name ≡ true
kept_by_paths [] names name is = is
kept_by_paths (words ∷ paths) names name is = kept_by_paths paths (add_names names words) name (kept_by_path words names name is)

named_in_path : (words names : List (List ℕ)) → All (λ word. is_named (add_names names words) word ≡ true) words
named_in_path [] names = All-nil (λ word. is_named names word ≡ true)
named_in_path (word ∷ words) names =
    All-cons (λ name. is_named (add_names (add_name names word) words) name ≡ true) word words
    (kept_by_path words (add_name names word) word (now_named names word)) (named_in_path words (add_name names word))

-- each word of some paths is one of their names
named_in_paths : (paths : List (List (List ℕ))) (names : List (List ℕ)) → All (λ words. All (λ word. is_named (fold add_names names paths) word ≡ true) words) paths
named_in_paths [] names = All-nil (λ words. All (λ word. is_named names word ≡ true) words)
named_in_paths (words ∷ paths) names =
    All-cons (λ some. All (λ word. is_named (fold add_names (add_names names words) paths) word ≡ true) some) words paths
    (All-weaker (λ word. is_named (add_names names words) word ≡ true) (λ word. is_named (fold add_names (add_names names words) paths) word ≡ true)
    (λ word is. kept_by_paths paths (add_names names words) word is) words (named_in_path words names))
    (named_in_paths paths (add_names names words))

-- the number of a name is below how many there are
number_below_keys : (names : List (List ℕ)) (word : List ℕ) → is_named names word ≡ true → key_number names word < length names
number_below_keys [] word is = absurd (cc)
number_below_keys (name ∷ names) word is = step (bytes_eq name word) (number_below_keys names word) is
  where
    step : (b : Bool) → (is_named names word ≡ true → key_number names word < length names) → (b || is_named names word) ≡ true
        → cond (not b) (1 + key_number names word) 0 < length (name ∷ names)
    step true rest is = omega arith
    step false rest is = omega (arith, rest is)

numbered_path : (names words : List (List ℕ)) → All (λ word. is_named names word ≡ true) words → All (λ key. key < length names) (map (key_number names) words)
numbered_path names words all =
    All-map (λ key. key < length names) (key_number names) words
    (All-weaker (λ word. is_named names word ≡ true) (λ word. key_number names word < length names) (number_below_keys names) words all)

-- as many numbers as words
path_sized : (names words : List (List ℕ)) → are_keys words ≡ true → IsPath (map (key_number names) words)
path_sized names words keys =
    let sized = (and_parts (nat_lt 0 (length words) && nat_le (length words) 64) (list_all is_key words) keys).0 in
    let (some, short) = and_parts (nat_lt 0 (length words)) (nat_le (length words) 64) sized in
    let same = length-map words (key_number names) in
    record { some = omega (arith, ltb-true 0 (length words) some, same); short = omega (arith, leb-true (length words) 64 short, same) }

-- what is read of a document's paths
pub shapes_by : (table : Members) (words : List (List (List ℕ))) (keys numbers : List (List ℕ)) → or_default [] paths_in (get_member (name_of Shapes) table) ≡ Ok words
    → keys ≡ key_names words → numbers ≡ paths_by_number keys words → declared_in table ≡ unless_double keys numbers (first_double numbers)
unfolding declared_in
shapes_by table words keys numbers read named numbered =
    ap (λ (r : Result (List (List (List ℕ))) Fault). r >>= declared_by) read ∙ rw (numbered, named)

-- keys and paths that no path names twice are within the limits
pub shapes_within : (words : List (List (List ℕ))) (keys numbers : List (List ℕ)) → length words ≤ 64 → All (λ path. are_keys path ≡ true) words
    → keys ≡ key_names words → numbers ≡ paths_by_number keys words → first_double numbers ≡ None → ArePaths (length keys) numbers
shapes_within words keys numbers few sized named numbered distinct = record {
  few = rw numbered (omega (arith, length-map words (map (key_number keys))));
  sized = rw numbered (All-map IsPath (map (key_number keys)) words (All-weaker (λ path. are_keys path ≡ true) (λ path. IsPath (map (key_number keys) path)) (path_sized keys) words sized));
  named = rw (numbered, named) (All-map (λ path. All (λ key. key < length (key_names words)) path) (map (key_number (key_names words))) words
      (All-weaker (λ path. All (λ word. is_named (key_names words) word ≡ true) path) (λ path. All (λ key. key < length (key_names words)) (map (key_number (key_names words)) path))
      (numbered_path (key_names words)) words (named_in_paths words [])));
  distinct = distinct;
}

-- and so are those that were not refused
pub distinct_within : (keys numbers : List (List ℕ)) (made : Result (List (List ℕ) × List (List ℕ)) Fault) (twice : Option ℕ)
    → (twice ≡ None → ArePaths (length keys) numbers) → Gives (λ shapes. (shapes.0, shapes.1)) made (unless_double keys numbers twice)
    → IfOk made (λ shapes. ArePaths (length shapes.0) shapes.1)
distinct_within keys numbers (Err fault) twice within given = tt
distinct_within keys numbers (Ok shapes) (Some path) within given = absurd (cc)
distinct_within keys numbers (Ok shapes) None within given =
    let same : (keys, numbers) ≡ (shapes.0, shapes.1) = cc in
    subst (λ (both : List (List ℕ) × List (List ℕ)). ArePaths (length both.0) both.1) same (within refl)
