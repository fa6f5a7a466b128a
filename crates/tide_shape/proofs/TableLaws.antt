-- The shapes of paths are a table.
use Rattle.std.proofs.Common.{ℕ, suc, ◌≡◌, ◌≢◌, ◌+◌, ◌*◌, ◌<◌, ◌≤◌, refl, sym, ◌∙◌, ap, subst, arith, Bool, true, false, List, [], ◌∷◌, ◌++◌, length, length-take, append-nil, get_or, take, Some}
use Rattle.std.proofs.lemmas.List.{get_or-take, take_more}
use Rattle.std.proofs.lemmas.List.Concat.{flat_map-append}
use Rattle.std.proofs.lemmas.List.Elements.{All-push, All-head, All-tail, All-nil, All-cons, All-from_get_or}
use Rattle.std.proofs.lemmas.List.Sums.{fold-append}
use Rattle.std.proofs.lemmas.Option.{slice_get_within, get_or_from_slice_get}
use Rattle.std.specs.List.{flat_map}
use Rattle.std.specs.Prelude.{fold, slice_get, All, if◌then◌else◌}
use Rattle.tide_model.specs.Refused.{ShapeLists, no_shapes, is_shape}
use Rattle.tide_shape.specs.ShapeTable.{IsShapeTable, HasNoKeyTwice}
use Rattle.tide_shape.specs.Shapes.{add_if_new, beginnings, names_twice, shapes_of_paths, IsPath}
use Rattle.tide_shape.proofs.DoubleLaws.{HasNoKeyTwice-path}
use Rattle.tide_shape.proofs.PathLaws.{length-beginnings, get_or-beginnings, length-add_if_new}

-- keys that a shape may have
record IsGood (keys : List ℕ) : Type 0 where
  pub short : length keys ≤ 64
  pub distinct : HasNoKeyTwice keys

IsGood-take : (n : ℕ) (keys : List ℕ) → IsGood keys → IsGood (take n keys)
IsGood-take n keys good = record {
  short = let short = good.short in omega (arith, short, length-take n keys);
  distinct = λ i j d before within.
      let below : j < n = omega (arith, within, length-take n keys) in
      let there : j < length keys = omega (arith, within, length-take n keys) in
      subst (λ x. x ≢ get_or (take n keys) j d) (sym (get_or-take n keys i d (omega arith)))
      (subst (λ y. get_or keys i d ≢ y) (sym (get_or-take n keys j d below)) (good.distinct i j d before there));
}

-- the empty shape alone is a table
no_shapes-is_table : IsShapeTable no_shapes
no_shapes-is_table = record {
  empty = refl;
  short = All-cons (λ keys. length keys ≤ 64) [] [] (omega arith) (All-nil (λ keys. length keys ≤ 64));
  distinct = All-cons HasNoKeyTwice [] [] (λ i j d before within. absurd (omega arith)) (All-nil HasNoKeyTwice);
}

-- and stays one with another shape
push-is_table : (shapes : ShapeLists) (keys : List ℕ) → IsGood keys → IsShapeTable shapes → IsShapeTable (shapes ++ keys ∷ [])
push-is_table shapes keys good table = record {
  empty = first shapes table.empty;
  short = All-push (λ ks. length ks ≤ 64) shapes keys table.short good.short;
  distinct = All-push HasNoKeyTwice shapes keys table.distinct good.distinct;
}
  where
    first : (xs : ShapeLists) → slice_get xs 0 ≡ Some [] → slice_get (xs ++ keys ∷ []) 0 ≡ Some []
    first [] is = absurd (cc)
    first (x ∷ xs) is = is

add_if_new-is_table : (shapes : ShapeLists) (keys : List ℕ) → IsGood keys → IsShapeTable shapes → IsShapeTable (add_if_new shapes keys)
add_if_new-is_table shapes keys good table = step (is_shape shapes keys)
  where
    step : (known : Bool) → IsShapeTable (if known then shapes else shapes ++ keys ∷ [])
    step true = table
    step false = push-is_table shapes keys good table

fold-is_table : (lists : List (List ℕ)) (shapes : ShapeLists) → All IsGood lists → IsShapeTable shapes → IsShapeTable (fold add_if_new shapes lists)
fold-is_table [] shapes good table = table
fold-is_table (keys ∷ lists) shapes good table =
    fold-is_table lists (add_if_new shapes keys) (All-tail IsGood keys lists good) (add_if_new-is_table shapes keys (All-head IsGood keys lists good) table)

-- each beginning of a path is good if the path is
beginnings-are_good : (path : List ℕ) → IsGood path → All IsGood (beginnings path)
beginnings-are_good path good =
    All-from_get_or IsGood (beginnings path) [] (λ i within.
    subst IsGood (sym (get_or-beginnings path i [] (omega (arith, within, length-beginnings path)))) (IsGood-take (suc i) path good))

paths-are_table : (paths : List (List ℕ)) (shapes : ShapeLists) → All IsGood paths → IsShapeTable shapes →
    IsShapeTable (fold add_if_new shapes (flat_map beginnings paths))
paths-are_table [] shapes good table = table
paths-are_table (path ∷ paths) shapes good table =
    subst IsShapeTable (sym (fold-append add_if_new shapes (beginnings path) (flat_map beginnings paths)))
    (paths-are_table paths (fold add_if_new shapes (beginnings path)) (All-tail IsGood path paths good)
    (fold-is_table (beginnings path) shapes (beginnings-are_good path (All-head IsGood path paths good)) table))

-- the shapes of paths that name no key twice are a table
pub shapes_of_paths-is_table : (paths : List (List ℕ)) → All IsPath paths → All (λ path. names_twice path ≡ false) paths → IsShapeTable (shapes_of_paths paths)
shapes_of_paths-is_table paths sized once =
    paths-are_table paths no_shapes (λ k d within. record { short = (sized k d within).short; distinct = HasNoKeyTwice-path (get_or paths k d) (once k d within) }) no_shapes-is_table

-- one path more
pub shapes_of_paths-push : (paths : List (List ℕ)) (path : List ℕ) → shapes_of_paths (paths ++ path ∷ []) ≡ fold add_if_new (shapes_of_paths paths) (beginnings path)
shapes_of_paths-push paths path =
    ap (λ (xs : List (List ℕ)). fold add_if_new no_shapes xs)
    (flat_map-append beginnings paths (path ∷ []) ∙ ap (λ (xs : List (List ℕ)). flat_map beginnings paths ++ xs) (append-nil (beginnings path)))
    ∙ fold-append add_if_new no_shapes (flat_map beginnings paths) (beginnings path)

-- the first shape stays the empty one, and a path adds as many shapes as it has keys at most
pub fold-empty : (lists : List (List ℕ)) (shapes : ShapeLists) → slice_get shapes 0 ≡ Some [] → slice_get (fold add_if_new shapes lists) 0 ≡ Some []
fold-empty [] shapes is = is
fold-empty (keys ∷ lists) shapes is = fold-empty lists (add_if_new shapes keys) (step (is_shape shapes keys) shapes is)
  where
    step : (known : Bool) (xs : ShapeLists) → slice_get xs 0 ≡ Some [] → slice_get (if known then xs else xs ++ keys ∷ []) 0 ≡ Some []
    step true xs is = is
    step false [] is = absurd (cc)
    step false (x ∷ xs) is = is

pub length-fold : (lists : List (List ℕ)) (shapes : ShapeLists) → length (fold add_if_new shapes lists) ≤ length shapes + length lists
length-fold [] shapes = omega arith
length-fold (keys ∷ lists) shapes =
    omega (arith, length-fold lists (add_if_new shapes keys), length-add_if_new shapes keys)

-- the first so many paths have been added
pub record HasPaths (paths : List (List ℕ)) (count : ℕ) (shapes : ShapeLists) : Type 0 where
  pub added : shapes ≡ shapes_of_paths (take count paths)
  pub few : length shapes ≤ 1 + 64 * count
  pub empty : slice_get shapes 0 ≡ Some []

pub HasPaths-more : (paths : List (List ℕ)) (count : ℕ) (path : List ℕ) (shapes grown : ShapeLists) → All IsPath paths → slice_get paths count ≡ Some path →
    HasPaths paths count shapes → grown ≡ fold add_if_new shapes (beginnings path) → HasPaths paths (count + 1) grown
HasPaths-more paths count path shapes grown sized is h grew = record {
  added = grew ∙ ap (λ (xs : ShapeLists). fold add_if_new xs (beginnings path)) h.added ∙ sym (shapes_of_paths-push (take count paths) path) ∙ ap shapes_of_paths (sym longer);
  few =
      let had = h.few in
      let short : length path ≤ 64 = subst (λ (p : List ℕ). length p ≤ 64) here (sized count [] within).short in
      let same : length grown ≡ length (fold add_if_new shapes (beginnings path)) = ap (λ (xs : ShapeLists). length xs) grew in
      omega (arith, had, short, same, length-fold (beginnings path) shapes, length-beginnings path);
  empty = subst (λ (xs : ShapeLists). slice_get xs 0 ≡ Some []) (sym grew) (fold-empty (beginnings path) shapes h.empty);
}
  where
    within : count < length paths
    within = slice_get_within paths count path is

    here : get_or paths count [] ≡ path
    here = get_or_from_slice_get paths count path [] is

    longer : take (count + 1) paths ≡ take count paths ++ path ∷ []
    longer = take_more paths count [] within ∙ ap (λ (p : List ℕ). take count paths ++ p ∷ []) here
