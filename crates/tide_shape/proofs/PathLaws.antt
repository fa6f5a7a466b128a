-- How the beginnings of a path are added, one after another.
use Rattle.std.proofs.Common.{ℕ, zero, suc, ◌≡◌, ◌+◌, ◌<◌, ◌≤◌, refl, sym, ◌∙◌, ap, arith, List, [], ◌∷◌, ◌++◌, length, get_or, take, Some, Bool, true, false}
use Rattle.std.proofs.lemmas.List.{length-map, get_or-map, take_more, take_all, length_push}
use Rattle.std.proofs.lemmas.List.Sums.{fold_more}
use Rattle.std.proofs.lemmas.Option.{get_or_from_slice_get}
use Rattle.std.specs.Prelude.{fold, slice_get, if◌then◌else◌}
use Rattle.tide_model.specs.Refused.{ShapeLists, is_shape}
use Rattle.tide_shape.specs.ShapeTable.{keys_of}
use Rattle.tide_shape.specs.Shapes.{add_if_new, beginnings}

-- a path has as many beginnings as keys, and each is so many keys of it
pub length-beginnings : (path : List ℕ) → length (beginnings path) ≡ length path
length-beginnings [] = refl
length-beginnings (key ∷ keys) = ap suc (length-map (beginnings keys) (λ beginning. key ∷ beginning) ∙ length-beginnings keys)

pub get_or-beginnings : (path : List ℕ) (i : ℕ) (d : List ℕ) → i < length path → get_or (beginnings path) i d ≡ take (suc i) path
get_or-beginnings [] i d within = absurd (omega arith)
get_or-beginnings (key ∷ keys) zero d within = refl
get_or-beginnings (key ∷ keys) (suc i) d within =
    get_or-map (λ beginning. key ∷ beginning) (beginnings keys) i d d (omega (arith, within, length-beginnings keys))
    ∙ ap (λ (rest : List ℕ). key ∷ rest) (get_or-beginnings keys i d (omega arith))

-- one shape more at most
pub length-add_if_new : (shapes : ShapeLists) (keys : List ℕ) → length (add_if_new shapes keys) ≤ length shapes + 1
length-add_if_new shapes keys = step (is_shape shapes keys)
  where
    step : (known : Bool) → length (if known then shapes else shapes ++ keys ∷ []) ≤ length shapes + 1
    step true = omega arith
    step false = omega (arith, length_push shapes keys)

-- the first so many beginnings of the path have been added, and the last of them is this shape
pub record HasAdded (before shapes : ShapeLists) (path : List ℕ) (count shape : ℕ) : Type 0 where
  pub added : shapes ≡ fold add_if_new before (take count (beginnings path))
  pub at : slice_get shapes shape ≡ Some (take count path)
  pub few : length shapes ≤ length before + count

pub HasAdded-more : (before shapes grown : ShapeLists) (path : List ℕ) (count shape child : ℕ) → count < length path →
    HasAdded before shapes path count shape → grown ≡ add_if_new shapes (keys_of shapes shape ++ get_or path count 0 ∷ []) →
    slice_get grown child ≡ Some (keys_of shapes shape ++ get_or path count 0 ∷ []) → HasAdded before grown path (count + 1) child
HasAdded-more before shapes grown path count shape child within h is at = record {
  added =
      is ∙ ap (λ (xs : ShapeLists). add_if_new xs (keys_of shapes shape ++ get_or path count 0 ∷ [])) h.added
      ∙ ap (λ (keys : List ℕ). add_if_new (fold add_if_new before (take count (beginnings path))) keys) (longer ∙ sym next)
      ∙ sym (fold_more add_if_new before (beginnings path) count [] (omega (arith, within, length-beginnings path)));
  at = at ∙ ap (λ (keys : List ℕ). Some keys) longer;
  few = let grew : length grown ≡ length (add_if_new shapes (keys_of shapes shape ++ get_or path count 0 ∷ [])) = ap (λ (xs : ShapeLists). length xs) is in
      let had = h.few in omega (arith, grew, had, length-add_if_new shapes (keys_of shapes shape ++ get_or path count 0 ∷ []));
}
  where
    longer : keys_of shapes shape ++ get_or path count 0 ∷ [] ≡ take (count + 1) path
    longer =
        ap (λ (keys : List ℕ). keys ++ get_or path count 0 ∷ []) (get_or_from_slice_get shapes shape (take count path) [] h.at) ∙ sym (take_more path count 0 within)

    next : get_or (beginnings path) count [] ≡ take (count + 1) path
    next = let one : suc count ≡ count + 1 = omega arith in get_or-beginnings path count [] within ∙ ap (λ (n : ℕ). take n path) one

-- all of them
pub HasAdded-all : (before shapes : ShapeLists) (path : List ℕ) (count shape : ℕ) → length path ≤ count → HasAdded before shapes path count shape →
    shapes ≡ fold add_if_new before (beginnings path)
HasAdded-all before shapes path count shape all h =
    h.added ∙ ap (λ (xs : ShapeLists). fold add_if_new before xs) (take_all count (beginnings path) (omega (arith, all, length-beginnings path)))
