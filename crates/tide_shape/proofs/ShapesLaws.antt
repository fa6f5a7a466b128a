-- What one more list of keys makes of some shapes.
use Rattle.std.proofs.Common.{ℕ, ◌≡◌, refl, List, [], ◌∷◌, ◌++◌, Some}
use Rattle.std.proofs.lemmas.Bool.{cond-true, cond-false, false_from_ne_true}
use Rattle.std.proofs.lemmas.Bool.Decides.{Decides-by_or}
use Rattle.std.proofs.lemmas.List.Elements.{Decides-contains}
use Rattle.std.proofs.lemmas.Option.{slice_get_within, get_or_from_slice_get}
use Rattle.std.proofs.lemmas.Slice.Eq.{bytes_eq-Decides}
use Rattle.std.specs.Bool.{Decides}
use Rattle.std.specs.Prelude.{slice_get, Contains}
use Rattle.std.specs.Str.{bytes_eq}
use Rattle.tide_model.specs.Refused.{ShapeLists, is_shape}
use Rattle.tide_shape.specs.Shapes.{add_if_new}

-- the test says whether the shapes have one with these keys
pub is_shape-Decides : (shapes : ShapeLists) (keys : List ℕ) → Decides (is_shape shapes keys) (Contains shapes keys)
is_shape-Decides shapes keys =
    Decides-contains shapes keys (is_shape shapes keys)
    (Decides-by_or (λ shape. bytes_eq shape keys) (λ shape. shape ≡ keys) (λ xs. is_shape xs keys) (λ shape. bytes_eq-Decides shape keys) refl (λ _ _. refl) shapes)

-- a shape with its number is one of the shapes
pub Contains-slice_get : (shapes : ShapeLists) (n : ℕ) (keys : List ℕ) → slice_get shapes n ≡ Some keys → Contains shapes keys
Contains-slice_get shapes n keys is = (n, slice_get_within shapes n keys is, get_or_from_slice_get shapes n keys keys is)

-- a list that is there adds nothing, and another stands at the end
pub add_known : (shapes : ShapeLists) (keys : List ℕ) → Contains shapes keys → add_if_new shapes keys ≡ shapes
add_known shapes keys known =
    cond-true (is_shape shapes keys) shapes (shapes ++ keys ∷ []) ((is_shape-Decides shapes keys).1 known)

pub add_new : (shapes : ShapeLists) (keys : List ℕ) → ¬ (Contains shapes keys) → add_if_new shapes keys ≡ shapes ++ keys ∷ []
add_new shapes keys fresh =
    cond-false (is_shape shapes keys) shapes (shapes ++ keys ∷ [])
    (false_from_ne_true (is_shape shapes keys) (λ is. fresh ((is_shape-Decides shapes keys).0 is)))
