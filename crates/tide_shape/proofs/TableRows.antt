-- Small lists of shapes that are a table, and that are none.
use Rattle.std.proofs.Common.{◌≡◌, ◌≤◌, refl, arith, lit<, length, List, [], ◌∷◌, ℕ, Some}
use Rattle.std.proofs.lemmas.List.Elements.{All-cons, All-nil}
use Rattle.std.specs.Prelude.{slice_get, All}
use Rattle.tide_model.specs.Refused.{ShapeLists}
use Rattle.tide_shape.specs.ShapeTable.{IsShapeTable, HasNoKeyTwice}

-- the number 2 has no keys of its own, like the empty shape's
abbrev gapped : ShapeLists
gapped = [] ∷ (0 ∷ []) ∷ [] ∷ []

-- a table may have such a gap
pub gap_is_allowed : IsShapeTable gapped
gap_is_allowed = record {
  empty = refl;
  short = each (λ keys. length keys ≤ 64) (omega arith) (omega arith);
  distinct = each HasNoKeyTwice (λ i j d before within. absurd (omega arith)) (λ i j d before within. absurd (omega arith));
}
  where
    each : (P : List ℕ → Type 0) → P [] → P (0 ∷ []) → All P gapped
    each P at_empty at_key = All-cons P [] ((0 ∷ []) ∷ [] ∷ []) at_empty (All-cons P (0 ∷ []) ([] ∷ []) at_key (All-cons P [] [] at_empty (All-nil P)))

-- but its first shape is the empty one, and no shape has a key twice
pub first_shape_has_no_key : IsShapeTable ((0 ∷ []) ∷ gapped) → ⊥
first_shape_has_no_key table = let is : slice_get ((0 ∷ []) ∷ gapped) 0 ≡ Some [] = table.empty in absurd (cc)

pub key_is_not_had_twice : IsShapeTable ([] ∷ (0 ∷ 0 ∷ []) ∷ []) → ⊥
key_is_not_had_twice table = table.distinct 1 [] (lit< tt) 0 1 0 (lit< tt) (lit< tt) refl
