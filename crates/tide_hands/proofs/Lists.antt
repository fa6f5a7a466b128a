-- What stands at a place of a list.
use Rattle.std.proofs.Common.{ℕ, zero, suc, ◌≡◌, ◌<◌, arith, refl, sym, ap, List, [], ◌∷◌, ◌++◌, length, inl, inr}
use Rattle.std.specs.Prelude.{◌⊎◌}
use lib.ListN.{get_elem?}
use mathlib.Core.Option.{some, some-injective, some-ne-none}

-- the place of an element is within the list
pub is_there : {X : Type 0} (xs : List X) (i : ℕ) (x : X) → get_elem? xs i ≡ some x → i < length xs
is_there [] i x e = absurd (some-ne-none x (sym e))
is_there (y ∷ ys) zero x e = omega arith
is_there (y ∷ ys) (suc i) x e = let h = is_there ys i x e in omega (arith, h)

-- an element of a list with one more at its end is one of the list, or that one
pub at_end : {X : Type 0} (xs : List X) (x y : X) (i : ℕ) → get_elem? (xs ++ x ∷ []) i ≡ some y →
    (get_elem? xs i ≡ some y) ⊎ ((i ≡ length xs) × (x ≡ y))
at_end [] x y zero e = inr (refl, some-injective x y e)
at_end [] x y (suc i) e = absurd (some-ne-none y (sym e))
at_end (z ∷ zs) x y zero e = inl e
at_end (z ∷ zs) x y (suc i) e = elim (at_end zs x y i e) [
  | inl old ↦ inl old
  | inr new ↦ inr (ap suc new.0, new.1)
]
