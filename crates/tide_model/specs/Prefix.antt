-- One list is a beginning of another.
use Rattle.std.specs.Prelude.{◌≡◌, List, [], ◌∷◌, ◌++◌, refl}
use Rattle.std.proofs.Common.{◌∙◌, sym, ap, append_assoc, append-nil}

-- one list is a beginning of another: the second is the first with a rest
pub record IsPrefix {X : Type 0} (xs ys : List X) : Type 0 where
  pub rest : List X
  pub joins : xs ++ rest ≡ ys

-- each list is a beginning of itself
pub prefix_refl : {X : Type 0} (xs : List X) → IsPrefix xs xs
prefix_refl xs = record { rest = []; joins = append-nil xs }

-- a beginning of a beginning is one
pub prefix_trans : {X : Type 0} (xs ys zs : List X) → IsPrefix xs ys → IsPrefix ys zs → IsPrefix xs zs
prefix_trans xs ys zs one other = record {
  rest = one.rest ++ other.rest;
  joins = sym (append_assoc xs one.rest other.rest) ∙ (ap (λ (front : List _). front ++ other.rest) one.joins ∙ other.joins);
}

-- a list is a beginning of what one more at its end makes of it
pub prefix_push : {X : Type 0} (xs : List X) (x : X) → IsPrefix xs (xs ++ x ∷ [])
prefix_push xs x = record { rest = x ∷ []; joins = refl }
