-- Lists of handles and of parties, place by place.
use Rattle.std.proofs.Common.{suc, ◌≡◌, List, [], ◌∷◌, ◌++◌, refl, ap, length}
use Rattle.std.specs.List.{AllZip}

-- a relation of two lists holds of one more place
pub AllZip-push : {A B : Type 0} (R : A → B → Type 0) (xs : List A) (ys : List B) (x : A) (y : B) →
    AllZip R xs ys → R x y → AllZip R (xs ++ x ∷ []) (ys ++ y ∷ [])
AllZip-push R [] [] x y are r = (r, tt)
AllZip-push R [] (b ∷ ys) x y are r = absurd are
AllZip-push R (a ∷ xs) [] x y are r = absurd are
AllZip-push R (a ∷ xs) (b ∷ ys) x y are r = (are.0, AllZip-push R xs ys x y are.1 r)

-- so are two such lists as long as one another
pub AllZip-length : {A B : Type 0} (R : A → B → Type 0) (xs : List A) (ys : List B) → AllZip R xs ys → length xs ≡ length ys
AllZip-length R [] [] are = refl
AllZip-length R [] (b ∷ ys) are = absurd are
AllZip-length R (a ∷ xs) [] are = absurd are
AllZip-length R (a ∷ xs) (b ∷ ys) are = ap suc (AllZip-length R xs ys are.1)
