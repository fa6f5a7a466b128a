-- Beginnings of a list, and those of its elements that pass a test.
use Rattle.std.proofs.Common.{◌≡◌, ◌⊎◌, refl, sym, ◌∙◌, ap, List, [], ◌∷◌, ◌++◌, append-nil, inl, inr, Bool}
use Rattle.std.proofs.lemmas.List.{append_cancel_left}
use Rattle.std.proofs.lemmas.List.Elements.{filter-append}
use Rattle.std.specs.Prelude.{filter}
use Rattle.tide_model.specs.Prefix.{IsPrefix}

head_same : {X : Type 0} (x y : X) (xs ys : List X) → x ∷ xs ≡ y ∷ ys → x ≡ y
head_same x y xs ys e = cc

tail_same : {X : Type 0} (x y : X) (xs ys : List X) → x ∷ xs ≡ y ∷ ys → xs ≡ ys
tail_same x y xs ys e = cc

-- two lists join to nothing where both are nothing
pub none_joins : {X : Type 0} (xs ys : List X) → xs ++ ys ≡ [] → (xs ≡ []) × (ys ≡ [])
none_joins [] ys none = (refl, none)
none_joins (x ∷ xs) ys none = absurd (cc)

prefix-cons : {X : Type 0} (x y : X) (xs ys : List X) → x ≡ y → IsPrefix xs ys → IsPrefix (x ∷ xs) (y ∷ ys)
prefix-cons x y xs ys same prefix = record {
  rest = prefix.rest;
  joins = ap (λ (z : _). z ∷ (xs ++ prefix.rest)) same ∙ ap (λ (zs : List _). y ∷ zs) prefix.joins;
}

-- of two beginnings of a list one is a beginning of the other
pub prefix_of_prefix : {X : Type 0} (xs ys zs : List X) → IsPrefix xs zs → IsPrefix ys zs → IsPrefix xs ys ⊎ IsPrefix ys xs
prefix_of_prefix [] ys zs one other = inl (record { rest = ys; joins = refl })
prefix_of_prefix (x ∷ xs) [] zs one other = inr (record { rest = x ∷ xs; joins = refl })
prefix_of_prefix (x ∷ xs) (y ∷ ys) [] one other = (let e = one.joins in absurd (cc))
prefix_of_prefix (x ∷ xs) (y ∷ ys) (z ∷ zs) one other =
    let first = head_same x z (xs ++ one.rest) zs one.joins in
    let second = head_same y z (ys ++ other.rest) zs other.joins in
    elim (prefix_of_prefix xs ys zs (record { rest = one.rest; joins = tail_same x z (xs ++ one.rest) zs one.joins })
    (record { rest = other.rest; joins = tail_same y z (ys ++ other.rest) zs other.joins })) [
      | inl shorter ↦ inl (prefix-cons x y xs ys (first ∙ sym second) shorter)
      | inr longer ↦ inr (prefix-cons y x ys xs (second ∙ sym first) longer)
    ]

-- a beginning of a list with one more element is the whole, or a beginning of what is before that element
pub prefix_before : {X : Type 0} (xs ys : List X) (y : X) → IsPrefix xs (ys ++ y ∷ []) → IsPrefix xs ys ⊎ (xs ≡ ys ++ y ∷ [])
prefix_before [] ys y prefix = inl (record { rest = ys; joins = refl })
prefix_before (x ∷ xs) [] y prefix =
    let none = (none_joins xs prefix.rest (tail_same x y (xs ++ prefix.rest) [] prefix.joins)).0 in
    inr (ap (λ (z : _). z ∷ xs) (head_same x y (xs ++ prefix.rest) [] prefix.joins) ∙ ap (λ (zs : List _). y ∷ zs) none)
prefix_before (x ∷ xs) (z ∷ ys) y prefix =
    let first = head_same x z (xs ++ prefix.rest) (ys ++ y ∷ []) prefix.joins in
    elim (prefix_before xs ys y (record { rest = prefix.rest; joins = tail_same x z (xs ++ prefix.rest) (ys ++ y ∷ []) prefix.joins })) [
      | inl shorter ↦ inl (prefix-cons x z xs ys first shorter)
      | inr whole ↦ inr (ap (λ (w : _). w ∷ xs) first ∙ ap (λ (zs : List _). z ∷ zs) whole)
    ]

-- nothing passes in what comes after a beginning in which all that passes is
pub filter-rest : {X : Type 0} (test : X → Bool) (xs ys : List X) (prefix : IsPrefix xs ys) → filter test xs ≡ filter test ys → filter test prefix.rest ≡ []
filter-rest test xs ys prefix same =
    append_cancel_left (filter test xs) (filter test prefix.rest) []
    (sym (filter-append test xs prefix.rest) ∙ ap (filter test) prefix.joins ∙ sym same ∙ sym (append-nil (filter test xs)))
