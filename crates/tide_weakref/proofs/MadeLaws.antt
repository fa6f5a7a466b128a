-- What a mutator made since a moment, of what it had made in all.
use Rattle.std.proofs.Common.{◌≡◌, sym, ◌∙◌, ap, subst, List, [], ◌∷◌, ◌++◌, length, inl, inr, append_assoc, refl}
use Rattle.std.proofs.lemmas.List.Elements.{Contains-append_cases, Contains-append_left, Contains-append_right}
use Rattle.std.specs.Prelude.{Contains, drop, ◌⊎◌}
use Rattle.tide_model.specs.Prefix.{IsPrefix}
use Rattle.tide_model.specs.declared.entry.Event.{Event}

-- what came after a list
pub drop_all : {X : Type 0} (xs ys : List X) → drop (length xs) (xs ++ ys) ≡ ys
drop_all [] ys = refl
drop_all (x ∷ xs) ys = drop_all xs ys

-- what came since a moment
made_is : (old mid : List Event) → (first : IsPrefix old mid) → drop (length old) mid ≡ first.rest
made_is old mid first = ap (λ (l : List Event). drop (length old) l) (sym first.joins) ∙ drop_all old first.rest

module _ (old mid more : List Event) (event : Event) (first : IsPrefix old mid) (second : IsPrefix mid more) where
  -- since an earlier moment there came what came up to a later one, and what came then
  all_is : drop (length old) more ≡ first.rest ++ second.rest
  all_is =
      let whole : (old ++ first.rest) ++ second.rest ≡ more = ap (λ (l : List Event). l ++ second.rest) first.joins ∙ second.joins in
      ap (λ (l : List Event). drop (length old) l) (sym whole ∙ append_assoc old first.rest second.rest)
      ∙ drop_all old (first.rest ++ second.rest)

  -- an event that was made since a moment was so in a longer history
  pub made_more : Contains (drop (length old) mid) event → Contains (drop (length old) more) event
  made_more made = subst (λ (l : List Event). Contains l event) (sym all_is)
      (Contains-append_left first.rest second.rest event
      (subst (λ (l : List Event). Contains l event) (made_is old mid first) made))

  -- and since an earlier moment
  pub made_later : Contains (drop (length mid) more) event → Contains (drop (length old) more) event
  made_later made = subst (λ (l : List Event). Contains l event) (sym all_is)
      (Contains-append_right first.rest second.rest event
      (subst (λ (l : List Event). Contains l event) (made_is mid more second) made))

  -- one that was made since the earlier moment was made before the later one, or since that
  pub made_cases : Contains (drop (length old) more) event →
      Contains (drop (length old) mid) event ⊎ Contains (drop (length mid) more) event
  made_cases made = elim (Contains-append_cases first.rest second.rest event
      (subst (λ (l : List Event). Contains l event) all_is made)) [
        | inl before ↦ inl (subst (λ (l : List Event). Contains l event) (sym (made_is old mid first)) before)
        | inr after ↦ inr (subst (λ (l : List Event). Contains l event) (sym (made_is mid more second)) after)
      ]
