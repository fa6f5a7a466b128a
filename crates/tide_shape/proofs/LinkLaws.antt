-- How the links of the shapes grow by one shape.
use Rattle.std.proofs.Common.{ℕ, ◌≡◌, ◌≢◌, ◌+◌, ◌<◌, ◌≤◌, refl, sym, ◌∙◌, ap, subst, arith, List, [], ◌∷◌, ◌++◌, length, length-append, inl, inr, None, Some}
use Rattle.std.proofs.lemmas.Bool.{cases_eq}
use Rattle.std.proofs.lemmas.List.{same_from_push}
use Rattle.std.proofs.lemmas.Option.{IfSome_then}
use Rattle.std.specs.Prelude.{IfSome, IsSomeAnd}
use Rattle.tide_shape.specs.Tree.{Links, AreLinked}

-- a list isn't itself with one more at its end
not_longer : (xs : List ℕ) (x : ℕ) → xs ≡ xs ++ x ∷ [] → ⊥
not_longer xs x same =
    let longer : length xs ≡ length (xs ++ x ∷ []) = ap length same in omega (arith, longer, length-append xs (x ∷ []))

-- what holds at the new shape and at each old one holds at all
at_each : (count : ℕ) (P : ℕ → Type 0) → P count → ((n : ℕ) → n < count → P n) → (n : ℕ) → n < count + 1 → P n
at_each count P last each n within =
    elim (cases_eq n count) [ inl same ↦ subst P (sym same) last | inr other ↦ each n (omega arith) ]

-- one shape more, numbered by the count, which is the parent with one more key, and which no shape was
pub record Grows (count parent key : ℕ) (old new : Links) : Type 0 where
  pub there : parent < count
  pub fresh : (n : ℕ) → n < count → old.keys n ≢ old.keys parent ++ key ∷ []
  pub new_keys : new.keys count ≡ old.keys parent ++ key ∷ []
  pub new_last : new.last count ≡ key
  pub new_newest : new.newest count ≡ None
  pub new_older : new.older count ≡ old.newest parent
  pub parent_newest : new.newest parent ≡ Some count
  pub old_keys : (n : ℕ) → n < count → new.keys n ≡ old.keys n
  pub old_last : (n : ℕ) → n < count → new.last n ≡ old.last n
  pub old_newest : (n : ℕ) → n < count → n ≢ parent → new.newest n ≡ old.newest n
  pub old_older : (n : ℕ) → n < count → new.older n ≡ old.older n

module _ (count parent key : ℕ) (old new : Links) (g : Grows count parent key old new) (l : AreLinked count old) where
  -- the new keys, less the last, are the parent's
  parent_front : (front : List ℕ) (k : ℕ) → new.keys count ≡ front ++ k ∷ [] → old.keys parent ≡ front
  parent_front front k is = (same_from_push (old.keys parent) front key k (sym g.new_keys ∙ is)).0

  child_grown : (p : ℕ) → p < count + 1 →
      IfSome (new.newest p) (λ child. (child < count + 1) × (new.keys child ≡ new.keys p ++ new.last child ∷ []))
  child_grown p within =
      elim (cases_eq p parent) [
        | inl same ↦ subst (λ q. IfSome (new.newest q) (λ child. (child < count + 1) × (new.keys child ≡ new.keys q ++ new.last child ∷ []))) (sym same)
            (subst (λ o. IfSome o (λ child. (child < count + 1) × (new.keys child ≡ new.keys parent ++ new.last child ∷ []))) (sym g.parent_newest)
            (omega arith, let a = g.new_keys in let b = g.new_last in let c = g.old_keys parent g.there in cc))
        | inr other ↦ at_each count (λ q. q ≢ parent → IfSome (new.newest q) (λ child. (child < count + 1) × (new.keys child ≡ new.keys q ++ new.last child ∷ [])))
            (λ _. subst (λ o. IfSome o (λ child. (child < count + 1) × (new.keys child ≡ new.keys count ++ new.last child ∷ []))) (sym g.new_newest) tt)
            (λ q below apart. subst (λ o. IfSome o (λ child. (child < count + 1) × (new.keys child ≡ new.keys q ++ new.last child ∷ []))) (sym (g.old_newest q below apart))
            (IfSome_then (old.newest q) (l.child q below) (λ child is. (omega (arith, is.0), kept q child below is.0 is.1))))
            p within other
      ]
    where
      kept : (q child : ℕ) → q < count → child < count → old.keys child ≡ old.keys q ++ old.last child ∷ [] →
          new.keys child ≡ new.keys q ++ new.last child ∷ []
      kept q child at under is = let a = g.old_keys q at in let b = g.old_keys child under in let c = g.old_last child under in cc

  sibling_grown : (child : ℕ) → child < count + 1 →
      IfSome (new.older child) (λ other. (other < child)
      × ((front : List ℕ) → new.keys child ≡ front ++ new.last child ∷ [] → new.keys other ≡ front ++ new.last other ∷ []))
  sibling_grown =
      at_each count (λ child. IfSome (new.older child) (λ other. (other < child)
      × ((front : List ℕ) → new.keys child ≡ front ++ new.last child ∷ [] → new.keys other ≡ front ++ new.last other ∷ [])))
      (subst (λ o. IfSome o (λ other. (other < count)
      × ((front : List ℕ) → new.keys count ≡ front ++ new.last count ∷ [] → new.keys other ≡ front ++ new.last other ∷ []))) (sym g.new_older)
      (IfSome_then (old.newest parent) (l.child parent g.there) (λ other is. (is.0, λ front e. first other front is.0 is.1 (parent_front front (new.last count) e)))))
      (λ child below. subst (λ o. IfSome o (λ other. (other < child)
      × ((front : List ℕ) → new.keys child ≡ front ++ new.last child ∷ [] → new.keys other ≡ front ++ new.last other ∷ []))) (sym (g.old_older child below))
      (IfSome_then (old.older child) (l.sibling child below) (λ other is. (is.0, λ front e. kept child other front below is.0 e (is.1 front)))))
    where
      first : (other : ℕ) (front : List ℕ) → other < count → old.keys other ≡ old.keys parent ++ old.last other ∷ [] → old.keys parent ≡ front →
          new.keys other ≡ front ++ new.last other ∷ []
      first other front under is e = let a = g.old_keys other under in let b = g.old_last other under in cc

      kept : (child other : ℕ) (front : List ℕ) → child < count → other < child → new.keys child ≡ front ++ new.last child ∷ [] →
          (old.keys child ≡ front ++ old.last child ∷ [] → old.keys other ≡ front ++ old.last other ∷ []) → new.keys other ≡ front ++ new.last other ∷ []
      kept child other front below under e is =
          let within : other < count = omega arith in
          let a = g.old_keys child below in let b = g.old_last child below in
          let c = g.old_keys other within in let d = g.old_last other within in
          let old_child : old.keys child ≡ front ++ old.last child ∷ [] = cc in
          let old_other = is old_child in cc

  -- the new shape is no shape's parent
  no_child_of_new : (child k : ℕ) → child < count → old.keys child ≡ new.keys count ++ k ∷ [] → ⊥
  no_child_of_new child k below is =
      let p = l.parent child k (new.keys count) below is in g.fresh p.0 p.1 (p.2 ∙ g.new_keys)

  newest_is_last_grown : (p child k : ℕ) → p < count + 1 → child < count + 1 →
      new.keys child ≡ new.keys p ++ k ∷ [] → IsSomeAnd (new.newest p) (λ newest. child ≤ newest)
  newest_is_last_grown p child k at within is =
      elim (cases_eq p parent) [
        | inl same ↦ subst (λ q. IsSomeAnd (new.newest q) (λ newest. child ≤ newest)) (sym same)
            (subst (λ o. IsSomeAnd o (λ newest. child ≤ newest)) (sym g.parent_newest) (omega arith))
        | inr other ↦ at_each count (λ q. q ≢ parent → new.keys child ≡ new.keys q ++ k ∷ [] → IsSomeAnd (new.newest q) (λ newest. child ≤ newest))
            (λ _ e. absurd (at_each count (λ c. new.keys c ≡ new.keys count ++ k ∷ [] → ⊥) (not_longer (new.keys count) k)
            (λ c below e. no_child_of_new c k below (sym (g.old_keys c below) ∙ e)) child within e))
            (λ q below apart e. subst (λ o. IsSomeAnd o (λ newest. child ≤ newest)) (sym (g.old_newest q below apart))
            (at_each count (λ c. new.keys c ≡ new.keys q ++ k ∷ [] → IsSomeAnd (old.newest q) (λ newest. c ≤ newest))
            (λ e. absurd (apart (l.apart q parent below g.there (sym (g.old_keys q below) ∙ sym (parent_front (new.keys q) k e)))))
            (λ c under e. l.newest_is_last q c k below under (let a = g.old_keys c under in let b = g.old_keys q below in cc))
            child within e))
            p at other is
      ]

  older_is_next_grown : (child other k j : ℕ) (front : List ℕ) → child < count + 1 → other < child →
      new.keys child ≡ front ++ k ∷ [] → new.keys other ≡ front ++ j ∷ [] → IsSomeAnd (new.older child) (λ older. other ≤ older)
  older_is_next_grown child other k j front within =
      at_each count (λ c. other < c → new.keys c ≡ front ++ k ∷ [] → new.keys other ≡ front ++ j ∷ [] → IsSomeAnd (new.older c) (λ older. other ≤ older))
      (λ under e is. subst (λ o. IsSomeAnd o (λ older. other ≤ older)) (sym g.new_older)
      (l.newest_is_last parent other j g.there under
      (sym (g.old_keys other under) ∙ is ∙ ap (λ (xs : List ℕ). xs ++ j ∷ []) (sym (parent_front front k e)))))
      (λ c below under e is. subst (λ o. IsSomeAnd o (λ older. other ≤ older)) (sym (g.old_older c below))
      (l.older_is_next c other k j front below under (sym (g.old_keys c below) ∙ e)
      (sym (g.old_keys other (omega arith)) ∙ is)))
      child within

  parent_grown : (child k : ℕ) (front : List ℕ) → child < count + 1 → new.keys child ≡ front ++ k ∷ [] →
      (p : ℕ) × (p < count + 1) × (new.keys p ≡ front)
  parent_grown child k front within =
      at_each count (λ c. new.keys c ≡ front ++ k ∷ [] → (p : ℕ) × (p < count + 1) × (new.keys p ≡ front))
      (λ e. (parent, let there = g.there in omega arith, g.old_keys parent g.there ∙ parent_front front k e))
      (λ c below e. let p = l.parent c k front below (sym (g.old_keys c below) ∙ e) in
      let under : p.0 < count = p.1 in (p.0, omega arith, g.old_keys p.0 p.1 ∙ p.2))
      child within

  apart_grown : (shape other : ℕ) → shape < count + 1 → other < count + 1 → new.keys shape ≡ new.keys other → shape ≡ other
  apart_grown shape other at within =
      at_each count (λ s. new.keys s ≡ new.keys other → s ≡ other)
      (at_each count (λ o. new.keys count ≡ new.keys o → count ≡ o) (λ _. refl)
      (λ o below e. absurd (g.fresh o below (sym (g.old_keys o below) ∙ sym e ∙ g.new_keys))) other within)
      (λ s below. at_each count (λ o. new.keys s ≡ new.keys o → s ≡ o)
      (λ e. absurd (g.fresh s below (sym (g.old_keys s below) ∙ e ∙ g.new_keys)))
      (λ o under e. l.apart s o below under (sym (g.old_keys s below) ∙ e ∙ g.old_keys o under)) other within)
      shape at

  -- the shapes stay linked
  pub AreLinked-grown : AreLinked (count + 1) new
  AreLinked-grown = record {
    child = child_grown;
    sibling = sibling_grown;
    newest_is_last = newest_is_last_grown;
    older_is_next = older_is_next_grown;
    parent = parent_grown;
    apart = apart_grown;
  }
