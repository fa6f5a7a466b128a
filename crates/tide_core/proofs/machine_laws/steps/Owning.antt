-- No word is two mutators' own.
use Rattle.std.proofs.Common.{ℕ, ◌≡◌, sym, ◌∙◌, ap, subst, arith, Some}
use Rattle.std.specs.Prelude.{Contains}
use Rattle.tide_words.proofs.tide_layout.SlotPlaces.{index_of_slot-alone, index_of_element-alone, index_of_register-alone}
use Rattle.tide_words.specs.tide_layout.Region.{tag}
use Rattle.tide_words.specs.tide_layout.declared.region.Region.{Region}
use Rattle.tide_core.specs.machine.Owed.{IsOwnWord, own_register, own_structure, own_array, own_pair, own_element}
use Rattle.tide_model.specs.Layout.{Layout}
use Rattle.tide_model.specs.References.{RefsAreLive, ClaimsAreOwn}
use Rattle.tide_model.specs.State.{State}

module _ (layout : Layout) (state : State) (claims : ClaimsAreOwn layout state) (refs : RefsAreLive state) where
  -- what an own word of this region and index says of each other mutator that has it
  pub own_alone : (p q : ℕ) (at other : Region) (index place : ℕ) → IsOwnWord layout state p at index →
      IsOwnWord layout state q other place → tag at ≡ tag other → index ≡ place → p ≡ q
  own_alone p q _ _ _ _ (own_register r a b) (own_register s c d) t e =
      sym (index_of_register-alone layout p q r s b d (sym e)).0
  own_alone p q _ _ _ _ (own_structure x claimed) (own_structure y also) t e =
      claims.one_claims p q y (subst (Contains (state.claims p)) e claimed) also
  own_alone p q _ _ _ _ (own_array x claimed) (own_array y also) t e =
      claims.one_claims p q y (subst (Contains (state.claims p)) e claimed) also
  own_alone p q _ _ _ _ (own_pair x k claimed one has) (own_pair y l also two has_it) t e =
      let same = (index_of_slot-alone layout x y k l has.slot_within has_it.slot_within (sym e)).0 in
      claims.one_claims p q x claimed (subst (Contains (state.claims q)) same also)
  own_alone p q _ _ _ _ (own_element x a k claimed is has) (own_element y b l also is_too has_it) t e =
      let same = (index_of_element-alone layout a b k l has.element_within has_it.element_within (sym e)).0 in
      let cells = refs.arrays_are_own x y a (refs.claimed p x claimed) (refs.claimed q y also) is (is_too ∙
      ap Some same) in
      claims.one_claims p q y (subst (Contains (state.claims p)) cells claimed) also
  own_alone p q _ _ _ _ (own_register r a b) _ t e = absurd (omega (arith, t))
  own_alone p q _ _ _ _ (own_structure x claimed) _ t e = absurd (omega (arith, t))
  own_alone p q _ _ _ _ (own_array x claimed) _ t e = absurd (omega (arith, t))
  own_alone p q _ _ _ _ (own_pair x k claimed one has) _ t e = absurd (omega (arith, t))
  own_alone p q _ _ _ _ (own_element x a k claimed is has) _ t e = absurd (omega (arith, t))
