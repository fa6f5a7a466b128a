-- Loops over participants that change one after another.
use Rattle.std.proofs.Common.{ℕ, zero, suc, ◌≡◌, ◌<◌, ◌≤◌, ◌+◌, ◌∙◌, refl, sym, ap, subst, arith, List, [], ◌∷◌, length, ◌++◌, get_or, set, take, inl, inr}
use Rattle.std.proofs.lemmas.Bool.{cases_eq}
use Rattle.std.proofs.lemmas.List.{take_more}
use Rattle.std.proofs.lemmas.Option.{get_or_from_slice_get, slice_get-get_or, slice_get_within}
use Rattle.std.specs.Prelude.{Option, Some, slice_get}
use Rattle.crossbeam_utils.specs.Padded.{padded_value}
use Rattle.crossbeam_utils.specs.declared.cache_padded.CachePadded.{CachePadded}
use Rattle.tide_heap.specs.tide_core.declared.machine.view.View.{View}
use Rattle.tide_threads.proofs.Acting.{notes_in-append}
use Rattle.tide_threads.proofs.Taking.{noted_all-append}
use Rattle.tide_threads.specs.Acting.{before_all, noted_all, notes_in, told_in}
use Rattle.tide_threads.specs.declared.participant.Participant.{Participant}

pub slice_get-set_other : {X : Type 0} (xs : List X) (at k : ℕ) (x : X) → (k ≡ at → ⊥) → slice_get (set xs at x) k ≡ slice_get xs k
slice_get-set_other [] at k x apart = refl
slice_get-set_other (y ∷ xs) zero zero x apart = absurd (apart refl)
slice_get-set_other (y ∷ xs) zero (suc k) x apart = refl
slice_get-set_other (y ∷ xs) (suc at) zero x apart = refl
slice_get-set_other (y ∷ xs) (suc at) (suc k) x apart = slice_get-set_other xs at k x (λ e. apart (ap suc e))

pub slice_get-set_here : {X : Type 0} (xs : List X) (at : ℕ) (x : X) → at < length xs → slice_get (set xs at x) at ≡ Some x
slice_get-set_here [] at x below = absurd (omega (arith, below))
slice_get-set_here (y ∷ xs) zero x below = refl
slice_get-set_here (y ∷ xs) (suc at) x below = slice_get-set_here xs at x (omega (arith, below))

some_same : {X : Type 0} (x y : X) (o : Option X) → o ≡ Some x → o ≡ Some y → x ≡ y
some_same x y o one other = (let e : Some x ≡ Some y = sym one ∙ other in cc)

module _ (olds ps : List (CachePadded Participant)) (at : ℕ) (z d : CachePadded Participant) (below : at < length ps)
    (later : (who : ℕ) → at ≤ who → slice_get ps who ≡ slice_get olds who) where
  -- those that come later are as they were
  pub later_step : (who : ℕ) → at + 1 ≤ who → slice_get (set ps at z) who ≡ slice_get olds who
  later_step who past = slice_get-set_other ps at who z (λ e. omega (arith, e, past)) ∙ later who (omega (arith, past))

  -- the one at this place is as it was
  pub old_here : (x : CachePadded Participant) → slice_get olds at ≡ Some x → get_or ps at d ≡ x
  old_here x found = some_same (get_or ps at d) x (slice_get olds at)
      (sym (later at (omega arith)) ∙ slice_get-get_or ps at d below) found

  -- what holds of those that were changed before, and of the one at this place, holds of one more
  pub both_step : (holds : Participant → Participant → Type 0) →
      ((who : ℕ) (x y : CachePadded Participant) → who < at → slice_get olds who ≡ Some x → slice_get ps who ≡ Some y →
      holds (padded_value x) (padded_value y)) → holds (padded_value (get_or ps at d)) (padded_value z) →
      (who : ℕ) (x y : CachePadded Participant) → who < at + 1 → slice_get olds who ≡ Some x →
      slice_get (set ps at z) who ≡ Some y → holds (padded_value x) (padded_value y)
  both_step holds before here who x y within found found' = elim (cases_eq who at) [
    | inl same ↦
        let old : get_or ps at d ≡ x = old_here x (ap (slice_get olds) (sym same) ∙ found) in
        let new : z ≡ y = some_same z y (slice_get (set ps at z) at) (slice_get-set_here ps at z below)
        (ap (slice_get (set ps at z)) (sym same) ∙ found') in
        subst (λ (p : CachePadded Participant). holds (padded_value p) (padded_value y)) old
        (subst (λ (p : CachePadded Participant). holds (padded_value (get_or ps at d)) (padded_value p)) new here)
    | inr apart ↦ before who x y (omega (arith, within, apart)) found (sym (slice_get-set_other ps at who z apart) ∙ found')
  ]

  -- what the notes of those before told, and then that of the one at this place, is what those of one more told
  pub taken_step : (v w : View) → w ≡ noted_all (notes_in (take at olds)) v →
      noted_all (before_all (told_in (padded_value (get_or ps at d)).note) []) w
      ≡ noted_all (notes_in (take (at + 1) olds)) v
  taken_step v w taken =
      ap (noted_all (before_all (told_in (padded_value (get_or ps at d)).note) [])) taken
      ∙ sym (noted_all-append (notes_in (take at olds)) (before_all (told_in (padded_value (get_or ps at d)).note) []) v)
      ∙ ap (λ (l : List View). noted_all l v) (sym whole)
    where
      found : slice_get olds at ≡ Some (get_or ps at d)
      found = sym (later at (omega arith)) ∙ slice_get-get_or ps at d below

      here : get_or olds at d ≡ get_or ps at d
      here = get_or_from_slice_get olds at (get_or ps at d) d found

      whole : notes_in (take (at + 1) olds)
          ≡ notes_in (take at olds) ++ before_all (told_in (padded_value (get_or ps at d)).note) []
      whole =
          ap notes_in (take_more olds at d (slice_get_within olds at (get_or ps at d) found))
          ∙ notes_in-append (take at olds) (get_or olds at d ∷ [])
          ∙ ap (λ (p : CachePadded Participant). notes_in (take at olds) ++ before_all (told_in (padded_value p).note) []) here
