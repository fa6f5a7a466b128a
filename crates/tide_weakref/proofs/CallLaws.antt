-- What a call on a handle or a register answers, and what it leaves, by the moment before it since which its mutator
-- made none.
use Rattle.std.proofs.Common.{ℕ, ◌≡◌, refl, sym, ◌∙◌, ap, subst, Bool, true, false, List, [], ◌∷◌, ◌++◌, append_assoc}
use Rattle.std.proofs.lemmas.Bool.{eqb-true, eq-eqb}
use Rattle.std.proofs.lemmas.List.Elements.{All-push, Contains-append_left, Contains-append_right, Contains-get_or}
use Rattle.std.specs.Prelude.{All, Contains, slice_index_or}
use Rattle.tide_heap.proofs.tide_core.machine_laws.steps.OwnState.{own_after, own_call}
use Rattle.tide_heap.specs.tide_core.machine.Own.{Own, own_of}
use Rattle.tide_model.proofs.Histories.{state_after-push}
use Rattle.tide_model.specs.Applied.{after_call}
use Rattle.tide_model.specs.Caller.{IsOwn}
use Rattle.tide_model.specs.History.{is_call_of, state_after}
use Rattle.tide_model.specs.Lawful.{IsLawful}
use Rattle.tide_model.specs.Layout.{Layout}
use Rattle.tide_model.specs.Prefix.{IsPrefix}
use Rattle.tide_model.specs.Refused.{ShapeLists}
use Rattle.tide_model.specs.declared.entry.Entry.{Entry}
use Rattle.tide_model.specs.declared.entry.Entry.TheVariants.{Call, Begin, Pause, Visits, End, Taken, Sweep, Open}
use Rattle.tide_model.specs.declared.entry.Event.{Event}
use Rattle.tide_model.specs.declared.op.Op.{Op}
use Rattle.tide_model.specs.declared.op.Op.TheVariants.{StrongSet, WeakSet}
use Rattle.tide_model.specs.declared.op.Reply.{Reply}
use Rattle.tide_weakref.proofs.Advances.{Advances, call_event, same_own}
use Rattle.tide_weakref.proofs.HandleLaws.{StrongKeeps-more, WeakStands-more, no_cell_more, strong_more}
use Rattle.tide_weakref.specs.Handles.{IsIn, OthersLeave, SetsOneOf, StrongKeeps, WeakStands, is_cell, op_sets_strong, op_sets_weak, sets_strong, sets_weak}
use Rattle.tide_weakref.specs.declared.range.Range16.{Range16}

-- what holds of a longer history that no other mutator's call spoils, holds of its beginnings
pub OthersLeave-prefix : (who : ℕ) (strong weak : Range16) (at new : List Event) → IsPrefix at new →
    OthersLeave who strong weak new → OthersLeave who strong weak at
OthersLeave-prefix who strong weak at new prefix leave = λ other op reply event has.
    leave other op reply event (subst (λ (es : List Event). Contains es event) prefix.joins (Contains-append_left at prefix.rest event has))

-- an operation that sets a handle of a range sets one of them
weak_of_range : (strong weak : Range16) (handle : ℕ) (op : Op) → IsIn weak handle → op_sets_weak handle op ≡ true → SetsOneOf strong weak op
weak_of_range strong weak handle (WeakSet at val) within sets = subst (IsIn weak) (sym (eqb-true at handle sets)) within
weak_of_range strong weak handle op within sets = absurd (cc)

strong_of_range : (strong weak : Range16) (handle : ℕ) (op : Op) → IsIn strong handle → op_sets_strong handle op ≡ true → SetsOneOf strong weak op
strong_of_range strong weak handle (StrongSet at val) within sets = subst (IsIn strong) (sym (eqb-true at handle sets)) within
strong_of_range strong weak handle op within sets = absurd (cc)

fails : (b : Bool) → (b ≡ true → ⊥) → b ≡ false
fails true never = absurd (never refl)
fails false never = refl

-- an event that is no call of the mutator sets none of its handles
other_sets_no_weak : (who : ℕ) (strong weak : Range16) (new : List Event) (handle : ℕ) (event : Event) →
    OthersLeave who strong weak new → IsIn weak handle → Contains new event → is_call_of who event.entry ≡ false →
    sets_weak handle event.entry ≡ false
other_sets_no_weak who strong weak new handle event leave within has other = by_entry event.entry refl other
  where
    by_entry : (entry : Entry) → event.entry ≡ entry → is_call_of who entry ≡ false → sets_weak handle entry ≡ false
    by_entry (Call caller op reply) is fails_own = fails (op_sets_weak handle op) (λ sets.
        leave caller op reply event has is (λ same. (let t = eq-eqb caller who same in absurd (cc)))
        (weak_of_range strong weak handle op within sets))
    by_entry (Begin cycle full) is fails_own = refl
    by_entry (Pause visits) is fails_own = refl
    by_entry (Visits v visits) is fails_own = refl
    by_entry (End cycle freed) is fails_own = refl
    by_entry (Taken block) is fails_own = refl
    by_entry (Sweep block) is fails_own = refl
    by_entry (Open number run) is fails_own = refl

other_sets_no_strong : (who : ℕ) (strong weak : Range16) (new : List Event) (handle : ℕ) (event : Event) →
    OthersLeave who strong weak new → IsIn strong handle → Contains new event → is_call_of who event.entry ≡ false →
    sets_strong handle event.entry ≡ false
other_sets_no_strong who strong weak new handle event leave within has other = by_entry event.entry refl other
  where
    by_entry : (entry : Entry) → event.entry ≡ entry → is_call_of who entry ≡ false → sets_strong handle entry ≡ false
    by_entry (Call caller op reply) is fails_own = fails (op_sets_strong handle op) (λ sets.
        leave caller op reply event has is (λ same. (let t = eq-eqb caller who same in absurd (cc)))
        (strong_of_range strong weak handle op within sets))
    by_entry (Begin cycle full) is fails_own = refl
    by_entry (Pause visits) is fails_own = refl
    by_entry (Visits v visits) is fails_own = refl
    by_entry (End cycle freed) is fails_own = refl
    by_entry (Taken block) is fails_own = refl
    by_entry (Sweep block) is fails_own = refl
    by_entry (Open number run) is fails_own = refl

-- What a call with these answers leaves.
module _ (layout : Layout) (shapes : ShapeLists) (who : ℕ) (op : Op) (reply : Reply) (at new mine : List Event)
    (adv : Advances layout shapes who op reply at new mine) where
  abbrev pub before : List Event
  before = at ++ adv.rest

  abbrev pub made : Event
  made = call_event who op reply adv.took

  abbrev pub came : List Event
  came = adv.rest ++ made ∷ []

  pub came_is : at ++ came ≡ new
  came_is = sym (append_assoc at adv.rest (call_event who op reply adv.took ∷ [])) ∙ sym adv.grown

  in_new : (event : Event) → Contains adv.rest event → Contains new event
  in_new event has = subst (λ (es : List Event). Contains es event) came_is
      (Contains-append_right at came event (Contains-append_left adv.rest (made ∷ []) event has))

  pub advanced_prefix : IsPrefix at new
  advanced_prefix = record { rest = came; joins = came_is }

  -- nothing that came sets a weak handle of the mutator's that the call doesn't set
  pub weak_unset : (strong weak : Range16) (handle : ℕ) → OthersLeave who strong weak new → IsIn weak handle →
      op_sets_weak handle op ≡ false → All (λ event. sets_weak handle event.entry ≡ false) came
  weak_unset strong weak handle leave within not_here = All-push (λ (event : Event). sets_weak handle event.entry ≡ false) adv.rest made
      (λ k d below. other_sets_no_weak who strong weak new handle (slice_index_or adv.rest k d) leave within
      (in_new (slice_index_or adv.rest k d) (Contains-get_or adv.rest k d below)) (adv.others k d below)) not_here

  pub strong_unset : (strong weak : Range16) (handle : ℕ) → OthersLeave who strong weak new → IsIn strong handle →
      op_sets_strong handle op ≡ false → All (λ event. sets_strong handle event.entry ≡ false) came
  strong_unset strong weak handle leave within not_here = All-push (λ (event : Event). sets_strong handle event.entry ≡ false) adv.rest made
      (λ k d below. other_sets_no_strong who strong weak new handle (slice_index_or adv.rest k d) leave within
      (in_new (slice_index_or adv.rest k d) (Contains-get_or adv.rest k d below)) (adv.others k d below)) not_here

  -- so a weak handle stands after the call where it stood before, and a strong one keeps its cell
  pub weak_stays : (strong weak : Range16) (handle target : ℕ) → OthersLeave who strong weak new → IsIn weak handle →
      op_sets_weak handle op ≡ false → WeakStands layout at handle target → WeakStands layout new handle target
  weak_stays strong weak handle target leave within not_here stands =
      subst (λ (es : List Event). WeakStands layout es handle target) came_is
      (WeakStands-more layout came at handle target (weak_unset strong weak handle leave within not_here) stands)

  pub strong_stays : (strong weak : Range16) (handle cell : ℕ) → OthersLeave who strong weak new → IsIn strong handle →
      op_sets_strong handle op ≡ false → StrongKeeps layout at handle cell → StrongKeeps layout new handle cell
  strong_stays strong weak handle cell leave within not_here keeps =
      subst (λ (es : List Event). StrongKeeps layout es handle cell) came_is
      (StrongKeeps-more layout shapes came at handle cell (subst (IsLawful layout shapes) (sym came_is) adv.lawful)
      (strong_unset strong weak handle leave within not_here) keeps)

  pub no_cell_stays : (strong weak : Range16) (handle : ℕ) → OthersLeave who strong weak new → IsIn weak handle →
      op_sets_weak handle op ≡ false → is_cell ((state_after layout at).weak handle) ≡ false →
      is_cell ((state_after layout new).weak handle) ≡ false
  no_cell_stays strong weak handle leave within not_here bare =
      ap (λ (es : List Event). is_cell ((state_after layout es).weak handle)) (sym came_is)
      ∙ no_cell_more layout came at handle (weak_unset strong weak handle leave within not_here) bare

  pub strong_same : (strong weak : Range16) (handle : ℕ) → OthersLeave who strong weak new → IsIn strong handle →
      op_sets_strong handle op ≡ false → (state_after layout new).strong handle ≡ (state_after layout at).strong handle
  strong_same strong weak handle leave within not_here =
      ap (λ (es : List Event). (state_after layout es).strong handle) (sym came_is)
      ∙ strong_more layout came at handle (strong_unset strong weak handle leave within not_here)

  -- the state right before the call, and right after it
  pub after : after_call (state_after layout before) who op reply adv.took ≡ state_after layout new
  after = sym (state_after-push layout (at ++ adv.rest) (call_event who op reply adv.took)) ∙ ap (state_after layout) (sym adv.grown)

  -- registers right before the call are those at the moment, where the mutator had made the same calls
  pub own_before : IsOwn who at mine → own_of who (state_after layout before) ≡ own_of who (state_after layout at)
  own_before own = same_own layout who (at ++ adv.rest) at mine adv.own own

  pub own_new : IsOwn who at mine → own_of who (state_after layout new) ≡ own_after (own_of who (state_after layout at)) op reply
  own_new own = ap (own_of who) (sym after) ∙ own_call who (state_after layout before) op reply adv.took
      ∙ ap (λ (o : Own). own_after o op reply) (own_before own)
