-- Refusals that own words tell, and Collect: the store of the call word makes the call.
use Rattle.std.proofs.Common.{ℕ, ◌≡◌, ◌+◌, refl, sym, ◌∙◌, ap, subst, true, [], ◌∷◌, length, Option, None, Some}
use Rattle.std.proofs.Common.{length-append}
use Rattle.std.specs.Prelude.{◌%◌, ◌^◌}
use Rattle.tide_heap.specs.tide_call.Callers.{Planner}
use Rattle.tide_heap.specs.tide_call.ActionWords.{ActionWords}
use Rattle.tide_heap.specs.tide_call.Actions.{IsAction, is_told_by_registers}
use Rattle.tide_heap.specs.tide_call.declared.action.Action.{Action}
use Rattle.tide_heap.specs.tide_call.declared.action.Action.TheVariants as action
use Rattle.tide_heap.specs.tide_layout.declared.region.Region.TheVariants.{Call as CallWord}
use Rattle.tide_heap.specs.tide_core.machine.Entries.{call_of, class_taken, refused_or_full, reply_of_call}
use Rattle.tide_heap.specs.tide_core.machine.Kind.{StoreCall}
use Rattle.tide_heap.specs.tide_core.machine.Views.{with_entry}
use Rattle.tide_heap.specs.tide_core.declared.machine.view.View.{View}
use Rattle.tide_heap.specs.tide_core.machine.kinds.RegisterCall.{told_view}
use Rattle.tide_heap.specs.tide_core.machine.May.{MayCall}
use Rattle.tide_model.specs.History.{state_after}
use Rattle.tide_model.specs.Layout.{Layout}
use Rattle.tide_model.specs.Refused.{ShapeLists, refusal_of}
use Rattle.tide_model.specs.State.{State}
use Rattle.tide_model.specs.declared.op.Op.{Op}
use Rattle.tide_model.specs.declared.op.Op.TheVariants.{Claim, Collect}
use Rattle.tide_model.specs.declared.op.Refusal.{Refusal}
use Rattle.tide_model.specs.declared.op.Refusal.TheVariants.{Full}
use Rattle.tide_model.specs.declared.op.Reply.{Reply}
use Rattle.tide_model.specs.declared.op.Reply.TheVariants.{Asked, Refused}
use Rattle.tide_mutator.proofs.owed_laws.Entering.{made_by, may_call, none_born}
use Rattle.tide_mutator.proofs.owed_laws.Standing.{moment_in, stands_then}
use Rattle.tide_mutator.specs.owed.Calling.{IsCalling}
use Rattle.tide_mutator.specs.owed.Made.{HasDone}
use Rattle.tide_mutator.specs.owed.Standing.{IsPlanned, caller_of}
use Rattle.tide_heap.specs.steps.Follows.{FollowsSome, MayStep}
use Rattle.tide_heap.proofs.tide_call.action_laws.NeverForRoom.{no_action_for_room}
use Rattle.tide_heap.specs.tide_words.heap.Heap.{Heap}

-- a refused operation is answered with its refusal at the store of the call word
pub refused_reply : (layout : Layout) (shapes : ShapeLists) (state : State) (who : ℕ) (op : Op) (refusal : Refusal) →
    refusal_of layout shapes state who op ≡ Some refusal → reply_of_call layout shapes state who op ≡ Refused refusal
refused_reply layout shapes state who Collect refusal is = absurd (cc)
refused_reply layout shapes state who op refusal is =
    ap (λ (found : Option Refusal). refused_or_full found (class_taken state who op)) is

-- what the store of the call word leaves, where the call is answered so there
pub stored_at : (layout : Layout) (shapes : ShapeLists) (v : View) (op : Op) (does : Action) (reply : Reply) →
    IsCalling layout v op → ((heap : Heap) → ActionWords layout heap v.who does reply None heap) →
    (does ≡ action.Retire → ⊥) → (word : ℕ) (u : View) →
    (f : FollowsSome layout shapes (StoreCall word (Some op)) v u) →
    reply_of_call layout shapes (state_after layout f.1.log) v.who op ≡ reply →
    HasDone layout shapes op does reply v u
stored_at layout shapes v op does reply calling words goes_on word u f answer =
    let m = f.1.moment in
    let view : u ≡ record (with_entry f.1.log (Some (call_of v.who op reply None)) (told_view (Some op) v)) {
      found = f.0;
    } =
    f.1.view ∙ ap (λ (r : Reply). record (with_entry f.1.log (Some (call_of v.who op r None)) (told_view (Some op) v)) {
      found = f.0;
    }) answer in record {
      made = made_by layout shapes op does reply None v u (told_view (Some op) v) f.1.log CallWord v.who f.0 calling m
          f.1.lawful f.1.own view m.settled (words m.settled) refl refl (λ stays. refl) (λ is. absurd (goes_on is))
          (none_born v.born);
      owed = ap (λ (x : View). x.owed) view;
      duty = ap (λ (x : View). x.duty) view ∙ calling.between.duty;
      calls = ap (λ (x : View). x.calls) view
          ∙ sym (ap (λ (x : View). length x.mine) view ∙ length-append v.mine (call_of v.who op reply None ∷ []));
    }

module _ (layout : Layout) (shapes : ShapeLists) (v : View) (op : Op) (does : Action) (reply : Reply)
    (calling : IsCalling layout v op) (planned : IsPlanned layout shapes v op does)
    (words : (heap : Heap) → ActionWords layout heap v.who does reply None heap)
    (answer : (heap : Heap) (state : State) → IsAction (caller_of layout shapes v) heap state op does →
    reply_of_call layout shapes state v.who op ≡ reply)
    (room : (heap : Heap) (state : State) (class : ℕ) → IsAction (caller_of layout shapes v) heap state op does →
    reply ≡ Refused (Full class) → ⊥)
    (goes_on : does ≡ action.Retire → ⊥) where
  -- a call that changes no word but the call word
  may_store : (word : ℕ) → word ≡ (length v.mine + 1) % 2 ^ 64 → MayStep layout shapes v (StoreCall word (Some op))
  may_store word counts w running is =
      let m = moment_in layout shapes w v CallWord v.who running is in
      let here = planned m.settled w.log
      (stands_then layout shapes v w.log CallWord v.who (w.heap CallWord v.who) calling.stays m) in (
        subst (λ (r : Reply). MayCall layout shapes w v.who op r None)
            (sym (answer m.settled (state_after layout w.log) here))
            (may_call layout shapes w v op does reply None CallWord v.who (w.heap CallWord v.who) is calling planned m m.settled
            (words m.settled) (λ class full. absurd (room m.settled (state_after layout w.log) class here full))),
        counts ∙ ap (λ (n : ℕ). (n + 1) % 2 ^ 64) (sym (ap (λ (x : View). length x.mine) is)),
      )

  stored_by : (word : ℕ) (u : View) → FollowsSome layout shapes (StoreCall word (Some op)) v u →
      HasDone layout shapes op does reply v u
  stored_by word u f = stored_at layout shapes v op does reply calling words goes_on word u f
      (answer f.1.moment.settled (state_after layout f.1.log) (planned f.1.moment.settled f.1.log
      (stands_then layout shapes v f.1.log CallWord v.who f.0 calling.stays f.1.moment)))

module _ (layout : Layout) (shapes : ShapeLists) (v : View) (op : Op) (calling : IsCalling layout v op) where
  pub may_refuse : (refusal : Refusal) (word : ℕ) → IsPlanned layout shapes v op (action.Refuse refusal) →
      word ≡ (length v.mine + 1) % 2 ^ 64 → MayStep layout shapes v (StoreCall word (Some op))
  may_refuse refusal word planned = may_store layout shapes v op (action.Refuse refusal) (Refused refusal) calling planned
      (λ heap. (refl, refl, λ region index below. refl))
      (λ heap state is. refused_reply layout shapes state v.who op refusal is)
      (λ heap state class is full. no_action_for_room (caller_of layout shapes v) heap state op (action.Refuse refusal) class is
      (ap action.Refuse (let same : refusal ≡ Full class = cc in same))) (λ is. absurd (cc)) word

  pub refused_by : (refusal : Refusal) (word : ℕ) (u : View) → IsPlanned layout shapes v op (action.Refuse refusal) →
      FollowsSome layout shapes (StoreCall word (Some op)) v u →
      HasDone layout shapes op (action.Refuse refusal) (Refused refusal) v u
  refused_by refusal word u planned = stored_by layout shapes v op (action.Refuse refusal) (Refused refusal) calling planned
      (λ heap. (refl, refl, λ region index below. refl))
      (λ heap state is. refused_reply layout shapes state v.who op refusal is)
      (λ heap state class is full. no_action_for_room (caller_of layout shapes v) heap state op (action.Refuse refusal) class is
      (ap action.Refuse (let same : refusal ≡ Full class = cc in same))) (λ is. absurd (cc)) word u

-- which operation asks
is_collect : (caller : Planner) (heap : Heap) (state : State) (op : Op) → is_told_by_registers op ≡ true →
    IsAction caller heap state op action.Ask → op ≡ Collect
is_collect caller heap state Collect told is = refl
is_collect caller heap state (Claim src) told is = absurd is.1
is_collect caller heap state op told is = absurd (cc)

module _ (layout : Layout) (shapes : ShapeLists) (v : View) (op : Op) (calling : IsCalling layout v op)
    (told : is_told_by_registers op ≡ true) (planned : IsPlanned layout shapes v op action.Ask) where
  asks : (heap : Heap) (state : State) → IsAction (caller_of layout shapes v) heap state op action.Ask →
      reply_of_call layout shapes state v.who op ≡ Asked
  asks heap state is = ap (reply_of_call layout shapes state v.who)
      (is_collect (caller_of layout shapes v) heap state op told is)

  pub may_ask : (word : ℕ) → word ≡ (length v.mine + 1) % 2 ^ 64 → MayStep layout shapes v (StoreCall word (Some op))
  may_ask = may_store layout shapes v op action.Ask Asked calling planned
      (λ heap. (refl, λ region index below. refl)) asks (λ heap state class is full. absurd (cc)) (λ is. absurd (cc))

  pub asked_by : (word : ℕ) (u : View) → FollowsSome layout shapes (StoreCall word (Some op)) v u →
      HasDone layout shapes op action.Ask Asked v u
  asked_by = stored_by layout shapes v op action.Ask Asked calling planned
      (λ heap. (refl, λ region index below. refl)) asks (λ heap state class is full. absurd (cc)) (λ is. absurd (cc))
