-- What a call that is done leaves: its entry in its caller's order, and the claims of its mutator.
use Rattle.std.proofs.Common.{ℕ, ◌≡◌, refl, sym, ◌∙◌, ap, subst, Bool, false, List, [], ◌∷◌, ◌++◌, length}
use Rattle.std.specs.Prelude.{filter, nat_le}
use Rattle.tide_heap.specs.tide_call.Callers.{Planner}
use Rattle.tide_heap.specs.tide_call.ActionWords.{ActionWords}
use Rattle.tide_heap.specs.tide_call.Actions.{IsAction}
use Rattle.tide_heap.specs.tide_call.declared.action.Action.{Action}
use Rattle.tide_heap.specs.tide_call.declared.action.Action.TheVariants as action
use Rattle.tide_heap.specs.tide_core.machine.Entries.{call_of}
use Rattle.tide_heap.specs.tide_core.machine.May.{IsBetweenCalls, Rests}
use Rattle.tide_heap.specs.tide_core.machine.Own.{Own}
use Rattle.tide_heap.specs.tide_core.declared.machine.view.View.{View}
use Rattle.tide_model.proofs.Histories.{state_after-push}
use Rattle.tide_model.specs.History.{is_call_of, state_after}
use Rattle.tide_model.specs.Layout.{Layout}
use Rattle.tide_model.specs.Prefix.{IsPrefix, prefix_push, prefix_trans}
use Rattle.tide_model.specs.Refused.{ShapeLists, claims_most}
use Rattle.tide_model.specs.State.{State}
use Rattle.tide_model.specs.declared.entry.Event.{Event}
use Rattle.tide_model.specs.declared.op.Op.{Op}
use Rattle.tide_model.specs.declared.op.Op.TheVariants.{Claim, Release, Retire, Unclaim}
use Rattle.tide_model.specs.declared.op.Reply.{Reply}
use Rattle.tide_model.specs.declared.op.Reply.TheVariants.{Done}
use Rattle.std.specs.Prelude.{Option}
use Rattle.tide_mutator.proofs.owed_laws.OwnClaims.{own_at}
use Rattle.tide_mutator.specs.owed.Calling.{IsCalling, Kept}
use Rattle.tide_mutator.specs.calls.Called.{HasCalled, is_of_claims}
use Rattle.tide_mutator.specs.owed.Made.{HasDone}
use Rattle.tide_mutator.specs.owed.Standing.{IsPlanned, caller_of, claims_after_calls, claims_of}
use Rattle.tide_heap.proofs.tide_call.action_laws.ClaimsKept.{claim_has_room, claims_kept}
use Rattle.tide_heap.specs.tide_call.Claims.{claims_by_action}
use Rattle.tide_heap.specs.tide_words.heap.Heap.{Heap}

-- a retirement has one action, and one reply
retire_action : (caller : Planner) (heap : Heap) (state : State) (does : Action) → IsAction caller heap state Retire does →
    does ≡ action.Retire
retire_action caller heap state (action.Refuse refusal) is = absurd (cc)
retire_action caller heap state does is = is.1

retire_reply : (layout : Layout) (heap new : Heap) (who : ℕ) (reply : Reply) (took : Option ℕ) →
    ActionWords layout heap who action.Retire reply took new → reply ≡ Done
retire_reply layout heap new who Done took words = refl
retire_reply layout heap new who reply took words = absurd words

-- a call that isn't of claims leaves them
claims_stay : (reply : Reply) (op : Op) (does : Action) (claims : List ℕ) → is_of_claims op ≡ false →
    claims_by_action reply op does claims ≡ claims
claims_stay reply (Claim src) does claims other = absurd (cc)
claims_stay reply (Release src) does claims other = absurd (cc)
claims_stay reply Unclaim does claims other = absurd (cc)
claims_stay Done op does claims other = refl
claims_stay reply op does claims other = refl

module _ (layout : Layout) (shapes : ShapeLists) (op : Op) (does : Action) (reply : Reply) (v u : View)
    (calling : IsCalling layout v op) (planned : IsPlanned layout shapes v op does)
    (done : HasDone layout shapes op does reply v u) where
  abbrev state : State
  state = state_after layout done.made.log

  abbrev event : Event
  event = call_of v.who op reply done.made.took

  action_is : IsAction (caller_of layout shapes v) done.made.heap state op does
  action_is = planned done.made.heap done.made.log done.made.stands

  rests_between : IsBetweenCalls u
  rests_between = record {
    owed = done.owed;
    duty = done.duty;
    growth = ap (λ (k : Kept). k.growth) done.made.kept ∙ calling.between.growth;
    sweeping = ap (λ (k : Kept). k.sweeping) done.made.kept ∙ calling.between.sweeping;
    calls = done.calls;
  }

  leaves : op ≡ Retire → does ≡ action.Retire
  leaves is = retire_action (caller_of layout shapes v) done.made.heap state does
      (subst (λ (o : Op). IsAction (caller_of layout shapes v) done.made.heap state o does) is action_is)

  -- the claims that it has then
  pub claims_then : claims_of u ≡ claims_by_action reply op does (claims_of v)
  claims_then =
      ap (λ (n : ℕ). claims_after_calls n u.mine) (ap (λ (k : Kept). k.who) done.made.kept)
      ∙ ap (λ (o : Own). o.claims) (sym (own_at layout v.who (done.made.log ++ event ∷ []) u.mine
      (sym (done.made.own ∙ ap (filter (λ e. is_call_of v.who e.entry)) done.made.seen))))
      ∙ ap (λ (s : State). s.claims v.who) (state_after-push layout done.made.log event)
      ∙ claims_kept (caller_of layout shapes v) done.made.heap done.made.new state op does reply done.made.took action_is
      done.made.words
      ∙ ap (claims_by_action reply op does) done.made.stands.claims

  pub called_by : HasCalled layout shapes op reply v u
  called_by = record {
    makes = record {
      took = done.made.took;
      between = done.made.log;
      seen = subst (IsPrefix v.seen) (sym done.made.seen)
          (prefix_trans v.seen done.made.log (done.made.log ++ event ∷ []) done.made.before
          (prefix_push done.made.log event));
      lawful = done.made.lawful;
      ends = done.made.seen;
      adds = done.made.mine;
      were_own = calling.own;
      are_own = done.made.own;
    };
    kept = done.made.kept;
    between = rests_between;
    left = done.made.left;
    gone = λ is. (
      done.made.gone (leaves is),
      retire_reply layout done.made.heap done.made.new v.who reply done.made.took
          (subst (λ (p : Action). ActionWords layout done.made.heap v.who p reply done.made.took done.made.new) (leaves is)
          done.made.words),
    );
    born = done.made.births.most;
    none_born = done.made.births.none;
    claims = λ other. claims_then ∙ claims_stay reply op does (claims_of v) other;
  }

  -- it rests again
  pub rests_after : Rests v → Rests u
  rests_after rests = record {
    held = ap (λ (k : Kept). k.held) done.made.kept ∙ rests.held;
    scan = ap (λ (k : Kept). k.scan) done.made.kept ∙ rests.scan;
    between = rests_between;
  }

  pub has_room : (src cell : ℕ) (full : Bool) → op ≡ Claim src → does ≡ action.Claim cell full → reply ≡ Done →
      nat_le claims_most (length (claims_of v)) ≡ false
  has_room src cell full same_op same_action same_reply =
      claim_has_room (caller_of layout shapes v) done.made.heap done.made.new state op does reply src cell full
      done.made.took action_is done.made.words same_op same_action same_reply
