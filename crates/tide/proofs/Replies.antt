-- What a call was answered, as the history tells that it made longer.
use Rattle.std.proofs.Common.{ℕ, ◌≡◌, ◌<◌, refl, sym, ap, subst, true, true≢false, inl, inr, [], ◌∷◌, ◌++◌}
use Rattle.std.specs.Prelude.{Err, List, Ok, Option, None, Result, Some, is_some}
use Rattle.tide.specs.Asking.{Asks, Makes, Past, past_of}
use Rattle.tide.specs.Threads.{Calling, HasAsked, HasCalled, HasDone, HasRunFullCycle, IsFit, part_of}
use Rattle.tide.specs.declared.own.Own.{Own}
use Rattle.tide.specs.declared.stop.Stop.{Stop}
use Rattle.tide.specs.declared.stop.Stop.TheVariants as stop
use Rattle.tide_server.proofs.FullCycles.{full_cycle_between, later_number}
use Rattle.tide_server.proofs.Working.{begins_where_over}
use Rattle.tide_server.specs.tide_heap.tide_core.declared.machine.view.View.{View}
use Rattle.tide_server.proofs.tide_model.OwnCalls.{called, stands_last}
use Rattle.tide_server.specs.tide_model.Answer.{IsGranted}
use Rattle.tide_server.specs.tide_model.History.{state_after}
use Rattle.tide_server.specs.tide_model.Layout.{Layout}
use Rattle.tide_server.specs.tide_model.Lawful.{IsLawful}
use Rattle.tide_server.specs.tide_model.Refused.{ShapeLists}
use Rattle.tide_server.specs.tide_model.Script.{is_retire}
use Rattle.tide_server.specs.tide_model.Share.{is_asked}
use Rattle.tide_server.specs.tide_model.State.{State}
use Rattle.tide_server.specs.tide_model.declared.entry.Event.{Event}
use Rattle.tide_server.specs.tide_model.declared.op.Op.{Op}
use Rattle.tide_server.specs.tide_model.declared.op.Op.TheVariants.{Collect}
use Rattle.tide_server.specs.tide_model.declared.op.Refusal.TheVariants.{Full}
use Rattle.tide_server.specs.tide_model.declared.op.Reply.{Reply}
use Rattle.tide_server.specs.tide_model.declared.op.Reply.TheVariants.{Asked, Born, Done, Refused, Seen}
use Rattle.tide_server.specs.tide_mutator.calls.Viewed.{view_of}
use Rattle.tide_server.specs.tide_posts.Schedule.{OpensLater}
use Rattle.tide_server.specs.tide_shape.Lists.{lists_of}

-- what is granted to who asks for a cycle is that it was asked for
granted_collect : (layout : Layout) (state : State) (who : ℕ) (reply : Reply) (took : Option ℕ) →
    IsGranted layout state who Collect reply took → reply ≡ Asked
granted_collect layout state who Asked took granted = refl
granted_collect layout state who Done took granted = absurd granted
granted_collect layout state who (Born cell) took granted = absurd granted
granted_collect layout state who (Seen val) took granted = absurd granted
granted_collect layout state who (Refused refusal) took granted = absurd granted

module _ (layout : Layout) (shapes : ShapeLists) (who : ℕ) (reply : Reply) where
  made_collect : (old new : Past) → Makes layout shapes who Collect reply old new → reply ≡ Asked
  made_collect old new makes = granted_collect layout (state_after layout makes.between) who reply makes.took
      (stands_last layout shapes makes.between (called who Collect reply makes.took)
      (subst (λ (h : List Event). IsLawful layout shapes h) makes.ends makes.lawful)).answers

  asked_collect : (old new : Past) → Asks layout shapes who Collect reply old new → reply ≡ Asked
  asked_collect old new (inl (makes, room)) = made_collect old new makes
  asked_collect old new (inr twice) = made_collect twice.between new twice.again

-- who asks for a cycle is answered that it was asked for
pub is_asked_for : (old new : Option Own) (reply : Reply) → HasAsked old new Collect reply → reply ≡ Asked
is_asked_for (Some old) (Some new) reply is = asked_collect old.standing.now.heap.key.layout
    (lists_of old.standing.now.heap.key.shapes) (view_of old.member.mutator).who reply (past_of old.member)
    (past_of new.member) is.asks
is_asked_for (Some old) None reply h = absurd h
is_asked_for None new reply h = absurd h

-- the call that was answered stands last in what its caller has seen then
last_call : (layout : Layout) (shapes : ShapeLists) (who : ℕ) (op : Op) (reply : Reply) (old new : Past) →
    Asks layout shapes who op reply old new →
    (before : List Event) × (took : Option ℕ) × (new.seen ≡ before ++ called who op reply took ∷ [])
last_call layout shapes who op reply old new (inl (makes, room)) = (makes.between, makes.took, makes.ends)
last_call layout shapes who op reply old new (inr twice) = (twice.again.between, twice.again.took, twice.again.ends)

-- a call behind one that asked for a cycle stands in a later part, behind a full cycle
asks_later : (old mid new : Option Own) (op : Op) (reply : Reply) → HasAsked old mid Collect Asked →
    HasAsked mid new op reply → (part_of mid < part_of new) × HasRunFullCycle mid new
asks_later (Some old) (Some mid) (Some new) op reply first second = (
  later_number layout seen now opens,
  full_cycle_between layout seen now opens last.0 v.who Collect Asked last.1
      (subst (λ (who : ℕ). who < layout.mutators) first.who mid.of.is_mutator) refl last.2,
)
  where
    layout : Layout
    layout = mid.standing.now.heap.key.layout

    v : View
    v = view_of old.member.mutator

    seen : List Event
    seen = (view_of mid.member.mutator).seen

    now : List Event
    now = (view_of new.member.mutator).seen

    opens : OpensLater layout seen now
    opens = second.later (begins_where_over mid.member (first.over refl))

    last : (before : List Event) × (took : Option ℕ) × (seen ≡ before ++ called v.who Collect Asked took ∷ [])
    last = last_call old.standing.now.heap.key.layout (lists_of old.standing.now.heap.key.shapes) v.who Collect Asked
        (past_of old.member) (past_of mid.member) first.asks
asks_later (Some old) (Some mid) None op reply first second = absurd second
asks_later (Some old) None new op reply first second = absurd first
asks_later None mid new op reply first second = absurd first

-- so does one of a thread that is done
pub done_later : (old mid new : Calling) (op : Op) (result : Result (Unit {0}) Stop) → HasCalled old mid Collect (Ok Asked) →
    HasDone mid new op result → result ≡ Ok tt → (part_of mid.own < part_of new.own) × HasRunFullCycle mid.own new.own
done_later old mid new op result asks done is = asks_later old.own mid.own new.own op given.0 asks.0 given.1.0
  where
    given : HasDone mid new op (Ok tt)
    given = subst (HasDone mid new op) is done

-- and it fits each heap
pub collect_fits : (own : Option Own) → is_some own ≡ true → IsFit own Collect
collect_fits (Some own) is = (tt, λ same. true≢false (sym (ap is_retire same)))
collect_fits None is = absurd (true≢false (sym is))

module _ (old new : Calling) where
  -- so no such call stops
  pub collect_goes_on : (why : Stop) → is_some old.own ≡ true → HasCalled old new Collect (Err why) → ⊥
  collect_goes_on (stop.Full class) here (asked, told) =
      true≢false (sym (ap is_asked (is_asked_for old.own new.own (Refused (Full class)) asked)))
  collect_goes_on (stop.Refused refusal) here called = called
  collect_goes_on stop.Deep here called = called
  collect_goes_on stop.Unfit here (unfit, same) = unfit (collect_fits old.own here)
