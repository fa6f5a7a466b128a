-- Retire: the store of 0 to the Active word makes the call.
use Rattle.std.proofs.Common.{ℕ, ◌≡◌, refl, sym, ◌∙◌, ap, subst, true, List, [], None, Some}
use Rattle.tide_heap.specs.tide_call.Callers.{Planner}
use Rattle.tide_heap.specs.tide_call.Actions.{IsAction, is_told_by_registers}
use Rattle.tide_heap.specs.tide_call.declared.action.Action.TheVariants as action
use Rattle.tide_heap.specs.tide_layout.declared.region.Region.TheVariants as region
use Rattle.tide_heap.specs.tide_core.machine.Entries.{call_of}
use Rattle.tide_heap.specs.tide_core.machine.Kind.{Retire as RetireStep}
use Rattle.tide_heap.specs.tide_core.machine.May.{MayCall}
use Rattle.tide_heap.specs.tide_core.machine.Moment.{Moment}
use Rattle.tide_heap.specs.tide_core.machine.Views.{with_entry}
use Rattle.tide_heap.specs.tide_core.declared.machine.view.Duty.TheVariants.{Nothing}
use Rattle.tide_heap.specs.tide_core.declared.machine.view.View.{View}
use Rattle.tide_heap.specs.tide_core.machine.kinds.Retire.{left_view}
use Rattle.tide_model.specs.History.{state_after}
use Rattle.tide_model.specs.Layout.{Layout}
use Rattle.tide_model.specs.Refused.{ShapeLists}
use Rattle.tide_model.specs.Script.{is_retire}
use Rattle.tide_model.specs.State.{State}
use Rattle.tide_model.specs.declared.entry.Event.{Event}
use Rattle.tide_model.specs.declared.op.Op.{Op}
use Rattle.tide_model.specs.declared.op.Op.TheVariants.{Claim, Retire}
use Rattle.tide_model.specs.declared.op.Reply.TheVariants.{Done}
use Rattle.tide_mutator.proofs.owed_laws.Entering.{made_by, may_call, none_born}
use Rattle.tide_mutator.proofs.owed_laws.Standing.{moment_in, stands_then}
use Rattle.tide_mutator.specs.owed.Calling.{IsCalling}
use Rattle.tide_mutator.specs.owed.Made.{HasMade}
use Rattle.tide_mutator.specs.owed.Standing.{IsPlanned, caller_of}
use Rattle.tide_heap.specs.steps.Follows.{FollowsSome, MayStep}
use Rattle.tide_heap.specs.tide_words.heap.Heap.{Heap, write}

-- which operation has such an action
is_retire_op : (caller : Planner) (heap : Heap) (state : State) (op : Op) → is_told_by_registers op ≡ true →
    IsAction caller heap state op action.Retire → op ≡ Retire
is_retire_op caller heap state Retire told is = refl
is_retire_op caller heap state (Claim src) told is = absurd is.1
is_retire_op caller heap state op told is = absurd (cc)

module _ (layout : Layout) (shapes : ShapeLists) (v : View) (op : Op) (calling : IsCalling layout v op)
    (told : is_told_by_registers op ≡ true) (planned : IsPlanned layout shapes v op action.Retire) where
  retires_there : (log : List Event) (read : ℕ) → Moment layout shapes v log region.Active v.who read → op ≡ Retire
  retires_there log read m = is_retire_op (caller_of layout shapes v) m.settled (state_after layout log) op told
      (planned m.settled log (stands_then layout shapes v log region.Active v.who read calling.stays m))

  pub may_leave : MayStep layout shapes v (RetireStep (Some Retire))
  may_leave w running is =
      let read = w.heap region.Active v.who in
      let m = moment_in layout shapes w v region.Active v.who running is in
      subst (λ (o : Op). MayCall layout shapes w v.who o Done None) (retires_there w.log read m)
      (may_call layout shapes w v op action.Retire Done None region.Active v.who read is calling
      planned m (write m.settled region.Active v.who 0) (refl, λ other index inside. refl) (λ class full. absurd (cc)))

  pub left_by : (u : View) → FollowsSome layout shapes (RetireStep (Some Retire)) v u →
      HasMade layout shapes op action.Retire Done v u [] Nothing
  left_by u f =
      let same = retires_there f.1.log f.0 f.1.moment in
      let view : u ≡ record (with_entry f.1.log (Some (call_of v.who op Done None)) (left_view v)) { found = f.0 } =
      f.1.view ∙ ap (λ (o : Op). record (with_entry f.1.log (Some (call_of v.who o Done None)) (left_view v)) {
        found = f.0;
      }) (sym same) in record {
        made = made_by layout shapes op action.Retire Done None v u (left_view v) f.1.log region.Active v.who f.0 calling
            f.1.moment f.1.lawful f.1.own view (write f.1.moment.settled region.Active v.who 0)
            (refl, λ other index inside. refl) refl refl
            (λ stays. absurd (let retires = sym stays ∙ ap is_retire same in cc)) (λ is. refl) (none_born v.born);
        owed = ap (λ (x : View). x.owed) view;
        duty = ap (λ (x : View). x.duty) view ∙ calling.between.duty;
      }
