-- Group: the store of the group word makes the call.
use Rattle.std.proofs.Common.{ℕ, ◌≡◌, refl, sym, ◌∙◌, ap, subst, true, [], None, Some}
use Rattle.tide_heap.specs.tide_call.Callers.{Planner}
use Rattle.tide_heap.specs.tide_call.Actions.{IsAction, is_told_by_registers}
use Rattle.tide_heap.specs.tide_call.declared.action.Action.TheVariants as action
use Rattle.tide_heap.specs.tide_layout.declared.region.Region.TheVariants as region
use Rattle.tide_heap.specs.tide_core.machine.Kind.{StoreGroup}
use Rattle.tide_heap.specs.tide_core.machine.May.{MayCall, called}
use Rattle.tide_heap.specs.tide_core.declared.machine.view.Duty.TheVariants.{Nothing}
use Rattle.tide_heap.specs.tide_core.declared.machine.view.View.{View}
use Rattle.tide_heap.specs.tide_core.machine.kinds.StorePlainWord.{MayStoreGroup}
use Rattle.tide_model.specs.History.{state_after}
use Rattle.tide_model.specs.Layout.{Layout}
use Rattle.tide_model.specs.Refused.{ShapeLists}
use Rattle.tide_model.specs.State.{State}
use Rattle.tide_model.specs.declared.op.Op.{Op}
use Rattle.tide_model.specs.declared.op.Op.TheVariants.{Claim, Group}
use Rattle.tide_model.specs.declared.op.Reply.TheVariants.{Done}
use Rattle.tide_model.specs.declared.val.Val.TheVariants.{Cell}
use Rattle.tide_mutator.proofs.owed_laws.Entering.{made_by, may_call, none_born}
use Rattle.tide_mutator.proofs.owed_laws.Standing.{moment_in, stands_then}
use Rattle.tide_mutator.specs.owed.Calling.{IsCalling}
use Rattle.tide_mutator.specs.owed.Made.{HasMade}
use Rattle.tide_mutator.specs.owed.Standing.{IsPlanned, caller_of}
use Rattle.tide_heap.specs.steps.Follows.{FollowsSome, MayStep}
use Rattle.tide_heap.specs.tide_words.heap.Heap.{Heap, write}

-- which operation has such an action
record IsGroup (caller : Planner) (state : State) (op : Op) (cell group : ℕ) : Type 0 where
  src : ℕ
  same : op ≡ Group src group
  source : state.registers caller.who src ≡ Cell cell

is_group : (caller : Planner) (heap : Heap) (state : State) (op : Op) (cell group : ℕ) → is_told_by_registers op ≡ true →
    IsAction caller heap state op (action.Join cell group) → IsGroup caller state op cell group
is_group caller heap state (Group src n) cell group told (granted, (at, source, is)) =
    let number : n ≡ group = cc in
    let same : at ≡ cell = cc in record {
      src = src;
      same = ap (Group src) number;
      source = source ∙ ap Cell same;
    }
is_group caller heap state (Claim src) cell group told is = absurd is.1
is_group caller heap state op cell group told is = absurd (cc)

module _ (layout : Layout) (shapes : ShapeLists) (v : View) (op : Op) (cell group : ℕ)
    (calling : IsCalling layout v op) (told : is_told_by_registers op ≡ true)
    (planned : IsPlanned layout shapes v op (action.Join cell group)) where
  may_group : MayStep layout shapes v (StoreGroup cell group (Some op))
  may_group w running is =
      let read = w.heap region.Group cell in
      let m = moment_in layout shapes w v region.Group cell running is in
      let here = is_group (caller_of layout shapes v) m.settled (state_after layout w.log) op cell group told
      (planned m.settled w.log (stands_then layout shapes v w.log region.Group cell read calling.stays m)) in
      subst (λ (o : Op). MayStoreGroup layout shapes w v.who cell group (Some o)) (sym here.same) (
        here.source,
        refl,
        subst (λ (o : Op). MayCall layout shapes w v.who o Done None) here.same
            (may_call layout shapes w v op (action.Join cell group) Done None region.Group cell read is calling
            planned m (write m.settled region.Group cell group) (refl, λ other index within. refl)
            (λ class full. absurd (cc))),
      )

  grouped : (u : View) → FollowsSome layout shapes (StoreGroup cell group (Some op)) v u →
      HasMade layout shapes op (action.Join cell group) Done v u [] Nothing
  grouped u f = record {
    made = made_by layout shapes op (action.Join cell group) Done None v u (called [] v) f.1.log region.Group cell f.0 calling
        f.1.moment f.1.lawful f.1.own f.1.view (write f.1.moment.settled region.Group cell group)
        (refl, λ other index within. refl) refl refl (λ stays. refl) (λ is. absurd (cc)) (none_born v.born);
    owed = ap (λ (x : View). x.owed) f.1.view;
    duty = ap (λ (x : View). x.duty) f.1.view ∙ calling.between.duty;
  }

  -- so it is of a word that is the group's
  module _ (word : ℕ) (is : word ≡ group) where
    pub may_join : MayStep layout shapes v (StoreGroup cell word (Some op))
    may_join = subst (λ (x : ℕ). MayStep layout shapes v (StoreGroup cell x (Some op))) (sym is) may_group

    pub joined_by : (u : View) → FollowsSome layout shapes (StoreGroup cell word (Some op)) v u →
        HasMade layout shapes op (action.Join cell group) Done v u [] Nothing
    joined_by u f = grouped u (subst (λ (x : ℕ). FollowsSome layout shapes (StoreGroup cell x (Some op)) v u) is f)
