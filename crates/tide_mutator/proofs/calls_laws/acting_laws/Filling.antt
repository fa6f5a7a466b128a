-- Move, Set and Drop: the store of the register makes the call.
use Rattle.std.proofs.Common.{ℕ, ◌≡◌, refl, sym, ◌∙◌, ap, subst, true, [], None, Some}
use Rattle.tide_heap.specs.tide_call.Callers.{Planner}
use Rattle.tide_heap.specs.tide_call.ActionWords.{ActionWords}
use Rattle.tide_heap.specs.tide_call.Actions.{IsAction, is_told_by_registers}
use Rattle.tide_heap.specs.tide_call.declared.action.Action.TheVariants as action
use Rattle.tide_heap.specs.tide_layout.Region.{index_of_register}
use Rattle.tide_heap.specs.tide_layout.declared.region.Region.TheVariants.{Registers}
use Rattle.tide_heap.specs.tide_core.machine.Kind.{StoreRegister}
use Rattle.tide_heap.specs.tide_core.machine.May.{called}
use Rattle.tide_heap.specs.tide_core.declared.machine.view.Duty.TheVariants.{Nothing}
use Rattle.tide_heap.specs.tide_core.declared.machine.view.View.{View}
use Rattle.tide_heap.specs.tide_core.machine.kinds.RegisterCall.{StoresRegister}
use Rattle.tide_model.specs.History.{state_after}
use Rattle.tide_model.specs.Layout.{Layout}
use Rattle.tide_model.specs.Refused.{ShapeLists}
use Rattle.tide_model.specs.State.{State}
use Rattle.tide_model.specs.declared.op.Op.{Op}
use Rattle.tide_model.specs.declared.op.Op.TheVariants.{Claim, Move, Set, Drop}
use Rattle.tide_model.specs.declared.op.Reply.TheVariants.{Done}
use Rattle.tide_model.specs.declared.val.Val.{Val}
use Rattle.tide_model.specs.declared.val.Val.TheVariants.{Empty, Int}
use Rattle.tide_mutator.proofs.owed_laws.Entering.{made_by, may_call, none_born}
use Rattle.tide_mutator.proofs.owed_laws.Standing.{moment_in, stands_then}
use Rattle.tide_mutator.specs.owed.Calling.{IsCalling}
use Rattle.tide_mutator.specs.owed.Made.{HasMade}
use Rattle.tide_mutator.specs.owed.Standing.{IsPlanned, caller_of}
use Rattle.tide_heap.specs.steps.Follows.{FollowsSome, MayStep}
use Rattle.tide_heap.specs.tide_words.forms.ValueWord.{val_word}
use Rattle.tide_heap.specs.tide_words.heap.Heap.{Heap, write}

-- the words of the action
fills : (layout : Layout) (heap : Heap) (who dst : ℕ) (value : Val) →
    ActionWords layout heap who (action.Fill dst value) Done None
    (write heap Registers (index_of_register layout who dst) (val_word value))
fills layout heap who dst value = (refl, λ region index below. refl)

-- which operation has such an action
stores : (caller : Planner) (heap : Heap) (state : State) (op : Op) (dst : ℕ) (value : Val) →
    is_told_by_registers op ≡ true → IsAction caller heap state op (action.Fill dst value) →
    StoresRegister state caller.who dst (val_word value) op
stores caller heap state (Move d src) dst value told is =
    let register : d ≡ dst = cc in
    let held : value ≡ state.registers caller.who src = cc in (register, ap val_word held)
stores caller heap state (Set d n) dst value told is =
    let register : d ≡ dst = cc in let held : value ≡ Int n = cc in (register, ap val_word held)
stores caller heap state (Drop d) dst value told is =
    let register : d ≡ dst = cc in let held : value ≡ Empty = cc in (register, ap val_word held)
stores caller heap state (Claim src) dst value told is = absurd is.1
stores caller heap state op dst value told is = absurd (cc)

module _ (layout : Layout) (shapes : ShapeLists) (v : View) (op : Op) (dst : ℕ) (value : Val)
    (calling : IsCalling layout v op) (planned : IsPlanned layout shapes v op (action.Fill dst value)) where
  pub may_fill : is_told_by_registers op ≡ true →
      MayStep layout shapes v (StoreRegister dst (val_word value) (Some op))
  may_fill told w running is =
      let index = index_of_register layout v.who dst in
      let m = moment_in layout shapes w v Registers index running is in (
        may_call layout shapes w v op (action.Fill dst value) Done None Registers index (w.heap Registers index) is calling
            planned m _ (fills layout m.settled v.who dst value) (λ class full. absurd (cc)),
        stores (caller_of layout shapes v) m.settled (state_after layout w.log) op dst value told
            (planned m.settled w.log (stands_then layout shapes v w.log Registers index _ calling.stays m)),
      )

  pub filled_by : (u : View) → FollowsSome layout shapes (StoreRegister dst (val_word value) (Some op)) v u →
      HasMade layout shapes op (action.Fill dst value) Done v u [] Nothing
  filled_by u f = record {
    made = made_by layout shapes op (action.Fill dst value) Done None v u (called [] v) f.1.log Registers
        (index_of_register layout v.who dst) f.0 calling f.1.moment f.1.lawful f.1.own f.1.view _
        (fills layout f.1.moment.settled v.who dst value) refl refl (λ stays. refl) (λ is. absurd (cc)) (none_born v.born);
    owed = ap (λ (x : View). x.owed) f.1.view;
    duty = ap (λ (x : View). x.duty) f.1.view ∙ calling.between.duty;
  }

  -- so it is of a word that is the value's
  pub may_fill_with : (word : ℕ) → word ≡ val_word value → is_told_by_registers op ≡ true →
      MayStep layout shapes v (StoreRegister dst word (Some op))
  may_fill_with word is told =
      subst (λ (x : ℕ). MayStep layout shapes v (StoreRegister dst x (Some op))) (sym is) (may_fill told)

  pub filled_with : (word : ℕ) → word ≡ val_word value → (u : View) →
      FollowsSome layout shapes (StoreRegister dst word (Some op)) v u →
      HasMade layout shapes op (action.Fill dst value) Done v u [] Nothing
  filled_with word is u f =
      filled_by u (subst (λ (x : ℕ). FollowsSome layout shapes (StoreRegister dst x (Some op)) v u) is f)
