-- When a mutator may carry out the action of a call, and what it has answered then, of its pass and its heap as they
-- are.
use Rattle.std.specs.Prelude.{ℕ, ◌≡◌, ◌+◌, ◌<◌, ◌%◌, ◌^◌, Bool, true, false, length}
use Rattle.tide_heap.specs.declared.heap.Heap.{Heap}
use Rattle.tide_heap.specs.declared.steps.pass.Pass.{Pass}
use Rattle.tide_heap.specs.tide_call.Actions.{is_told_by_registers}
use Rattle.tide_heap.specs.tide_call.Needed.{FitsAction}
use Rattle.tide_heap.specs.tide_call.declared.action.Action.{Action}
use Rattle.tide_heap.specs.tide_call.declared.action.Action.TheVariants as action
use Rattle.tide_heap.specs.tide_words.heap.Heap.{Heap as TheWords}
use Rattle.tide_model.specs.Refused.{ShapeLists}
use Rattle.tide_model.specs.declared.op.Reply.{Reply}
use Rattle.tide_mutator.specs.declared.owed.call.Call.{Call}
use Rattle.tide_mutator.specs.owed.Calling.{IsCalling}
use Rattle.tide_mutator.specs.owed.Made.{HasDone}
use Rattle.tide_mutator.specs.owed.Standing.{IsPlanned}

-- registers alone tell of what a call with such an action is
abbrev pub is_plain : Action → Bool
is_plain (action.Refuse refusal) = false
is_plain (action.LoadElement dst array place) = false
is_plain (action.StoreElement cell array place value) = false
is_plain (action.Append addition array value) = false
is_plain (action.Grow addition array class value) = false
is_plain (action.StorePair table place key value) = false
is_plain (action.ClearPair table place) = false
is_plain (action.Show dst table place value) = false
is_plain _ = true

-- below, the lists of keys are those of the shapes that a heap was made of
module _ {S : Type 0} (lists : S → ShapeLists) where
  -- The pass is one of the heap, and its mutator is about to make this call, with this action: the action is that of
  -- the call wherever the mutator may stand, its numbers are those of the layout, and it has the call's number.
  pub record MayAct (heap : Heap S) (pass : Pass) (call : Call) (does : Action) : Type 0 where
    pub own : pass.seat.table_id ≡ heap.table.shared.table_id
    pub calling : IsCalling heap.key.layout pass.seat.me.0 call.op
    pub counts : call.number ≡ (length pass.seat.me.0.mine + 1) % 2 ^ 64
    pub planned : IsPlanned heap.key.layout (lists heap.key.shapes) pass.seat.me.0 call.op does
    pub told : is_plain does ≡ true → is_told_by_registers call.op ≡ true
    pub few : (dst class : ℕ) → does ≡ action.Allocate dst class → pass.seat.me.0.born + 1 < 2 ^ 32
    pub words : TheWords
    pub fits : FitsAction heap.key.layout words does

  -- it is the same pass, and the call is done as planned, with this reply
  pub record HasAnswered (heap : Heap S) (call : Call) (does : Action) (reply : Reply) (old new : Pass) : Type 0 where
    pub same_pass : (new.seat.table_id ≡ old.seat.table_id) × (new.seat.id ≡ old.seat.id)
    pub done : HasDone heap.key.layout (lists heap.key.shapes) call.op does reply old.seat.me.0 new.seat.me.0
