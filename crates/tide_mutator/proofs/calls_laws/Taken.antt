-- Of which operations a call has which actions.
use Rattle.std.proofs.Common.{ℕ, ◌≡◌, refl, sym, ◌∙◌, ap, Bool, true, inl, inr}
use Rattle.tide_heap.specs.tide_call.Callers.{Planner}
use Rattle.tide_heap.specs.tide_call.Actions.{IsAction, is_told_by_registers}
use Rattle.tide_heap.specs.tide_call.declared.action.Action.{Action}
use Rattle.tide_heap.specs.tide_call.declared.action.Action.TheVariants as action
use Rattle.tide_model.specs.State.{State}
use Rattle.tide_model.specs.declared.op.Op.{Op}
use Rattle.tide_model.specs.declared.op.Op.TheVariants.{Alloc, Table, Get, Put, Move, Set, Drop, Claim, Release, Unclaim, Add, GetProp, SetProp, StrongSet, StrongGet, WeakSet, WeakGet, PairSet, PairGet, PairDel, Group, Collect, Retire}
use Rattle.tide_model.specs.declared.op.Refusal.{Refusal}
use Rattle.tide_model.specs.declared.val.Val.{Val}
use Rattle.tide_mutator.specs.owed.Acting.{is_plain}
use Rattle.tide_heap.specs.tide_words.heap.Heap.{Heap}

-- an operation with a plain action is told by registers
pub told_by_action : (caller : Planner) (heap : Heap) (state : State) (op : Op) (does : Action) →
    IsAction caller heap state op does → is_plain does ≡ true → is_told_by_registers op ≡ true
told_by_action caller heap state op (action.Refuse refusal) is plain = absurd (cc)
told_by_action caller heap state (Add src key val) does is plain = elim is.1.3 [
  | inl (array, room, same) ↦ absurd (let bad = sym plain ∙ ap is_plain same in cc)
  | inr (class, array, needs, same) ↦ absurd (let bad = sym plain ∙ ap is_plain same in cc)
]
told_by_action caller heap state (GetProp dst src key) does is plain = absurd (let bad = sym plain ∙ ap is_plain is.1.5 in cc)
told_by_action caller heap state (SetProp src key val) does is plain = absurd (let bad = sym plain ∙ ap is_plain is.1.5 in cc)
told_by_action caller heap state (PairSet src key val) does is plain = absurd (let bad = sym plain ∙ ap is_plain is.1.7 in cc)
told_by_action caller heap state (PairGet dst src key) does is plain = absurd (let bad = sym plain ∙ ap is_plain is.1.9 in cc)
told_by_action caller heap state (PairDel src key) does is plain = absurd (let bad = sym plain ∙ ap is_plain is.1.7 in cc)
told_by_action caller heap state op does is plain = refl
