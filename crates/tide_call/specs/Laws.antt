-- What a call leaves, once its words are written.
use Rattle.std.specs.Prelude.{ℕ, ◌≡◌, ◌+◌, ◌<◌, true, List, [], ◌∷◌, ◌++◌, slice_get, nat_le, length, Option, None, Some}
use Rattle.tide_words.specs.tide_layout.Limits.{IsWithinLimits}
use Rattle.tide_words.specs.tide_layout.declared.region.Region.TheVariants.{Claim as ClaimRegion}
use Rattle.tide_model.specs.declared.entry.Entry.TheVariants.{Call}
use Rattle.tide_model.specs.declared.entry.Event.{Event}
use Rattle.tide_model.specs.declared.op.Op.{Op}
use Rattle.tide_model.specs.declared.op.Op.TheVariants.{Claim, Retire}
use Rattle.tide_model.specs.declared.op.Reply.{Reply}
use Rattle.tide_model.specs.Answer.{IsAnswer}
use Rattle.tide_model.specs.Applied.{after_call}
use Rattle.tide_model.specs.History.{state_after}
use Rattle.tide_model.specs.Lawful.{FitsLayout, IsLawful, StandsCall}
use Rattle.tide_model.specs.declared.op.Refusal.TheVariants.{ClaimsFull, Held}
use Rattle.tide_model.specs.declared.val.Val.TheVariants.{Cell}
use Rattle.tide_model.specs.Layout.{Layout, cell_count}
use Rattle.tide_model.specs.References.{ClaimsAreOwn, RefsAreLive}
use Rattle.tide_model.specs.Refused.{ShapeLists, claims_most, refusal_of, refuse_if}
use Rattle.tide_model.specs.State.{State}
use Rattle.tide_words.specs.heap.Heap.{Heap}
use Rattle.tide_words.specs.forms.Reference.{claim_word}
use Rattle.tide_words.specs.heap.Reading.{ReadsAs}
use Rattle.tide_call.specs.Callers.{Planner, IsCallerOf}
use Rattle.tide_call.specs.CallWords.{CallWords}
use Rattle.tide_call.specs.declared.action.Action.{Action}
use Rattle.tide_call.specs.Actions.{IsAction}
use Rattle.tide_call.specs.ActionWords.{ActionWords}

-- the call stands in the state: an active mutator of the layout may make it and be answered so; the layout is within
-- its limits, the first shape is the empty one, and no two mutators claim a cell
pub record StandsIn (layout : Layout) (shapes : ShapeLists) (state : State) (who : ℕ) (op : Op) (reply : Reply)
    (took : Option ℕ) : Type 0 where
  pub limits : IsWithinLimits layout
  pub empty_shape : slice_get shapes 0 ≡ Some []
  pub is_mutator : who < layout.mutators
  pub is_active : state.active who ≡ true
  pub fits : FitsLayout layout op
  pub answers : IsAnswer layout shapes state who op reply took
  pub claims : ClaimsAreOwn layout state

-- an active mutator of a state whose references are live may call there, with the claims that it has
abbrev pub MutatorsMayCall : Type 0
MutatorsMayCall =
    (caller : Planner) (heap : Heap) (state : State) → caller.who < caller.layout.mutators →
    state.active caller.who ≡ true → state.claims caller.who ≡ caller.claims → RefsAreLive state →
    ReadsAs caller.layout caller.shapes heap state → IsCallerOf caller state

-- the words of a call were written, and now they read as the state that it leaves
abbrev pub CallsReadBack : Type 0
CallsReadBack =
    (layout : Layout) (shapes : ShapeLists) (old new : Heap) (state : State) (who : ℕ) (op : Op) (reply : Reply)
    (took : Option ℕ) →
    StandsIn layout shapes state who op reply took → RefsAreLive state →
    CallWords layout shapes old state who op reply took new →
    ReadsAs layout shapes old state → ReadsAs layout shapes new (after_call state who op reply took)

-- where a call stands behind a lawful history and its words were written, they read as the state after it
abbrev pub HistoriesReadBack : Type 0
HistoriesReadBack =
    (layout : Layout) (shapes : ShapeLists) (old new : Heap) (before : List Event) (who : ℕ) (op : Op) (reply : Reply)
    (took : Option ℕ) →
    IsWithinLimits layout → slice_get shapes 0 ≡ Some [] → IsLawful layout shapes before →
    StandsCall layout shapes before who op reply took →
    CallWords layout shapes old (state_after layout before) who op reply took new →
    ReadsAs layout shapes old (state_after layout before) →
    ReadsAs layout shapes new (state_after layout (before ++ record { entry = Call who op reply; took = took } ∷ []))

-- the claim word of a cell in a register tells what refuses a claim of it: its holder's claim, or that the mutator's
-- are full
pub record IsClaimTold (layout : Layout) (shapes : ShapeLists) (heap : Heap) (state : State) (who src cell : ℕ) : Type 0 where
  pub held : (holder : ℕ) → heap ClaimRegion cell ≡ claim_word (Some holder) →
      refusal_of layout shapes state who (Claim src) ≡ Some (Held holder)
  pub free : heap ClaimRegion cell ≡ claim_word None →
      refusal_of layout shapes state who (Claim src) ≡ refuse_if (nat_le claims_most (length (state.claims who))) ClaimsFull

-- where the words read as a state in which no two mutators claim a cell, the claim word of a cell in a register tells
-- what refuses a claim of it
abbrev pub ClaimsAreTold : Type 0
ClaimsAreTold =
    (layout : Layout) (shapes : ShapeLists) (heap : Heap) (state : State) (who src cell : ℕ) →
    ClaimsAreOwn layout state → ReadsAs layout shapes heap state → state.registers who src ≡ Cell cell →
    cell < cell_count layout → IsClaimTold layout shapes heap state who src cell

-- Who carries out the action of a call, by its words alone, answers the call and writes its words. The mutator is
-- active and retires without claims, references are live, and no two mutators claim a cell.
abbrev pub ActionsAreCalls : Type 0
ActionsAreCalls =
    (caller : Planner) (heap new : Heap) (state : State) (op : Op) (does : Action) (reply : Reply) (took : Option ℕ) →
    FitsLayout caller.layout op → IsCallerOf caller state → state.active caller.who ≡ true →
    (op ≡ Retire → caller.claims ≡ []) → RefsAreLive state → ClaimsAreOwn caller.layout state →
    ReadsAs caller.layout caller.shapes heap state → IsAction caller heap state op does →
    ActionWords caller.layout heap caller.who does reply took new →
    IsAnswer caller.layout caller.shapes state caller.who op reply took
    × CallWords caller.layout caller.shapes heap state caller.who op reply took new
