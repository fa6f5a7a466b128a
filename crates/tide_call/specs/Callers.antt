-- Who makes a call, and what holds of the store where it does.
use Rattle.std.specs.Prelude.{ℕ, ◌≡◌, ◌<◌, true, List, Some}
use Rattle.tide_model.specs.declared.val.Val.{Val}
use Rattle.tide_model.specs.declared.val.Val.TheVariants.{Cell}
use Rattle.tide_model.specs.Layout.{Layout, array_count, cell_count}
use Rattle.tide_model.specs.References.{IsLive}
use Rattle.tide_model.specs.Refused.{ShapeLists, holds}
use Rattle.tide_model.specs.State.{State}
use Rattle.tide_words.specs.heap.Heap.{Heap}
use Rattle.tide_words.specs.heap.Reading.{ReadsAs}

-- a mutator, the cells that it claims, the oldest claim first, and its store's layout and shapes
pub record Planner : Type 0 where
  pub layout : Layout
  pub shapes : ShapeLists
  pub who : ℕ
  pub claims : List ℕ

-- The caller is one of the state's mutators and has these claims, which are live. The cells in its registers are of the
-- layout, and so are the arrays and the keys of pairs of the cells that it claims. It needs no more of the state.
pub record IsCallerOf (caller : Planner) (state : State) : Type 0 where
  pub is_mutator : caller.who < caller.layout.mutators
  pub claims : state.claims caller.who ≡ caller.claims
  pub live : (cell : ℕ) → holds state caller.who cell ≡ true → IsLive state cell
  pub cells : (register cell : ℕ) → state.registers caller.who register ≡ Cell cell → cell < cell_count caller.layout
  pub arrays : (cell array : ℕ) → holds state caller.who cell ≡ true → (state.cells cell).array ≡ Some array →
      array < array_count caller.layout
  pub keys : (table key : ℕ) (value : Val) → holds state caller.who table ≡ true →
      (state.cells table).pairs key ≡ Some value → key < cell_count caller.layout

-- what the words that a mutator alone changes say: in which heaps they are those that it has
abbrev pub OwnHeaps : Type 1
OwnHeaps = Layout → ℕ → Heap → Type 0

-- the caller may call in this state: the heap has its own words, and reads as the state
pub record CallsIn (owns : OwnHeaps) (caller : Planner) (heap : Heap) (state : State) : Type 0 where
  pub owned : owns caller.layout caller.who heap
  pub reads : ReadsAs caller.layout caller.shapes heap state
  pub is_caller : IsCallerOf caller state

-- The caller may call now: some heap has its own words, and each heap that has them reads as a state in which it may
-- call.
pub record MayCallNow (owns : OwnHeaps) (caller : Planner) : Type 0 where
  pub heap : Heap
  pub owned : owns caller.layout caller.who heap
  pub each : (other : Heap) → owns caller.layout caller.who other → (state : State) × CallsIn owns caller other state

-- this holds of each heap and state in which the caller may call
abbrev pub Always : OwnHeaps → Planner → (Heap → State → Type 0) → Type 0
Always owns caller holds = (heap : Heap) (state : State) → CallsIn owns caller heap state → holds heap state

-- After own words of a mutator were read in some context, some heap has them as they are known now. Each that has them
-- so had them as they were known before, and the rest is as it was.
abbrev pub LeavesOwn : {C Rest : Type 0} → (C → OwnHeaps) → (C → OwnHeaps) → C → Layout → ℕ → Rest → Rest → Type 0
LeavesOwn before after context layout who old new =
    ((heap : Heap) × after context layout who heap)
    × ((heap : Heap) → after context layout who heap → before context layout who heap) × (new ≡ old)

-- After a caller's own words were read in some context it may call still, nowhere but where it might before, and the
-- rest is as it was.
abbrev pub Leaves : {C Rest : Type 0} → (C → OwnHeaps) → (C → OwnHeaps) → C → Planner → Rest → Rest → Type 0
Leaves before after context caller old new =
    MayCallNow (after context) caller
    × ((heap : Heap) (state : State) → CallsIn (after context) caller heap state →
    CallsIn (before context) caller heap state) × (new ≡ old)
