-- What an operation may answer.
use Rattle.std.specs.Prelude.{ℕ, ◌≡◌, ◌+◌, true, false, [], length, Option, None, Some}
use Rattle.tide_model.specs.declared.op.Op.{Op}
use Rattle.tide_model.specs.declared.op.Op.TheVariants.{Alloc, Table, Get, Put, Move, Set, Drop, Claim, Release, Unclaim, Add, GetProp, SetProp, StrongSet, StrongGet, WeakSet, WeakGet, PairSet, PairGet, PairDel, Group, Collect, Retire}
use Rattle.tide_model.specs.declared.op.Reply.{Reply}
use Rattle.tide_model.specs.declared.op.Reply.TheVariants.{Done, Born, Seen, Asked, Refused}
use Rattle.tide_model.specs.declared.op.Refusal.{Refusal}
use Rattle.tide_model.specs.declared.op.Refusal.TheVariants.{Full}
use Rattle.tide_model.specs.declared.val.Val.{Val}
use Rattle.tide_model.specs.declared.val.Val.TheVariants.{Empty, Int, Cell}
use Rattle.tide_model.specs.Layout.{Layout, IsBlockOf, block_of_cell, block_of_array, array_class_for}
use Rattle.tide_model.specs.State.{State, free}
use Rattle.tide_model.specs.Applied.{slot_of, property_of, pair_of, is_array_full}
use Rattle.tide_model.specs.Refused.{ShapeLists, table_class, refusal_of}

-- the cell is free and of the class
pub record IsFreeCellOf (layout : Layout) (state : State) (class cell : ℕ) : Type 0 where
  pub of_class : IsBlockOf layout class (block_of_cell cell)
  pub is_free : (state.cells cell).status ≡ free

-- the array is free and of the class
pub record IsFreeArrayOf (layout : Layout) (state : State) (class array : ℕ) : Type 0 where
  pub of_class : IsBlockOf layout class (block_of_array layout array)
  pub is_free : state.arrays array ≡ free

-- the class of the array that a cell takes for one more property
abbrev pub next_array_class : State → ℕ → ℕ
next_array_class state cell = array_class_for (length (state.cells cell).keys + 1)

-- what is taken for one more property of a cell: an array of the next class where the cell's is full, and else none
abbrev pub IsTakenFor : Layout → State → ℕ → Option ℕ → Type 0
IsTakenFor layout state cell (Some array) = (is_array_full (state.cells cell) ≡ true) × IsFreeArrayOf layout state (next_array_class state cell) array
IsTakenFor layout state cell None = is_array_full (state.cells cell) ≡ false

-- the value names a cell, of which this holds
abbrev pub AtCell : Val → (ℕ → Type 0) → Type 0
AtCell (Cell cell) holds = holds cell
AtCell Empty holds = ⊥
AtCell (Int n) holds = ⊥

-- the reply is one that the operation may have where it meets no such refusal; when a refusal for want of room may
-- come is said apart
abbrev pub IsGranted : Layout → State → ℕ → Op → Reply → Option ℕ → Type 0
IsGranted layout state who (Alloc dst class) (Born cell) took = (took ≡ None) × IsFreeCellOf layout state class cell
IsGranted layout state who (Alloc dst class) (Refused (Full full)) took = (took ≡ None) × (full ≡ class)
IsGranted layout state who (Table dst) (Born cell) took = (took ≡ None) × IsFreeCellOf layout state table_class cell
IsGranted layout state who (Table dst) (Refused (Full full)) took = (took ≡ None) × (full ≡ table_class)
IsGranted layout state who (Get dst src slot) (Seen value) took = (took ≡ None) × (value ≡ slot_of state (state.registers who src) slot)
IsGranted layout state who (Put src slot val) Done took = took ≡ None
IsGranted layout state who (Move dst src) Done took = took ≡ None
IsGranted layout state who (Set dst n) Done took = took ≡ None
IsGranted layout state who (Drop dst) Done took = took ≡ None
IsGranted layout state who (Claim src) Done took = took ≡ None
IsGranted layout state who (Release src) Done took = took ≡ None
IsGranted layout state who Unclaim Done took = took ≡ None
IsGranted layout state who (Add src key val) Done took = AtCell (state.registers who src) (λ cell. IsTakenFor layout state cell took)
IsGranted layout state who (Add src key val) (Refused (Full full)) took =
    (took ≡ None) × AtCell (state.registers who src) (λ cell. (is_array_full (state.cells cell) ≡ true) × (full ≡ next_array_class state cell))
IsGranted layout state who (GetProp dst src key) (Seen value) took = (took ≡ None) × (value ≡ property_of state (state.registers who src) key)
IsGranted layout state who (SetProp src key val) Done took = took ≡ None
IsGranted layout state who (StrongSet at val) Done took = took ≡ None
IsGranted layout state who (StrongGet dst at) (Seen value) took = (took ≡ None) × (value ≡ state.strong at)
IsGranted layout state who (WeakSet at val) Done took = took ≡ None
IsGranted layout state who (WeakGet dst at) (Seen value) took = (took ≡ None) × (value ≡ state.weak at)
IsGranted layout state who (PairSet src key val) Done took = took ≡ None
IsGranted layout state who (PairGet dst src key) (Seen value) took =
    (took ≡ None) × AtCell (state.registers who src) (λ table. pair_of state table (state.registers who key) ≡ Some value)
IsGranted layout state who (PairDel src key) Done took = took ≡ None
IsGranted layout state who (Group src n) Done took = took ≡ None
IsGranted layout state who Collect Asked took = took ≡ None
IsGranted layout state who Retire Done took = (took ≡ None) × (state.claims who ≡ [])
IsGranted layout state who op reply took = ⊥

-- the first refusal is the reply, and takes no array; where there is none the operation is granted
abbrev pub IsAnswerUnless : Option Refusal → Layout → State → ℕ → Op → Reply → Option ℕ → Type 0
IsAnswerUnless (Some refusal) layout state who op reply took = (took ≡ None) × (reply ≡ Refused refusal)
IsAnswerUnless None layout state who op reply took = IsGranted layout state who op reply took

-- the reply is one that the operation may have in the state, taking this array or none
abbrev pub IsAnswer : Layout → ShapeLists → State → ℕ → Op → Reply → Option ℕ → Type 0
IsAnswer layout shapes state who op reply took = IsAnswerUnless (refusal_of layout shapes state who op) layout state who op reply took
