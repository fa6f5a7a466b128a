-- What a call leaves.
use Rattle.std.specs.Prelude.{ℕ, ◌==◌, false, List, [], ◌∷◌, ◌++◌, length, drop, filter, not, Option, None, Some, Bool}
use Rattle.std.specs.List.{position_or_len}
use Rattle.tide_model.specs.declared.val.Val.{Val}
use Rattle.tide_model.specs.declared.val.Val.TheVariants.{Empty, Int, Cell}
use Rattle.tide_model.specs.declared.op.Op.{Op}
use Rattle.tide_model.specs.declared.op.Op.TheVariants.{Alloc, Table, Get, Put, Move, Set, Drop, Claim, Release, Unclaim, Add, GetProp, SetProp, StrongSet, StrongGet, WeakSet, WeakGet, PairSet, PairGet, PairDel, Group, Retire}
use Rattle.tide_model.specs.declared.op.Reply.{Reply}
use Rattle.tide_model.specs.declared.op.Reply.TheVariants.{Done, Born, Seen}
use Rattle.tide_model.specs.Layout.{capacity_of}
use Rattle.tide_model.specs.Numbers.{put_at}
use Rattle.tide_model.specs.State.{State, CellState, Status, live, spent, blank_cell}

-- the state with another value in a mutator's register
abbrev pub put_register : State → ℕ → ℕ → Val → State
put_register state who register value =
    record state { registers = put_at state.registers who (put_at (state.registers who) register value) }

-- what the cell that a value names holds in a slot; empty where it names none
abbrev pub slot_of : State → Val → ℕ → Val
slot_of state (Cell cell) slot = (state.cells cell).slots slot
slot_of state Empty slot = Empty
slot_of state (Int n) slot = Empty

-- the state with another value in a slot of the cell that a value names; the same state where it names none
abbrev pub put_slot : State → Val → ℕ → Val → State
put_slot state (Cell cell) slot value =
    record state { cells = put_at state.cells cell (record (state.cells cell) { slots = put_at (state.cells cell).slots slot value }) }
put_slot state Empty slot value = state
put_slot state (Int n) slot value = state

-- what is done with the cell that a value names; nothing where it names none
abbrev pub at_cell : State → Val → (ℕ → State) → State
at_cell state (Cell cell) change = change cell
at_cell state Empty change = state
at_cell state (Int n) change = state

-- the state in which a cell holds something else
abbrev pub put_cell : State → ℕ → CellState → State
put_cell state cell held = record state { cells = put_at state.cells cell held }

-- the state in which a mutator's claims are others
abbrev pub put_claims : State → ℕ → List ℕ → State
put_claims state who claims = record state { claims = put_at state.claims who claims }

-- where a key stands among a cell's keys: so its property stands there
abbrev pub place_of : List ℕ → ℕ → ℕ
place_of keys key = position_or_len (λ k. k == key) keys

-- the property of a cell that a value names
abbrev pub property_of : State → Val → ℕ → Val
property_of state (Cell cell) key = (state.cells cell).properties (place_of (state.cells cell).keys key)
property_of state Empty key = Empty
property_of state (Int n) key = Empty

-- a cell's array is full, or it has none: one more property takes an array of the next capacity
abbrev pub is_array_full : CellState → Bool
is_array_full cell = length cell.keys == capacity_of (length cell.keys)

-- an array that was replaced is spent
abbrev pub spend : (ℕ → Status) → Option ℕ → ℕ → Status
spend arrays None = arrays
spend arrays (Some array) = put_at arrays array spent

-- the arrays where a cell's array gives way to one that was taken, if one was
abbrev pub exchange_array : (ℕ → Status) → Option ℕ → Option ℕ → ℕ → Status
exchange_array arrays old None = arrays
exchange_array arrays old (Some taken) = put_at (spend arrays old) taken live

-- the cell's array after a call that took one, if it did
abbrev pub array_after : Option ℕ → Option ℕ → Option ℕ
array_after old None = old
array_after old (Some taken) = Some taken

-- a cell has one more property, and the array that was taken for it
abbrev pub add_property : State → ℕ → ℕ → Val → Option ℕ → State
add_property state cell key value took = record state {
  cells = put_at state.cells cell (record (state.cells cell) {
    keys = (state.cells cell).keys ++ key ∷ [];
    properties = put_at (state.cells cell).properties (length (state.cells cell).keys) value;
    array = array_after (state.cells cell).array took;
  });
  arrays = exchange_array state.arrays (state.cells cell).array took;
}

-- a property of a cell has another value
abbrev pub put_property : State → ℕ → ℕ → Val → State
put_property state cell key value = put_cell state cell
    (record (state.cells cell) { properties = put_at (state.cells cell).properties (place_of (state.cells cell).keys key) value })

-- what a table has under the key cell that a value names
abbrev pub pair_of : State → ℕ → Val → Option Val
pair_of state table (Cell key) = (state.cells table).pairs key
pair_of state table Empty = None
pair_of state table (Int n) = None

-- a table has this under a key cell, or nothing
abbrev pub put_pair : State → ℕ → ℕ → Option Val → State
put_pair state table key held = put_cell state table
    (record (state.cells table) { pairs = put_at (state.cells table).pairs key held })

-- the state that a call leaves, by its operation, its reply and the array that it took; a refused call leaves it as it
-- was
abbrev pub after_call : State → ℕ → Op → Reply → Option ℕ → State
after_call state who (Alloc dst class) (Born cell) took = put_register (put_cell state cell (blank_cell live)) who dst (Cell cell)
after_call state who (Table dst) (Born cell) took = put_register (put_cell state cell (blank_cell live)) who dst (Cell cell)
after_call state who (Get dst src slot) (Seen value) took = put_register state who dst value
after_call state who (Put src slot val) Done took = put_slot state (state.registers who src) slot (state.registers who val)
after_call state who (Move dst src) Done took = put_register state who dst (state.registers who src)
after_call state who (Set dst n) Done took = put_register state who dst (Int n)
after_call state who (Drop dst) Done took = put_register state who dst Empty
after_call state who (Claim src) Done took =
    at_cell state (state.registers who src) (λ cell. put_claims state who (state.claims who ++ cell ∷ []))
after_call state who (Release src) Done took =
    at_cell state (state.registers who src) (λ cell. put_claims state who (filter (λ claimed. not (claimed == cell)) (state.claims who)))
after_call state who Unclaim Done took = put_claims state who (drop 1 (state.claims who))
after_call state who (Add src key val) Done took =
    at_cell state (state.registers who src) (λ cell. add_property state cell key (state.registers who val) took)
after_call state who (GetProp dst src key) (Seen value) took = put_register state who dst value
after_call state who (SetProp src key val) Done took =
    at_cell state (state.registers who src) (λ cell. put_property state cell key (state.registers who val))
after_call state who (StrongSet at val) Done took = record state { strong = put_at state.strong at (state.registers who val) }
after_call state who (StrongGet dst at) (Seen value) took = put_register state who dst value
after_call state who (WeakSet at val) Done took = record state { weak = put_at state.weak at (state.registers who val) }
after_call state who (WeakGet dst at) (Seen value) took = put_register state who dst value
after_call state who (PairSet src key val) Done took =
    at_cell state (state.registers who src) (λ table. at_cell state (state.registers who key) (λ cell.
    put_pair state table cell (Some (state.registers who val))))
after_call state who (PairGet dst src key) (Seen value) took = put_register state who dst value
after_call state who (PairDel src key) Done took =
    at_cell state (state.registers who src) (λ table. at_cell state (state.registers who key) (λ cell. put_pair state table cell None))
after_call state who (Group src n) Done took =
    at_cell state (state.registers who src) (λ cell. put_cell state cell (record (state.cells cell) { group = n }))
after_call state who Retire Done took = record state { active = put_at state.active who false }
after_call state who op reply took = state
