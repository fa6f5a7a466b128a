-- Histories: lists of entries, and the state after each beginning of one.
use Rattle.std.specs.Prelude.{ℕ, zero, suc, ◌==◌, Bool, true, false, ◌&&◌, ◌||◌, if◌then◌else◌, List, [], ◌∷◌, take, Option, None, Some}
use Rattle.tide_model.specs.declared.val.Val.{Val}
use Rattle.tide_model.specs.declared.val.Val.TheVariants.{Empty, Int, Cell}
use Rattle.tide_model.specs.declared.entry.Entry.{Entry}
use Rattle.tide_model.specs.declared.entry.Entry.TheVariants.{Call, Begin, Pause, Visits, End, Taken, Sweep, Open}
use Rattle.tide_model.specs.declared.entry.Event.{Event}
use Rattle.tide_model.specs.Layout.{Layout, block_of_cell, block_of_array}
use Rattle.tide_model.specs.Numbers.{is_among}
use Rattle.tide_model.specs.Applied.{after_call}
use Rattle.tide_model.specs.State.{State, CellState, Status, free, live, spent, dead, is_dead, blank_cell, idle, marking, empty_state}

-- the event of an entry that takes no array
abbrev pub plain : Entry → Event
plain entry = record { entry = entry; took = None }

-- the value, or empty where it names one of these cells
abbrev pub without : List ℕ → Val → Val
without cells Empty = Empty
without cells (Int n) = Int n
without cells (Cell cell) = if is_among cells cell then Empty else Cell cell

-- a cell's array, if it has one, is this
abbrev pub is_this_array : Option ℕ → ℕ → Bool
is_this_array None array = false
is_this_array (Some own) array = own == array

-- the array is that of one of these cells
abbrev pub is_array_of : State → List ℕ → ℕ → Bool
is_array_of state [] array = false
is_array_of state (cell ∷ cells) array = is_this_array (state.cells cell).array array || is_array_of state cells array

-- an array's status after a cycle's end: a spent one is dead
abbrev pub unless_spent : Status → Status
unless_spent free = free
unless_spent live = live
unless_spent spent = dead
unless_spent dead = dead

-- what the end of a cycle leaves: the freed cells, their arrays and all spent arrays are dead, weak handles to
-- freed cells are empty, pairs with a freed key are gone, and no cycle marks
abbrev pub after_end : State → List ℕ → State
after_end state freed = record state {
  weak = λ handle. without freed (state.weak handle);
  cells = λ cell. record (state.cells cell) {
    status = if is_among freed cell then dead else (state.cells cell).status;
    pairs = λ key. if is_among freed key then None else (state.cells cell).pairs key;
  };
  arrays = λ array. if is_array_of state freed array then dead else unless_spent (state.arrays array);
  phase = idle;
}

-- the status after a sweep: what was dead is free, where its block is swept
abbrev pub swept_status : Bool → Status → Status
swept_status is_swept status = if is_swept && is_dead status then free else status

-- the cell after a sweep: a dead one is blank and free, where its block is swept
abbrev pub swept_cell : Bool → CellState → CellState
swept_cell is_swept cell = if is_swept && is_dead cell.status then blank_cell free else cell

-- what a sweep leaves: the dead cells or arrays of the block are free and blank
abbrev pub after_sweep : Layout → State → ℕ → State
after_sweep layout state block = record state {
  cells = λ cell. swept_cell (block_of_cell cell == block) (state.cells cell);
  arrays = λ array. swept_status (block_of_array layout array == block) (state.arrays array);
}

-- what sweeping every block leaves: each dead cell and array is free, and blank
abbrev pub swept_all : State → State
swept_all state = record state {
  cells = λ cell. swept_cell true (state.cells cell);
  arrays = λ array. swept_status true (state.arrays array);
}

-- the state that an entry leaves
abbrev pub after_entry : Layout → State → Entry → Option ℕ → State
after_entry layout state (Call who op reply) took = after_call state who op reply took
after_entry layout state (Begin cycle full) took = record state { phase = marking cycle }
after_entry layout state (Pause visits) took = state
after_entry layout state (Visits who visits) took = state
after_entry layout state (End cycle freed) took = after_end state freed
after_entry layout state (Taken block) took = state
after_entry layout state (Sweep block) took = after_sweep layout state block
after_entry layout state (Open number run) took = state

-- the state that an event leaves
abbrev pub after_event : Layout → State → Event → State
after_event layout state event = after_entry layout state event.entry event.took

-- the state after some events that stand one after another from a state on
abbrev pub state_from : Layout → State → List Event → State
state_from layout state [] = state
state_from layout state (event ∷ events) = state_from layout (after_event layout state event) events

-- the state after a whole history, from the empty state on
abbrev pub state_after : Layout → List Event → State
state_after layout history = state_from layout empty_state history

-- the state after the first so many events of a history: the state at a moment
abbrev pub state_at : Layout → List Event → ℕ → State
state_at layout history moment = state_after layout (take moment history)

-- a moment behind one more event in front, which counts where no later one did and it passes the test
abbrev pub one_later : ℕ → Bool → ℕ
one_later zero true = 1
one_later zero false = 0
one_later (suc moment) passes = suc (suc moment)

-- the moment right after the last event that passes a test, or 0 where none does
abbrev pub moment_after_last : (Event → Bool) → List Event → ℕ
moment_after_last test [] = 0
moment_after_last test (event ∷ events) = one_later (moment_after_last test events) (test event)

-- the entry begins a cycle
abbrev pub is_begin : Entry → Bool
is_begin (Begin cycle full) = true
is_begin _ = false

-- the entry opens a running part
abbrev pub is_open : Entry → Bool
is_open (Open number run) = true
is_open _ = false

-- the entry is a call of the mutator: nothing else is a mutator's entry
abbrev pub is_call_of : ℕ → Entry → Bool
is_call_of mutator (Call who op reply) = who == mutator
is_call_of mutator _ = false
