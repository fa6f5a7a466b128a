-- What happened since the last event of a kind.
use Rattle.std.specs.Prelude.{ℕ, ◌≡◌, ◌<◌, ◌≤◌, ◌==◌, ◌||◌, Bool, true, false, List, drop, count_by, sum_by}
use Rattle.tide_model.specs.declared.op.Reply.{Reply}
use Rattle.tide_model.specs.declared.op.Reply.TheVariants.{Born}
use Rattle.tide_model.specs.declared.entry.Entry.{Entry}
use Rattle.tide_model.specs.declared.entry.Entry.TheVariants.{Begin, Call, End, Open, Pause, Sweep, Taken, Visits}
use Rattle.tide_model.specs.declared.entry.Event.{Event}
use Rattle.tide_model.specs.Each.{Each}
use Rattle.tide_model.specs.History.{moment_after_last}

-- the events after the last one that passes a test, or all where none does
abbrev pub since : (Entry → Bool) → List Event → List Event
since test history = drop (moment_after_last (λ event. test event.entry) history) history

-- the entry ends a cycle
abbrev pub is_end : Entry → Bool
is_end (End cycle freed) = true
is_end _ = false

-- the entry sweeps a block
abbrev pub is_sweep : Entry → Bool
is_sweep (Sweep block) = true
is_sweep _ = false

-- the entry sweeps this block
abbrev pub is_sweep_of : ℕ → Entry → Bool
is_sweep_of block (Sweep swept) = swept == block
is_sweep_of block _ = false

-- the entry takes a block to sweep it
abbrev pub is_taken : Entry → Bool
is_taken (Taken block) = true
is_taken _ = false

-- the entry takes this block
abbrev pub is_taken_of : ℕ → Entry → Bool
is_taken_of block (Taken taken) = taken == block
is_taken_of block _ = false

-- the entry is a mutator's call
abbrev pub is_call : Entry → Bool
is_call (Call who op reply) = true
is_call _ = false

-- the entry is one of those that a running part may have
abbrev pub is_of_part : Entry → Bool
is_of_part entry = is_call entry || (is_taken entry || is_sweep entry)

-- the entry is one of those that a freeze may have
abbrev pub is_of_freeze : Entry → Bool
is_of_freeze (Begin cycle full) = true
is_of_freeze (Pause visits) = true
is_of_freeze (Visits who visits) = true
is_of_freeze (End cycle freed) = true
is_of_freeze (Sweep block) = true
is_of_freeze (Call who op reply) = false
is_of_freeze (Taken block) = false
is_of_freeze (Open number run) = false

-- the block was taken to be swept since the last cycle ended
abbrev pub WasTaken : List Event → ℕ → Type 0
WasTaken history block = moment_after_last (λ event. is_end event.entry) history
    < moment_after_last (λ event. is_taken_of block event.entry) history

-- each block that was taken in these events has its sweep there, after it
abbrev pub TakenAreSwept : List Event → Type 0
TakenAreSwept events = (block : ℕ) → moment_after_last (λ event. is_taken_of block event.entry) events
    ≤ moment_after_last (λ event. is_sweep_of block event.entry) events

-- the event sweeps no block but one that was taken in the events before it
abbrev pub SweepsTaken : List Event → Event → Type 0
SweepsTaken before event = (block : ℕ) → is_sweep_of block event.entry ≡ true →
    0 < moment_after_last (λ e. is_taken_of block e.entry) before

-- each sweep in these events stands behind a taking of its block there
abbrev pub SweptWereTaken : List Event → Type 0
SweptWereTaken events = Each SweepsTaken events

-- the reply is a new cell
abbrev pub is_born_reply : Reply → Bool
is_born_reply (Born cell) = true
is_born_reply _ = false

-- a cell was born
abbrev pub is_birth : Entry → Bool
is_birth (Call who op reply) = is_born_reply reply
is_birth _ = false

-- how many cells were born since then
abbrev pub born_since : (Entry → Bool) → List Event → ℕ
born_since test history = count_by (λ event. is_birth event.entry) (since test history)

-- how many cells an entry says to have made black
abbrev pub visits_in : Entry → ℕ
visits_in (Pause visits) = visits
visits_in (Visits who visits) = visits
visits_in _ = 0

-- how many cells were made black since then, as pauses and visitors said
abbrev pub visits_since : (Entry → Bool) → List Event → ℕ
visits_since test history = sum_by (λ event. visits_in event.entry) (since test history)
