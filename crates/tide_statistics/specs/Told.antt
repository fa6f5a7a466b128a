-- What a freeze tells of what it did, as data, and what a log makes of that.
use Rattle.std.specs.Prelude.{ℕ, ◌≡◌, ◌+◌, List, [], ◌∷◌, ◌++◌, map, Option, None, Some, if◌then◌else◌}
use Rattle.tide_model.specs.declared.entry.Entry.{Entry}
use Rattle.tide_model.specs.declared.entry.Entry.TheVariants.{Begin, Call, End, Open, Pause, Sweep, Taken, Visits}
use Rattle.tide_model.specs.declared.entry.Event.{Event}
use Rattle.tide_model.specs.Cycle.{begin_count}
use Rattle.tide_model.specs.Freeze.{marks_of, visits_entries}
use Rattle.tide_statistics.specs.declared.told.BegunTold.{BegunTold}
use Rattle.tide_statistics.specs.declared.told.FreezeTold.{FreezeTold}
use Rattle.tide_statistics.specs.declared.told.PauseTold.{PauseTold}
use Rattle.tide_statistics.specs.Statistics.{Logged, told_by}

-- the entry without the cells that it freed, if it ends a cycle
abbrev pub unfreed : Entry → Entry
unfreed (Call who op reply) = Call who op reply
unfreed (Begin cycle full) = Begin cycle full
unfreed (Pause visits) = Pause visits
unfreed (Visits who visits) = Visits who visits
unfreed (End cycle freed) = End cycle []
unfreed (Taken block) = Taken block
unfreed (Sweep block) = Sweep block
unfreed (Open number run) = Open number run

-- the entries of a pause that tells this, and of the end behind it, if its cycle ended
abbrev pub pause_told : ℕ → PauseTold → List Entry
pause_told cycle told = Pause told.visits ∷ (if told.ended then End cycle [] ∷ [] else [])

-- the entries of the cycle that marks, if one does: it goes on
abbrev pub on_told : ℕ → Option PauseTold → List Entry
on_told begun None = []
on_told begun (Some told) = pause_told begun told

-- the entries of a cycle that begins, if one does
abbrev pub begun_told : ℕ → Option BegunTold → List Entry
begun_told begun None = []
begun_told begun (Some told) = Begin (begun + 1) told.full ∷ pause_told (begun + 1) told.pause

-- the entries of a freeze that tells this, where so many cycles had begun: what each visitor made black, and both halves
abbrev pub entries_told : ℕ → List ℕ → FreezeTold → List Entry
entries_told begun visits told = visits_entries 0 visits ++ (on_told begun told.went_on ++ begun_told begun told.begun)

-- The freeze did what it tells, and nothing else: its entries are those that it tells, but for its sweeps and the cells
-- that its ends freed. `here` is the history up to it.
abbrev pub TellsFreeze : List Event → List Event → List ℕ → FreezeTold → Type 0
TellsFreeze here freeze visits told = map unfreed (marks_of freeze) ≡ entries_told (begin_count here) visits told

-- what a log has once a pause is told, and the end behind it, if its cycle ended once so many cells were born in it
abbrev pub with_pause : Logged → PauseTold → ℕ → Logged
with_pause log told born =
    if told.ended then record log {
      ended = log.ended ++ told_by (record log { paused = log.paused + told.visits }) born ∷ [];
      paused = log.paused + told.visits;
    } else record log { paused = log.paused + told.visits }

-- what it has once the cycle that marks went on, if one does
abbrev pub with_on : Logged → Option PauseTold → ℕ → Logged
with_on log None in_cycle = log
with_on log (Some told) in_cycle = with_pause log told in_cycle

-- how many cells were born since the last end once the cycle that marks went on
abbrev pub since_end_with : Option PauseTold → ℕ → ℕ
since_end_with None since_end = since_end
since_end_with (Some told) since_end = if told.ended then 0 else since_end

-- what it has once a cycle began, if one does, where so many cells were born since the last end
abbrev pub with_begun : Logged → Option BegunTold → ℕ → Logged
with_begun log None since_end = log
with_begun log (Some told) since_end = with_pause (record log {
  begun = log.begun + 1;
  full = told.full;
  parts = 0;
  before = since_end;
  paused = 0;
  visited = 0;
}) told.pause 0

-- what it has once a freeze is told, before which so many cells were born since the last end and in the cycle
abbrev pub with_freeze : Logged → ℕ → FreezeTold → ℕ → ℕ → Logged
with_freeze log visited told since_end in_cycle =
    with_begun (with_on (record log { visited = log.visited + visited }) told.went_on in_cycle) told.begun
    (since_end_with told.went_on since_end)
