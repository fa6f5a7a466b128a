-- What holds of a run on threads between two parts, and what a run sees of it.
use Rattle.std.specs.Prelude.{ℕ, ◌≡◌, List, []}
use Rattle.tide_heap.specs.tide_freeze.Books.{AreBooks}
use Rattle.tide_model.specs.Pace.{Pace}
use Rattle.tide_periods.specs.Recorded.{Recorded, recorded_at}
use Rattle.tide_periods.specs.Store.{Setting}
use Rattle.tide_periods.specs.declared.cursor.ScriptCursor.{ScriptCursor}
use Rattle.tide_report.specs.Ends.{TellsEnds}
use Rattle.tide_sched.specs.Paces.{pace_of}
use Rattle.tide_shape.specs.Lists.{lists_of}
use Rattle.tide_shape.specs.declared.shapes.Shapes.{Shapes}
use Rattle.tide_table.specs.declared.closed.Closed.{Closed}
use Rattle.tide_table.specs.Standing.{MayEnterVisits, StandsStill}
use Rattle.tide_threads.specs.Acting.{cursors_in}
use Rattle.tide_threads.specs.Playing.{AllStandBy}
use Rattle.tide_threads.specs.Standing.{MayOpenPart}
use Rattle.tide_threads.specs.declared.on_threads.OnThreads.{OnThreads}

-- what never changes of a heap on which participants run on threads
abbrev pub setting_in : OnThreads → Setting
setting_in o = record { layout = o.heap.key.layout; shapes = lists_of o.heap.key.shapes }

-- what never changed of a heap that was closed
abbrev pub setting_left : Closed Shapes → Setting
setting_left closed = record { layout = closed.key.layout; shapes = lists_of closed.key.shapes }

-- what its history tells
abbrev pub recorded_in : OnThreads → Recorded
recorded_in o = recorded_at (setting_in o) o.collector.seat.me.0.seen

-- the mutators of a heap on threads, each by its own calls
abbrev pub cursors_on : OnThreads → List ScriptCursor
cursors_on o = cursors_in o.participants.items

-- how its cycles are paced
abbrev pub pace_on : OnThreads → Pace
pace_on o = pace_of o.books.pacing

-- Between two parts the collector is of the heap, which stands still. The books go with its history, and the report
-- tells its ends. Each participant stands by, and no calls were handed over yet.
pub record Stands (o : OnThreads) : Type 0 where
  pub of_heap : o.collector.seat.table_id ≡ o.heap.table.shared.table_id
  pub still : StandsStill o.heap.key.layout (lists_of o.heap.key.shapes) o.collector.seat.me.0
  pub books : AreBooks o.heap.key.layout o.collector.seat.me.0.seen o.books
  pub told : TellsEnds o.heap.key.layout o.collector.seat.me.0.seen o.books.report
  pub all : AllStandBy o.heap.table.shared.table_id o.heap.key.layout o.collector.seat.me.0 o.participants.items
  pub no_calls : o.calls.items ≡ []

-- a part of so many calls may be opened on it
abbrev pub MayOpenOn : OnThreads → ℕ → Type 0
MayOpenOn o run = MayOpenPart o.heap.key.layout o.collector.seat.me.0 run

-- what notes told of visits after a part may be entered in its freeze
abbrev pub MayEnterOn : OnThreads → Type 0
MayEnterOn o = MayEnterVisits o.heap.key.layout o.collector.seat.me.0
