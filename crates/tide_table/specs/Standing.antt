-- What the collector's view of a heap has from one freeze to the next.
use Rattle.std.specs.Prelude.{ℕ, ◌≡◌, ◌+◌, ◌<◌, ◌≤◌, ◌^◌, Bool, true, false, length, map, List, [], ◌∷◌, ◌++◌}
use Rattle.tide_heap.specs.tide_freeze.Books.{AreBooks}
use Rattle.tide_heap.specs.tide_freeze.Freezing.{HasFrozenWhole, HasVisited}
use Rattle.tide_heap.specs.tide_freeze.declared.books.Books.{Books}
use Rattle.tide_heap.specs.tide_layout.Limits.{most_cells, IsWithinLimits}
use Rattle.tide_heap.specs.tide_layout.Region.{word_count}
use Rattle.tide_heap.specs.tide_layout.declared.region.Region.TheVariants.{Stopped}
use Rattle.tide_heap.specs.tide_core.machine.Frozen.{FrozenWith, MayOpen}
use Rattle.tide_heap.specs.tide_core.declared.machine.view.View.{View}
use Rattle.tide_model.specs.Cycle.{begin_count}
use Rattle.tide_model.specs.Each.{Each}
use Rattle.tide_model.specs.Freeze.{marks_after, visits_entries}
use Rattle.tide_model.specs.History.{plain}
use Rattle.tide_model.specs.Layout.{Layout}
use Rattle.tide_model.specs.Pace.{Pace}
use Rattle.tide_model.specs.Periods.{EndsInTime, next_run, open_count}
use Rattle.tide_model.specs.Prefix.{IsPrefix}
use Rattle.tide_model.specs.Refused.{ShapeLists}
use Rattle.tide_model.specs.declared.entry.Entry.TheVariants.{Open}
use Rattle.tide_model.specs.declared.entry.Event.{Event}
use Rattle.tide_sched.specs.Paces.{last_run}
use Rattle.tide_heap.specs.Turns.{Freezes}
use Rattle.tide_heap.specs.tide_words.heap.Heap.{SameIn, heap_of}
use Rattle.tide_heap.specs.tide_words.marking.Colours.{is_black}
use Rattle.tide_table.specs.VisitsTold.{AreTold, unentered, visits_told}

-- While a part runs the view has the number and the run of the part that was opened last, and the cycles up to there
-- ended in time.
pub record RunsPart (layout : Layout) (v : View) : Type 0 where
  pub running : v.frozen ≡ false
  pub period : v.period ≡ open_count v.start
  pub run : v.run ≡ last_run v.start
  pub ends : Each (EndsInTime layout) v.start

-- The heap stands still: its words meet the wave at a freeze, with the visits that notes told and that aren't entered
-- yet. Once a part was opened, the cells that are black now are those that were at the last entry, or where the freeze
-- began. Cycles ended in time, and who stopped when is as it was at the freeze.
pub record StandsStill (layout : Layout) (shapes : ShapeLists) (v : View) : Type 0 where
  pub limits : IsWithinLimits layout
  pub frozen : v.frozen ≡ true
  pub few : v.births ≤ most_cells
  pub period : v.period ≡ open_count v.seen
  pub run : 0 < v.period → v.run ≡ last_run v.seen
  pub long : length v.words ≡ word_count layout
  pub wave : FrozenWith layout shapes (heap_of layout v.words) v.seen (unentered v.visited)
  pub ends : Each (EndsInTime layout) v.seen
  pub stopped : SameIn layout Stopped (heap_of layout v.stood) (heap_of layout v.words)
  pub blacks : 0 < v.period → is_black (heap_of layout v.words) ≡ is_black (heap_of layout v.words_at_entry)

-- what notes told of visits may be entered where a cycle marks, and they told of none where none does
pub record MayEnterVisits (layout : Layout) (v : View) : Type 0 where
  pub marked : marks_after layout v.seen ≡ true → AreTold layout v.run v.visited
  pub rests : marks_after layout v.seen ≡ false → unentered v.visited ≡ 0

-- two views that are the same but for words, entries and the visits that are left to enter
abbrev pub LeavesRest : View → View → Type 0
LeavesRest v w = record w { seen = []; words = []; words_at_entry = []; visited = [] } ≡ record v { seen = []; words = []; words_at_entry = []; visited = [] }

-- a part runs, its number is one of 32 bits, fewer cycles began than parts were opened, and the books go with the
-- history up to its opening
pub record RunsWith (layout : Layout) (books : Books) (v : View) : Type 0 where
  pub runs : RunsPart layout v
  pub few : begin_count v.start < v.period
  pub numbered : v.period < 2 ^ 32
  pub are : AreBooks layout v.start books

-- The view before the next part was opened, and right after it: no note is in that would say that a part isn't done,
-- and who had left for good is gone.
pub record HasOpenedNext (layout : Layout) (books : Books) (v w : View) : Type 0 where
  pub runs : RunsWith layout books w
  pub period : w.period ≡ v.period + 1
  pub notes : w.notes ≡ []
  pub visited : w.visited ≡ []
  pub done : w.done ≡ true
  pub gone : w.gone ≡ v.gone
  pub seen : w.seen ≡ w.start

-- Where a cycle marks, what a freeze entered first is, of each visitor in the order of their numbers, how many cells its
-- note told that it made black.
abbrev pub EntersTold : Layout → View → List Event → Type 0
EntersTold layout v after = marks_after layout v.seen ≡ true →
    IsPrefix (v.seen ++ map plain (visits_entries 0 (visits_told v.visited 0 layout.visitors))) after

-- A freeze after the part of `v` did what the schedule asks for, and the next part was opened with as many calls as
-- that leaves for it.
pub record HasFrozenNext (pace : Pace) (layout : Layout) (is_forced : Bool) (v w : View) : Type 0 where
  pub frozen : List Event
  pub freezes : HasFrozenWhole pace layout (last_run v.seen) v.seen frozen is_forced
  pub told : EntersTold layout v frozen
  pub opened : w.start ≡ frozen ++ plain (Open w.period (next_run pace layout frozen)) ∷ []

-- What notes told of visits was entered, if a cycle marks, and nothing else happened: none is left to enter, and the
-- words meet the wave of the longer history.
pub record HasEnteredVisits (layout : Layout) (shapes : ShapeLists) (v w : View) : Type 0 where
  pub visited : HasVisited layout v.run v.seen w.seen
  pub told : EntersTold layout v w.seen
  pub wave : FrozenWith layout shapes (heap_of layout w.words) w.seen 0
  pub entered : unentered w.visited ≡ 0
  pub words : w.words ≡ v.words
  pub rest : LeavesRest v w
  pub blacks : 0 < v.period → is_black (heap_of layout w.words) ≡ is_black (heap_of layout w.words_at_entry)

-- A freeze did what the schedule asks for after the running part that ended, and no visits are left to enter: the heap
-- stands still, and the next part may be opened, in which each mutator has so many calls.
pub record HasCollected (layout : Layout) (shapes : ShapeLists) (pace : Pace) (is_forced : Bool) (v w : View) (run : ℕ)
    : Type 0 where
  pub still : StandsStill layout shapes w
  pub entered : unentered w.visited ≡ 0
  pub rest : LeavesRest v w
  pub freezes : HasFrozenWhole pace layout (last_run v.seen) v.seen w.seen is_forced
  pub told : EntersTold layout v w.seen
  pub next : run ≡ next_run pace layout w.seen
  pub may : MayOpen layout (heap_of layout w.words) run

-- The part of `v` was frozen, and what the schedule asks for after it was done; no next part was opened.
pub record HasEndedPart (layout : Layout) (shapes : ShapeLists) (pace : Pace) (is_forced : Bool) (v w : View) : Type 0 where
  pub frozen : View
  pub froze : Freezes layout shapes v frozen
  pub run : ℕ
  pub collected : HasCollected layout shapes pace is_forced frozen w run
