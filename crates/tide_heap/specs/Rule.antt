-- The rule of the table of words, in its two modes: while a part runs, the words and views meet the wave of the
-- machine; while the heap is frozen, the collector has the words to itself.
use Rattle.std.specs.Prelude.{ℕ, Contains, ◌≡◌, ◌↔◌, ◌+◌, ◌<◌, ◌≤◌, ◌⊎◌, true, false, List, [], ◌++◌, length, MatchBool, slice_get, Some}
use mathlib.Core.Option.{some}
use lib.ListN.{get_elem?}
use Rattle.atomic_table.specs.Table.{State}
use Rattle.tide_core.specs.tide_layout.Limits.{IsWithinLimits}
use Rattle.tide_core.specs.tide_layout.Region.{word_count}
use Rattle.tide_core.specs.tide_layout.declared.region.Region.TheVariants as region
use Rattle.tide_core.specs.machine.Frozen.{newcomer}
use Rattle.tide_core.specs.machine.RunningWave.{RunningWave}
use Rattle.tide_core.specs.declared.machine.view.NotedCalls.{NotedCalls}
use Rattle.tide_core.specs.declared.machine.view.Role.{Role}
use Rattle.tide_core.specs.declared.machine.view.Role.TheVariants.{Collector, Member, Note, Ticket, Spent}
use Rattle.tide_core.specs.declared.machine.view.View.{View}
use Rattle.tide_core.specs.machine.points.Marks.{SpanIsLive}
use Rattle.tide_core.specs.machine.points.Seen.{IsKnown, WhoLeftIsInactive, ParkedIsEmpty}
use Rattle.tide_core.specs.machine.points.Stops.{StopsAreTold}
use Rattle.tide_model.specs.Freeze.{marks_after}
use Rattle.tide_model.specs.History.{is_open, state_after}
use Rattle.tide_model.specs.Lawful.{IsLawful}
use Rattle.tide_model.specs.Layout.{Layout}
use Rattle.tide_model.specs.Periods.{open_count}
use Rattle.tide_model.specs.Prefix.{IsPrefix}
use Rattle.tide_model.specs.Refused.{ShapeLists}
use Rattle.tide_model.specs.Since.{since}
use Rattle.tide_model.specs.declared.entry.Event.{Event}
use Rattle.tide_heap.specs.Births.{births_in, born_to, told_births}
use Rattle.tide_heap.specs.Done.{HasDonePart}
use Rattle.tide_heap.specs.Parties.{HasNoted, In, IsParty, tally}
use Rattle.tide_core.specs.tide_words.heap.Heap.{Heap, Reads, heap_of}
use Rattle.tide_core.specs.tide_words.marking.Colours.{is_marking, running_cycle}
use Rattle.tide_core.specs.tide_words.marking.Marked.{base_cycle}

-- what the collector's view says of the open part, another says too
pub record AgreesOnPart (cv u : View) : Type 0 where
  pub marks : u.marks ≡ cv.marks
  pub cycle : u.cycle ≡ cv.cycle
  pub mark_version : u.mark_version ≡ cv.mark_version
  pub run : u.run ≡ cv.run

-- What a note that was taken in tells of a participant's calls is so still: its note of the open part is in, or it has
-- left for good.
abbrev pub IsAsNoted : View → View → ℕ → NotedCalls → Type 0
IsAsNoted cv p i noted =
    (In i cv.notes ⊎ In i cv.gone) × (p.seen ≡ noted.seen) × (p.mine ≡ noted.mine) × (p.left ≡ noted.left)

-- A participant's view beside the collector's. Its note of a part is out where the part of its last stop is that of its
-- last ticket.
pub record MemberOk (layout : Layout) (cv p : View) (i : ℕ) : Type 0 where
  pub role : p.role ≡ Member
  pub behind : p.period ≤ p.ticket
  pub close : In i cv.gone ⊎ (cv.period ≤ p.period + 1)
  pub ticket : p.ticket ≤ cv.period
  pub runs : p.runs ≡ true → p.period < p.ticket
  pub told : p.ticket ≡ cv.period → AgreesOnPart cv p
  pub still : i < layout.mutators → p.visits ≡ 0
  pub mutator : p.left ≡ true → i < layout.mutators
  -- what it had seen before its last ticket, and what that told, are beginnings of what it has seen
  pub earlier : IsPrefix p.earlier p.seen
  pub heard : IsPrefix p.told p.seen
  -- what its note told of its calls is so still
  pub calls : (noted : NotedCalls) → Contains cv.noted_calls noted → noted.who ≡ i → IsAsNoted cv p i noted
  -- while it doesn't run it has stopped in the part in which it last began, and in the open one if its note is in
  pub ended : p.runs ≡ false → p.stopped ≡ p.begun
  pub halted : In i cv.notes → p.stopped ≡ cv.period
  -- whose note of the open part was taken in, and who has left for good
  pub noted : In i cv.notes → (p.period ≡ cv.period) × IsPrefix p.seen cv.seen
  pub gone : In i cv.gone → (p.left ≡ true) × (p.runs ≡ false) × IsPrefix p.seen cv.seen × (p.ticket ≤ p.period)
  pub over : In i cv.gone → In i cv.notes ⊎ (p.begun < cv.period)
  pub leaves : In i cv.notes → p.left ≡ true → In i cv.gone
  -- it began in the part, and has done it, where all notes that are in say so
  pub began : In i cv.notes → cv.done ≡ true → p.begun ≡ cv.period
  pub done : In i cv.notes → cv.done ≡ true → HasDonePart layout p

-- A note of the open part is of a participant that has stopped, and has seen all that it saw. It is the only one of its
-- participant, on the seat `only`, and hasn't been taken in. It says that its participant has done its part exactly
-- where that is so.
pub record NoteOk (layout : Layout) (cv p : View) (only k : ℕ) (u : View) : Type 0 where
  pub behind : u.period ≤ p.period
  pub now : u.period ≡ cv.period →
      (p.seen ≡ u.seen) × (p.left ≡ u.left) × (p.visits ≡ u.visits) × (p.begun ≡ u.begun) × (p.mine ≡ u.mine)
      × (p.born ≡ u.born)
  pub one : u.period ≡ cv.period → only ≡ k
  pub out : u.period ≡ cv.period → In u.who cv.notes → ⊥
  pub began : u.period ≡ cv.period → p.begun ≡ cv.period
  pub done : u.period ≡ cv.period → ((u.done ≡ true) ↔ HasDonePart layout p)

-- a ticket tells what the collector knew when it gave it out
pub record Heard (log : List Event) (cv u : View) : Type 0 where
  pub behind : u.period ≤ cv.period
  pub prefix : IsPrefix u.seen log
  pub told : u.period ≡ cv.period → AgreesOnPart cv u

module _ (layout : Layout) (cv : View) (part : ℕ → View) (seat_of note_at : ℕ → ℕ) (log : List Event) (k : ℕ)
    (u : View) where
  -- what a seat is, by its role
  abbrev pub SeatOkAs : Role → Type 0
  SeatOkAs Collector = (k ≡ 0) × (u ≡ cv)
  SeatOkAs Member = IsParty layout u.who × (u.who < cv.next) × (u ≡ part u.who) × (seat_of u.who ≡ k)
  SeatOkAs Note = IsParty layout u.who × NoteOk layout cv (part u.who) (note_at u.who) k u
  SeatOkAs Ticket = Heard log cv u
  SeatOkAs Spent = Unit {0}

abbrev pub SeatOk : Layout → View → (ℕ → View) → (ℕ → ℕ) → (ℕ → ℕ) → List Event → ℕ → View → Type 0
SeatOk layout cv part seat_of note_at log k u = SeatOkAs layout cv part seat_of note_at log k u u.role

-- The collector's view keeps what notes told of calls: of each whose note of a running part is in, and of each who has
-- left for good, that it left.
pub record KeepsNoted (cv : View) : Type 0 where
  pub noted : cv.frozen ≡ false → (i : ℕ) → In i cv.notes → HasNoted cv i
  pub gone : (i : ℕ) → In i cv.gone →
      (noted : NotedCalls) × Contains cv.noted_calls noted × (noted.who ≡ i) × (noted.left ≡ true)

-- what stood in the cycle that marks names only cells that are live now, as far as the history says that one marks
abbrev pub SpanStays : Layout → List Event → Type 0
SpanStays layout log = (heap : Heap) → (is_marking heap ≡ true → marks_after layout log ≡ true) →
    SpanIsLive layout heap log

-- while frozen: the collector knows the words and the whole history, and all others have stopped. Of the wave nothing
-- is said.
pub record IsFrozen (layout : Layout) (shapes : ShapeLists) (words : List ℕ) (log : List Event) (cv : View)
    (part : ℕ → View) : Type 0 where
  pub words_are : words ≡ cv.words
  pub long : length words ≡ word_count layout
  pub seen_all : log ≡ cv.seen
  pub lawful : IsLawful layout shapes log
  pub counts : cv.period ≡ open_count log
  pub span : SpanStays layout log
  pub known : IsKnown log part
  pub begun : (p : ℕ) → (part p).begun ≤ cv.period
  pub left : WhoLeftIsInactive part (state_after layout log)
  pub empty : ParkedIsEmpty part
  -- the words at the freeze told in which part each has stopped
  pub stops : StopsAreTold layout (heap_of layout cv.stood) part
  pub all_in : (i : ℕ) → IsParty layout i → In i cv.notes ⊎ In i cv.gone

-- while a part runs: the words and the views meet the running wave, and the collector's view has the part's numbers
pub record IsRunning (layout : Layout) (shapes : ShapeLists) (words : List ℕ) (log : List Event) (cv : View)
    (part : ℕ → View) : Type 0 where
  pub heap : Heap
  pub reads : Reads layout words heap
  pub wave : RunningWave layout shapes (record { heap = heap; part = part; log = log })
  pub period : heap region.Period 0 ≡ cv.period
  pub marks : cv.marks ≡ is_marking heap
  pub cycle : cv.cycle ≡ running_cycle heap
  pub based : cv.mark_version ≡ base_cycle heap
  -- where it marks and there are visitors, they run for some calls
  pub some_run : cv.marks ≡ true → 0 < layout.visitors → 0 < cv.run

abbrev pub Mode : Layout → ShapeLists → List ℕ → List Event → View → (ℕ → View) → Type 0
Mode layout shapes words log cv part =
    MatchBool cv.frozen (IsFrozen layout shapes words log cv part) (IsRunning layout shapes words log cv part)

-- the table with one history
pub record Tabled (layout : Layout) (shapes : ShapeLists) (words : List ℕ) (views : List View) (log : List Event)
    : Type 0 where
  pub limits : IsWithinLimits layout
  pub empty_shape : slice_get shapes 0 ≡ Some []
  -- the collector's view, the participants' by their numbers, the seat of each, and that of its note of the open part
  pub cv : View
  pub part : ℕ → View
  pub seat_of : ℕ → ℕ
  pub note_at : ℕ → ℕ
  pub collects : cv.role ≡ Collector
  pub each : (k : ℕ) (u : View) → get_elem? views k ≡ some u → SeatOk layout cv part seat_of note_at log k u
  -- those without a seat yet, and those that the layout doesn't have
  pub fresh : (i : ℕ) → cv.next ≤ i → part i ≡ newcomer i
  pub strangers : (i : ℕ) → (IsParty layout i → ⊥) → part i ≡ newcomer i
  pub members : (i : ℕ) → IsParty layout i → MemberOk layout cv (part i) i
  pub keeps : KeepsNoted cv
  pub prefix : IsPrefix cv.seen log
  -- the history is what someone has seen
  pub tip : (log ≡ cv.seen) ⊎ ((i : ℕ) × IsParty layout i × (log ≡ (part i).seen))
  -- who has left is active no more
  pub retired : (i : ℕ) → (part i).left ≡ true → (state_after layout log).active i ≡ false
  -- the visits of those whose notes are in
  pub visits_told : tally cv.period part cv.notes ≡ cv.visits_told
  -- each view counts the births of its participant since the part was opened; those of whom the notes are in
  pub births : (i : ℕ) → births_in cv.period (part i) ≡ born_to i log
  pub told : told_births cv.period part cv.notes ≡ cv.births
  -- the history is that up to the opening, and what came since
  pub start : cv.start ++ since is_open log ≡ log
  pub mode : Mode layout shapes words log cv part

pub record Rule (layout : Layout) (shapes : ShapeLists) (s : State (Unit {0}) View) : Type 0 where
  pub log : List Event
  pub tabled : Tabled layout shapes s.words s.views log
