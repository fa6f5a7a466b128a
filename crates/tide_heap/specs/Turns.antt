-- What the views become as participants come, stop and go on, and as the collector seats, freezes, enters and opens.
use Rattle.std.specs.List.{list_all}
use Rattle.std.specs.Prelude.{ℕ, Bool, Contains, ◌≡◌, ◌<◌, ◌≤◌, ◌+◌, ◌==◌, ◌&&◌, not, filter, count_by, true, false, List, [], ◌∷◌, ◌++◌, length, replicate, slice_set, if◌then◌else◌}
use Rattle.tide_core.specs.tide_layout.Limits.{most_cells, IsWithinLimits}
use Rattle.tide_core.specs.tide_layout.Region.{word_count}
use Rattle.tide_core.specs.tide_layout.declared.region.Region.TheVariants as region
use Rattle.tide_core.specs.machine.Frozen.{FrozenWith, newcomer}
use Rattle.tide_core.specs.machine.Kind as kind
use Rattle.tide_core.specs.machine.World.{first_visitor, parties}
use Rattle.tide_core.specs.declared.machine.view.NotedCalls.{NotedCalls}
use Rattle.tide_core.specs.declared.machine.view.Role.TheVariants.{Collector, Note, Ticket, Spent}
use Rattle.tide_core.specs.declared.machine.view.View.{View}
use Rattle.tide_core.specs.declared.machine.view.NotedVisits.{NotedVisits}
use Rattle.tide_core.specs.machine.kinds.Join.{joined_view}
use Rattle.tide_model.specs.History.{is_call_of, plain, state_after}
use Rattle.tide_model.specs.Layout.{Layout}
use Rattle.tide_model.specs.Prefix.{IsPrefix}
use Rattle.tide_model.specs.Refused.{ShapeLists}
use Rattle.tide_model.specs.Since.{SweptWereTaken, TakenAreSwept, is_birth, is_of_part}
use Rattle.tide_model.specs.declared.entry.Entry.TheVariants.{Open, Visits}
use Rattle.tide_model.specs.declared.entry.Event.{Event}
use Rattle.tide_heap.specs.Parties.{HasNoted, In, IsParty, longer, up_to}
use Rattle.tide_core.specs.tide_words.heap.Heap.{heap_of}
use Rattle.tide_core.specs.tide_words.marking.Colours.{is_marking, running_cycle}
use Rattle.tide_core.specs.tide_words.marking.Marked.{base_cycle}

-- The collector's first view. The heap starts frozen, with words that are all 0, as if all had stopped in part 0.
abbrev pub first_view : Layout → View
first_view layout = record (newcomer 0) {
  role = Collector;
  frozen = true;
  notes = up_to parties;
  words = replicate (word_count layout) 0;
  words_at_entry = replicate (word_count layout) 0;
  stood = replicate (word_count layout) 0;
}

-- what a ticket tells a participant that has seen so much
abbrev pub ticket_for : List Event → View → kind.Ticket
ticket_for seen u =
    record {
      seen = longer seen u.seen;
      told = u.seen;
      period = u.period;
      run = u.run;
      marks = u.marks;
      cycle = u.cycle;
      base = u.mark_version;
    }

-- a participant hears a ticket
abbrev pub heard_view : View → View → View
heard_view v u = joined_view (ticket_for v.seen u) v

-- what a note has: the view at the stop, of the part whose ticket was heard, and whether its participant has done its
-- part
abbrev pub note_of : Bool → View → View
note_of done v = record v { role = Note; period = v.ticket; done = done }

-- the collector hands out a seat, and a ticket
abbrev pub seating : ℕ → View → View
seating who v = record v { next = who + 1 }

abbrev pub ticket_of : View → View
ticket_of v = record v { role = Ticket }

-- a note and a ticket that were taken in
abbrev pub spent : View
spent = record (newcomer 0) { role = Spent }

-- what a note tells of visits in the part
abbrev pub visited_of : ℕ → View → NotedVisits
visited_of period u = record { who = u.who; visits = if u.begun == period then u.visits else 0; done = u.done }

-- what a note tells of calls
abbrev pub calls_of : View → NotedCalls
calls_of u = record { who = u.who; seen = u.seen; mine = u.mine; left = u.left }

-- the collector takes in a note
abbrev pub noted : View → View → View
noted v u = record v {
  seen = longer v.seen u.seen;
  notes = u.who ∷ v.notes;
  gone = if u.left then u.who ∷ v.gone else v.gone;
  visits_told = v.visits_told + (if u.begun == v.period then u.visits else 0);
  births = v.births + (if u.begun == v.period then u.born else 0);
  done = v.done && u.done;
  visited = visited_of v.period u ∷ v.visited;
  noted_calls = calls_of u ∷ v.noted_calls;
}

-- the collector freezes the heap, with the words as they are then
abbrev pub frozen_with : List ℕ → View → View
frozen_with words v = record v { frozen = true; words = words; words_at_entry = words; stood = words }

-- the collector stores a word while the heap is frozen
abbrev pub restored : ℕ → ℕ → View → View
restored at word v = record v { words = slice_set v.words at word }

-- the collector makes an entry of its own
abbrev pub entered_with : Event → View → View
entered_with event v = record v { seen = v.seen ++ event ∷ []; words_at_entry = v.words }

-- the collector makes an entry with which nothing is left to enter of this participant's visits
abbrev pub visits_over : ℕ → Event → View → View
visits_over who event v = record (entered_with event v) {
  visited = filter (λ told. not (told.who == who)) v.visited;
}

-- the collector enters the visits that the note of this visitor told, which the entry counts from 0
abbrev pub visits_entered : ℕ → ℕ → View → View
visits_entered visitor visits = visits_over (first_visitor + visitor) (plain (Visits visitor visits))

-- the entry with which the collector opens the next part
abbrev pub open_entry : ℕ → View → Event
open_entry run v = plain (Open (v.period + 1) run)

-- the collector has opened the next part, and keeps what notes told of the calls of those who have left for good
abbrev pub opened : Layout → ℕ → View → View
opened layout run v = record v {
  frozen = false;
  period = v.period + 1;
  run = run;
  marks = is_marking (heap_of layout v.words);
  cycle = running_cycle (heap_of layout v.words);
  mark_version = base_cycle (heap_of layout v.words);
  notes = [];
  visits_told = 0;
  births = 0;
  done = true;
  visited = [];
  noted_calls = filter (λ noted. noted.left) v.noted_calls;
  seen = v.seen ++ open_entry run v ∷ [];
  start = v.seen ++ open_entry run v ∷ [];
  words = [];
  words_at_entry = [];
  stood = [];
}

-- What a freeze tells the collector: the words, and that they meet the wave of the history that it has seen, with the
-- visits that the notes tell and that aren't entered yet. What came since the part was opened are calls, and blocks
-- that are taken, each of which is swept there, and none else is; and in it so many cells were born as the notes tell.
pub record Freezes (layout : Layout) (shapes : ShapeLists) (v w : View) : Type 0 where
  pub limits : IsWithinLimits layout
  pub words : List ℕ
  pub view : w ≡ frozen_with words v
  pub long : length words ≡ word_count layout
  pub wave : FrozenWith layout shapes (heap_of layout words) v.seen v.visits_told
  pub part : List Event
  pub since : v.seen ≡ v.start ++ part
  pub of_part : list_all (λ event. is_of_part event.entry) part ≡ true
  pub taken : TakenAreSwept part
  pub swept : SweptWereTaken part
  pub births : v.births ≡ count_by (λ event. is_birth event.entry) part
  pub few : v.births ≤ most_cells
  -- a note of each participant is in, or was before it left for good: what it tells of the history is a beginning of
  -- it, and what it tells of its participant's calls are all that the history has, so that no call is left out
  pub all : (i : ℕ) → IsParty layout i → HasNoted v i
  pub heard : (noted : NotedCalls) → IsParty layout noted.who → Contains v.noted_calls noted → IsPrefix noted.seen v.seen
  pub own : (noted : NotedCalls) → IsParty layout noted.who → Contains v.noted_calls noted →
      filter (λ event. is_call_of noted.who event.entry) v.seen ≡ noted.mine
  -- who has left for good is known
  pub gone : (i : ℕ) → IsParty layout i → (state_after layout v.seen).active i ≡ false → In i v.gone
  -- the Stopped word of each whose note is in is the number of the part
  pub stops : (i : ℕ) → IsParty layout i → In i v.notes →
      heap_of layout words region.Stopped (kind.index_of_stopped layout i) ≡ v.period
  -- a cycle marks if one did when the part was opened: nobody's step begins or ends one
  pub marks : v.marks ≡ is_marking (heap_of layout words)
  -- where a cycle marks, there are visitors and each note says that its participant has done its part, one made a cell
  -- black
  pub progress : v.marks ≡ true → 0 < layout.visitors → v.done ≡ true → 0 < v.visits_told
