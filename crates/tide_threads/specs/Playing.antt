-- A participant before, in and after its part.
use Rattle.std.specs.Prelude.{ℕ, ◌≡◌, ◌<◌, ◌≤◌, ◌+◌, Bool, true, false, List, length, slice_get}
use Rattle.std.specs.Prelude.{Option, None, Some, Result, Ok, Err}
use Rattle.atomic_table.specs.Seated.{TableId}
use Rattle.crossbeam_utils.specs.Padded.{padded_value}
use Rattle.crossbeam_utils.specs.declared.cache_padded.CachePadded.{CachePadded}
use Rattle.tide_heap.specs.Turns.{ticket_of}
use Rattle.tide_heap.specs.tide_core.machine.World.{first_visitor}
use Rattle.tide_heap.specs.tide_core.declared.machine.view.View.{View}
use Rattle.tide_model.specs.Layout.{Layout, cell_count}
use Rattle.tide_model.specs.Numbers.{any_below}
use Rattle.tide_model.specs.Refused.{ShapeLists}
use Rattle.tide_model.specs.declared.entry.Event.{Event}
use Rattle.tide_model.specs.declared.Memory.{Memory}
use Rattle.tide_mutator.specs.calls.Viewed.{table_of, view_of}
use Rattle.tide_periods.specs.Own.{IsCursorWithin, RanOwnShare}
use Rattle.tide_heap.specs.declared.steps.notes.Note.{Note}
use Rattle.tide_heap.specs.declared.steps.notes.Ticket.{Ticket}
use Rattle.tide_threads.specs.Acting.{has_left}
use Rattle.tide_threads.specs.Marking.{HasMadeVisits, MayBeginVisits}
use Rattle.tide_threads.specs.Parked.{HasPlayed, IsAtRest, IsParked}
use Rattle.tide_threads.specs.declared.calling.CallingMutator.{CallingMutator}
use Rattle.tide_threads.specs.declared.marking.CountingVisitor.{CountingVisitor}
use Rattle.tide_threads.specs.declared.participant.Participant.{Participant}
use Rattle.tide_threads.specs.declared.worker.Worker.{Worker}
use Rattle.tide_threads.specs.declared.worker.Worker.TheVariants.{Mutator, Visitor}
use Rattle.tide_visitor.specs.Viewed as visiting

-- Between two parts the mutator at this place of the participants is of this table and parked, and its cursor is its
-- own. Mutators come first, in the order of their numbers.
pub record MutatorStandsBy (id : TableId) (layout : Layout) (collector : View) (at : ℕ) (x : CallingMutator) : Type 0 where
  pub table : table_of x.mutator ≡ id
  pub is_mutator : at < layout.mutators
  pub number : x.cursor.who ≡ at
  pub parked : IsParked collector at x.cursor.retired (view_of x.mutator)

-- Between two parts the visitor at this place is of this table and stands still, and its stack has room for each cell.
-- Visitors come after the mutators, in the order of their numbers.
pub record VisitorStandsBy (id : TableId) (layout : Layout) (collector : View) (at : ℕ) (x : CountingVisitor) : Type 0 where
  pub table : visiting.table_of x.visitor ≡ id
  pub visitor : ℕ
  pub is_visitor : visitor < layout.visitors
  pub place : at ≡ layout.mutators + visitor
  pub rests : IsAtRest collector (first_visitor + visitor) (visiting.view_of x.visitor)
  pub room : cell_count layout ≤ visiting.stack_room_of x.visitor

-- whoever acts at this place stands by
abbrev pub WorkerStandsBy : TableId → Layout → View → ℕ → Worker → Type 0
WorkerStandsBy id layout collector at (Mutator x) = MutatorStandsBy id layout collector at x
WorkerStandsBy id layout collector at (Visitor x) = VisitorStandsBy id layout collector at x

-- a participant stands by where whoever acts for it does, and it has neither a ticket nor a note
pub record StandsBy (id : TableId) (layout : Layout) (collector : View) (at : ℕ) (x : Participant) : Type 0 where
  pub worker : WorkerStandsBy id layout collector at x.worker
  pub no_ticket : x.ticket ≡ None
  pub no_note : x.note ≡ None

-- one for each mutator and each visitor, in order
pub record AllStandBy (id : TableId) (layout : Layout) (collector : View) (participants : List (CachePadded Participant))
    : Type 0 where
  pub one_each : length participants ≡ layout.mutators + layout.visitors
  pub each : (at : ℕ) (padded : CachePadded Participant) → slice_get participants at ≡ Some padded →
      StandsBy id layout collector at (padded_value padded)

-- the ticket is for the open part of this collector's view
pub record IsTicketOf (id : TableId) (collector : View) (ticket : Ticket) : Type 0 where
  pub of_heap : ticket.seat.table_id ≡ id
  pub tells : ticket.seat.me.0 ≡ ticket_of collector

-- a participant was handed a ticket, unless it has left for good
pub record WasHanded (id : TableId) (collector : View) (x y : Participant) : Type 0 where
  pub worker : y.worker ≡ x.worker
  pub note : y.note ≡ x.note
  pub left : has_left x.worker ≡ true → y.ticket ≡ x.ticket
  pub ticket : has_left x.worker ≡ false → (ticket : Ticket) × (y.ticket ≡ Some ticket) × IsTicketOf id collector ticket

-- A mutator may begin its part with this ticket: the ticket is of a later part than its last one, and its cursor knows
-- of it what the ticket tells of the history.
pub record MayBeginShare (id : TableId) (layout : Layout) (shapes : ShapeLists) (ticket : Ticket) (x : CallingMutator)
    : Type 0 where
  pub table : table_of x.mutator ≡ id
  pub of_heap : ticket.seat.table_id ≡ id
  pub is_mutator : (view_of x.mutator).who < layout.mutators
  pub rests : (view_of x.mutator).runs ≡ false
  pub stays : (view_of x.mutator).left ≡ false
  pub period : (view_of x.mutator).period < ticket.seat.me.0.period
  pub begun : (view_of x.mutator).begun < ticket.seat.me.0.period
  pub number : x.cursor.who ≡ (view_of x.mutator).who
  pub active : x.cursor.retired ≡ false
  pub knows : IsCursorWithin (record { layout = layout; shapes = shapes }) ticket.seat.me.0.seen (view_of x.mutator).mine
      x.cursor

-- whoever acts, a mutator or a visitor, may begin its part with this ticket
abbrev pub MayBeginPart : TableId → Layout → ShapeLists → Ticket → Worker → Type 0
MayBeginPart id layout shapes ticket (Mutator x) = MayBeginShare id layout shapes ticket x
MayBeginPart id layout shapes ticket (Visitor x) = MayBeginVisits id layout ticket x

-- where a participant has a ticket, it may begin its part
abbrev pub MayPlay : TableId → Layout → ShapeLists → Participant → Type 0
MayPlay id layout shapes x = (ticket : Ticket) → x.ticket ≡ Some ticket → MayBeginPart id layout shapes ticket x.worker

-- a mutator made its share of the part of a ticket with this view, and this is its note; and whether it stopped before
-- its share was over
pub record HasMadeShare (id : TableId) (layout : Layout) (shapes : ShapeLists) (ticket : View) (x y : CallingMutator)
    (note : Note) (ended : Bool) : Type 0 where
  pub table : table_of y.mutator ≡ id
  pub of_heap : note.seat.table_id ≡ id
  pub played : HasPlayed ticket x.cursor.who y.cursor.retired (view_of y.mutator) note.seat.me.0
  pub seen : List Event
  pub ran : RanOwnShare (record { layout = layout; shapes = shapes }) ticket.run seen (view_of y.mutator).seen
      (view_of x.mutator).mine (view_of y.mutator).mine x.cursor y.cursor ended

-- a visitor did its part, and never stops before that is over
pub record HasDoneVisits (id : TableId) (ticket : View) (x y : CountingVisitor) (note : Note) (ended : Bool) : Type 0 where
  pub made : HasMadeVisits id ticket x y note
  pub stays : ended ≡ false

-- whoever acts did its part of a ticket with this view, and this is its note
abbrev pub HasDoneShare : TableId → Layout → ShapeLists → View → (x y : Worker) → Note → Bool → Type 0
HasDoneShare id layout shapes ticket (Mutator x) (Mutator y) note ended = HasMadeShare id layout shapes ticket x y note ended
HasDoneShare id layout shapes ticket (Visitor x) (Visitor y) note ended = HasDoneVisits id ticket x y note ended
HasDoneShare id layout shapes ticket (Mutator x) (Visitor y) note ended = ⊥
HasDoneShare id layout shapes ticket (Visitor x) (Mutator y) note ended = ⊥

-- a participant did its part of a ticket with this view, and its note is out
pub record HasMadePart (id : TableId) (layout : Layout) (shapes : ShapeLists) (ticket : View) (x : Worker)
    (y : Participant) (ended : Bool) : Type 0 where
  pub note : Note
  pub is_out : y.note ≡ Some note
  pub did : HasDoneShare id layout shapes ticket x y.worker note ended

-- a participant did nothing
pub record HasRested (x y : Participant) : Type 0 where
  pub worker : y.worker ≡ x.worker
  pub note : y.note ≡ x.note
  pub outcome : y.outcome ≡ Ok false

-- a participant did its part: where it had a ticket it did its share, unless memory was wanted, and else nothing
pub record DidPart (id : TableId) (layout : Layout) (shapes : ShapeLists) (x y : Participant) : Type 0 where
  pub no_ticket : y.ticket ≡ None
  pub rested : x.ticket ≡ None → HasRested x y
  pub made : (ticket : Ticket) → x.ticket ≡ Some ticket → (ended : Bool) → y.outcome ≡ Ok ended →
      HasMadePart id layout shapes ticket.seat.me.0 x.worker y ended

-- the note may be taken in while the part with this number is open
pub record MayTake (id : TableId) (period : ℕ) (note : Note) : Type 0 where
  pub of_heap : note.seat.table_id ≡ id
  pub of_part : note.seat.me.0.period ≡ period

-- a participant gave its note away, if there was one
abbrev pub GaveNote : Participant → Participant → Type 0
GaveNote x y = y ≡ record x { note = None }

-- two lists of participants that are as long, and in which this holds of those at the same place
pub record Both (holds : Participant → Participant → Type 0) (xs ys : List (CachePadded Participant)) : Type 0 where
  pub as_many : length ys ≡ length xs
  pub each : (who : ℕ) (x y : CachePadded Participant) → slice_get xs who ≡ Some x → slice_get ys who ≡ Some y →
      holds (padded_value x) (padded_value y)

-- a participant that hasn't left for good may begin its part with any ticket of it
pub record MayHear (id : TableId) (layout : Layout) (shapes : ShapeLists) (collector : View) (x : Participant)
    : Type 0 where
  pub no_ticket : x.ticket ≡ None
  pub ready : has_left x.worker ≡ false → (ticket : Ticket) → IsTicketOf id collector ticket →
      MayBeginPart id layout shapes ticket x.worker

-- a participant took part in the part that this collector's view opened: it did nothing where it had left for good, and
-- else it did its share, and its note is out
pub record TookTurn (id : TableId) (layout : Layout) (shapes : ShapeLists) (collector : View) (x y : Participant)
    : Type 0 where
  pub no_ticket : y.ticket ≡ None
  pub rested : has_left x.worker ≡ true → HasRested x y
  pub made : has_left x.worker ≡ false →
      (ended : Bool) × (y.outcome ≡ Ok ended) × HasMadePart id layout shapes (ticket_of collector) x.worker y ended

-- whether a participant stopped before its share was over
abbrev pub ended_by : Result Bool Memory → Bool
ended_by (Ok ended) = ended
ended_by (Err memory) = false

abbrev pub stopped_at : Option (CachePadded Participant) → Bool
stopped_at (Some padded) = ended_by (padded_value padded).outcome
stopped_at None = false

-- whether the participant at this place of a list stopped before its share was over
abbrev pub stopped_in : List (CachePadded Participant) → ℕ → Bool
stopped_in participants who = stopped_at (slice_get participants who)

-- memory served all participants, and one of them stopped before its share was over, or none did
pub record AllServed (participants : List (CachePadded Participant)) (ended : Bool) : Type 0 where
  pub served : (who : ℕ) (padded : CachePadded Participant) → slice_get participants who ≡ Some padded →
      (padded_value padded).outcome ≡ Ok (stopped_in participants who)
  pub stopped : ended ≡ any_below (stopped_in participants) (length participants)
