-- Who acts in a part, and what participants have: the mutators among them their cursors, and each a note that is out.
use Rattle.std.specs.Prelude.{ℕ, ◌+◌, Bool, true, false, not, List, [], ◌∷◌, count_by, Option, None, Some}
use Rattle.crossbeam_utils.specs.Padded.{padded_value}
use Rattle.crossbeam_utils.specs.declared.cache_padded.CachePadded.{CachePadded}
use Rattle.tide_heap.specs.Turns.{noted}
use Rattle.tide_heap.specs.tide_core.declared.machine.view.View.{View}
use Rattle.tide_periods.specs.declared.cursor.ScriptCursor.{ScriptCursor}
use Rattle.tide_heap.specs.declared.steps.notes.Note.{Note}
use Rattle.tide_heap.specs.declared.steps.notes.Ticket.{Ticket}
use Rattle.tide_threads.specs.declared.participant.Participant.{Participant}
use Rattle.tide_threads.specs.declared.worker.Worker.{Worker}
use Rattle.tide_threads.specs.declared.worker.Worker.TheVariants.{Mutator, Visitor}

-- who has left for good: a mutator that has retired
abbrev pub has_left : Worker → Bool
has_left (Mutator calling) = calling.cursor.retired
has_left (Visitor counting) = false

-- who makes no call any more: a mutator that has retired, and a visitor, which makes none
abbrev pub is_silent : Worker → Bool
is_silent (Mutator calling) = calling.cursor.retired
is_silent (Visitor counting) = true

-- who has something to do in the part of a ticket: a mutator that hasn't retired, which has a call to make, and a visitor
-- where the ticket tells that a cycle marks; without a ticket nobody has
abbrev pub is_busy_with : Option Ticket → Worker → Bool
is_busy_with None worker = false
is_busy_with (Some ticket) (Mutator calling) = not calling.cursor.retired
is_busy_with (Some ticket) (Visitor counting) = ticket.seat.me.0.marks

-- whether a participant has something to do with its ticket
abbrev pub is_busy : Participant → Bool
is_busy x = is_busy_with x.ticket x.worker

-- how many participants have
abbrev pub busy_in : List (CachePadded Participant) → ℕ
busy_in participants = count_by (λ padded. is_busy (padded_value padded)) participants

-- a mutator's cursor
abbrev pub cursor_of : Worker → Option ScriptCursor
cursor_of (Mutator calling) = Some calling.cursor
cursor_of (Visitor counting) = None

-- how many races a visitor met in all parts
abbrev pub races_of : Worker → ℕ
races_of (Mutator calling) = 0
races_of (Visitor counting) = counting.deferred

-- something before others, if there is something
abbrev pub before_all : {X : Type 0} → Option X → List X → List X
before_all None others = others
before_all (Some one) others = one ∷ others

-- the cursors of some participants: those of the mutators among them, in their order
abbrev pub cursors_in : List (CachePadded Participant) → List ScriptCursor
cursors_in [] = []
cursors_in (padded ∷ others) = before_all (cursor_of (padded_value padded).worker) (cursors_in others)

-- the races that all of them met
abbrev pub races_in : List (CachePadded Participant) → ℕ
races_in [] = 0
races_in (padded ∷ others) = races_of (padded_value padded).worker + races_in others

-- what a note tells
abbrev pub told_in : Option Note → Option View
told_in None = None
told_in (Some note) = Some note.seat.me.0

-- what the notes of participants tell that are out, in the order of the participants
abbrev pub notes_in : List (CachePadded Participant) → List View
notes_in [] = []
notes_in (padded ∷ others) = before_all (told_in (padded_value padded).note) (notes_in others)

-- the collector took in notes that tell this, one after another
abbrev pub noted_all : List View → View → View
noted_all [] v = v
noted_all (note ∷ notes) v = noted_all notes (noted v note)
