-- What the tickets and the notes of a heap say that are handed over.
use Rattle.std.specs.Prelude.{ℕ, ◌≡◌, ◌<◌, Bool, true, false, MatchBool, nat_lt}
use Rattle.tide_heap.specs.tide_core.declared.machine.view.View.{View}
use Rattle.tide_model.specs.Freeze.{marks_after}
use Rattle.tide_model.specs.Layout.{Layout}
use Rattle.tide_posts.specs.Name.{Name, who_at}
use Rattle.tide_posts.specs.Openings.{IsOpening}
use Rattle.tide_posts.specs.Schedule.{OpensPart}
use Rattle.tide_posts.specs.Shares.{HasMarked, HasShared}
use Rattle.tide_posts.specs.declared.handed.HandedIn.{HandedIn}
use Rattle.tide_heap.specs.declared.steps.notes.Note.{Note}
use Rattle.tide_heap.specs.declared.steps.notes.Ticket.{Ticket}

-- A ticket tells the history as it was when its part was opened, behind whole periods. In the part each mutator has some
-- calls; and it tells whether a cycle marks.
pub record TicketTells (layout : Layout) (u : View) : Type 0 where
  pub opening : IsOpening u.period u.run u.seen
  pub periods : OpensPart layout u.seen
  pub some : 0 < u.run
  pub marking : u.marks ≡ marks_after layout u.seen

-- it is of the heap, and of the part with this number
pub record IsTicketFor (name : Name) (number : ℕ) (ticket : Ticket) : Type 0 where
  pub of_heap : ticket.seat.table_id ≡ name.table_id
  pub part : ticket.seat.me.0.period ≡ number
  pub tells : TicketTells name.layout ticket.seat.me.0

-- a mutator's note tells that it made its share, and whether its last call ended that, or it stopped early
pub record MutatorTells (u : View) (ended early : Bool) : Type 0 where
  pub shared : HasShared u.who u.period u.run u.seen u.mine u.left ended early
  pub still : u.visits ≡ 0

-- a visitor's note tells its visits
pub record VisitorTells (layout : Layout) (u : View) (ended early : Bool) : Type 0 where
  pub marked : HasMarked layout u.period u.run u.marks u.seen u.visits
  pub stays : u.left ≡ false
  pub none : (ended ≡ false) × (early ≡ false)

-- a note is of the heap, of the part with this number, and of the participant at a place, which has done its part
pub record IsNoteFor (name : Name) (place number : ℕ) (note : Note) (ended early : Bool) : Type 0 where
  pub of_heap : note.seat.table_id ≡ name.table_id
  pub part : note.seat.me.0.period ≡ number
  pub is : note.seat.me.0.who ≡ who_at name.layout place
  pub begun : note.seat.me.0.begun ≡ note.seat.me.0.period
  pub done : note.seat.me.0.done ≡ true
  pub did : MatchBool (nat_lt place name.layout.mutators) (MutatorTells note.seat.me.0 ended early)
      (VisitorTells name.layout note.seat.me.0 ended early)

-- what is handed in for a place: its participant's note, and how its share ended
abbrev pub IsHandedIn : Name → ℕ → ℕ → HandedIn → Bool → Type 0
IsHandedIn name place number handed ended = IsNoteFor name place number handed.note ended handed.early
