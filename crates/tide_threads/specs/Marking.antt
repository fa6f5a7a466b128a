-- A visitor's part: before it, in it and after it.
use Rattle.std.specs.Prelude.{ℕ, ◌≡◌, ◌≤◌, ◌<◌, ◌+◌, ◌-◌, ◌^◌, true, false, min, if◌then◌else◌}
use Rattle.atomic_table.specs.Seated.{TableId}
use Rattle.tide_heap.specs.tide_core.declared.machine.view.View.{View}
use Rattle.tide_model.specs.Layout.{Layout, cell_count}
use Rattle.tide_heap.specs.declared.steps.notes.Note.{Note}
use Rattle.tide_heap.specs.declared.steps.notes.Ticket.{Ticket}
use Rattle.tide_table.specs.VisitsTold.{most_visits}
use Rattle.tide_threads.specs.declared.marking.CountingVisitor.{CountingVisitor}
use Rattle.tide_visitor.specs.Viewed.{stack_room_of, table_of, view_of}
use Rattle.tide_visitor.specs.Visits.{IsVisitorOf}

-- a visitor may begin its part with this ticket, which is of a later part than its last one, and its stack has room for
-- each cell
pub record MayBeginVisits (id : TableId) (layout : Layout) (ticket : Ticket) (x : CountingVisitor) : Type 0 where
  pub table : table_of x.visitor ≡ id
  pub of_heap : ticket.seat.table_id ≡ id
  pub is_visitor : IsVisitorOf layout (view_of x.visitor)
  pub rests : (view_of x.visitor).runs ≡ false
  pub period : (view_of x.visitor).period < ticket.seat.me.0.period
  pub room : cell_count layout ≤ stack_room_of x.visitor

-- A visitor did its part of a ticket with this view, and this is its note, which says so and how many cells it made
-- black. The races that it met are counted, as far as 64 bits count them.
pub record HasMadeVisits (id : TableId) (ticket : View) (x y : CountingVisitor) (note : Note) : Type 0 where
  pub table : table_of y.visitor ≡ id
  pub room : stack_room_of y.visitor ≡ stack_room_of x.visitor
  pub is : (view_of y.visitor).who ≡ (view_of x.visitor).who
  pub rests : (view_of y.visitor).runs ≡ false
  pub period : (view_of y.visitor).period ≡ ticket.period
  pub of_heap : note.seat.table_id ≡ id
  pub of_visitor : note.seat.me.0.who ≡ (view_of x.visitor).who
  pub of_part : note.seat.me.0.period ≡ ticket.period
  pub begun : note.seat.me.0.begun ≡ ticket.period
  pub most : note.seat.me.0.visits ≤ most_visits ticket
  pub done : note.seat.me.0.done ≡ true
  pub counted : y.deferred ≡ min (x.deferred + note.seat.me.0.races) (2 ^ 64 - 1)
