-- What a row's heap stands in: a visitor that may drain, a note, and the second part once it was opened.
use Rattle.std.specs.Prelude.{ℕ, ◌≡◌, ◌≤◌, true, false}
use Rattle.embed_heap.specs.visitor.Parts.{IsIdleBefore}
use Rattle.embed_heap.specs.declared.visitor.shared.Shared.{Shared}
use Rattle.tide_heap.specs.tide_core.machine.Visiting.{FitsIn}
use Rattle.tide_heap.specs.tide_core.declared.machine.view.View.{View}
use Rattle.tide_model.specs.Layout.{Layout, cell_count}
use Rattle.tide_mutator.specs.calls.Viewed as mutator
use Rattle.tide_visitor.specs.Viewed as visitor
use Rattle.tide_visitor.specs.Visits.{IsVisitorOf}
use Rattle.tide_visitor.specs.declared.visitor.Visitor.{Visitor}

-- the visitor runs in a part in which a cycle marks, and has room for all that it may hold
pub record MayDrain (layout : Layout) (v : Visitor) : Type 0 where
  pub is_visitor : IsVisitorOf layout (visitor.view_of v)
  pub runs : (visitor.view_of v).runs ≡ true
  pub marks : (visitor.view_of v).marks ≡ true
  pub fits : FitsIn layout (visitor.view_of v).held
  pub room : cell_count layout ≤ visitor.stack_room_of v

-- the note is this participant's, of the part with this number
pub record IsNoteOf (who part : ℕ) (note : View) : Type 0 where
  pub is : note.who ≡ who
  pub period : note.period ≡ part

-- a part is open in which a cycle marks, and in which neither has begun
pub record IsOpen (s : Shared) : Type 0 where
  pub running : s.collector.seat.me.0.frozen ≡ false
  pub marks : s.collector.seat.me.0.marks ≡ true
  pub mutator : IsIdleBefore 0 s.collector.seat.me.0.period (mutator.view_of s.mutator)
  pub visitor : IsIdleBefore 16 s.collector.seat.me.0.period (visitor.view_of s.visitor)
