-- A heap that a mutator and a visitor share, between two parts and once both have stopped in one.
use Rattle.std.specs.Prelude.{ℕ, ◌≡◌, ◌≤◌, true, false, [], ◌∷◌}
use Rattle.tide.specs.Parts.{IsIdle, IsIdleBefore}
use Rattle.embed_heap.specs.declared.visitor.shared.Shared.{Shared}
use Rattle.tide.specs.tide_freeze.Books.{AreBooks}
use Rattle.tide.specs.tide_core.machine.Frozen.{newcomer}
use Rattle.tide.specs.tide_mutator.calls.Viewed as of_mutator
use Rattle.tide.specs.tide_shape.Lists.{lists_of}
use Rattle.tide.specs.tide_table.Standing.{RunsWith}
use Rattle.tide.specs.tide_table.Started.{IsStarted}
use Rattle.tide.specs.tide_visitor.Viewed as of_visitor

-- the heap is frozen and empty, and nobody has taken a step yet
pub record HasStarted (s : Shared) : Type 0 where
  pub started : IsStarted s.heap.key.layout (lists_of s.heap.key.shapes) s.collector.seat.me.0
  pub mutator : of_mutator.view_of s.mutator ≡ newcomer 0
  pub visitor : of_visitor.view_of s.visitor ≡ newcomer 16
  pub books : AreBooks s.heap.key.layout [] s.books

-- a part was just opened: no note is in, nobody has left, and neither has begun
pub record HasOpened (s : Shared) : Type 0 where
  pub runs : RunsWith s.heap.key.layout s.books s.collector.seat.me.0
  pub notes : s.collector.seat.me.0.notes ≡ []
  pub visited : s.collector.seat.me.0.visited ≡ []
  pub done : s.collector.seat.me.0.done ≡ true
  pub mutator : IsIdleBefore 0 s.collector.seat.me.0.period (of_mutator.view_of s.mutator)
  pub visitor : IsIdleBefore 16 s.collector.seat.me.0.period (of_visitor.view_of s.visitor)

-- Both have stopped in the open part, and their notes are in, each of which says that the part is done. The visitor's
-- tells so many visits, no more than the part has calls, and none where no cycle marks.
pub record HaveStopped (s : Shared) : Type 0 where
  pub runs : RunsWith s.heap.key.layout s.books s.collector.seat.me.0
  pub notes : s.collector.seat.me.0.notes ≡ 16 ∷ 0 ∷ []
  pub visits : ℕ
  pub visited : s.collector.seat.me.0.visited
      ≡ record { who = 16; visits = visits; done = true } ∷ record { who = 0; visits = 0; done = true } ∷ []
  pub done : s.collector.seat.me.0.done ≡ true
  pub few : visits ≤ s.collector.seat.me.0.run
  pub none : s.collector.seat.me.0.marks ≡ false → visits ≡ 0
  pub mutator : IsIdle 0 s.collector.seat.me.0.period (of_mutator.view_of s.mutator)
  pub visitor : IsIdle 16 s.collector.seat.me.0.period (of_visitor.view_of s.visitor)
