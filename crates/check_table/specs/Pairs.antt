-- Two mutators and their collector, as they stand between two calls of these parts.
use Rattle.std.specs.Prelude.{ℕ, ◌≡◌, ◌+◌, ◌<◌, Bool, false, List, [], ◌∷◌, if◌then◌else◌}
use Rattle.check_table.specs.Unvisited.{RunsPart}
use Rattle.check_table.specs.Resting.{IsAtRest, TakesPart}
use Rattle.check_table.specs.declared.pair.Pair.{Pair}
use Rattle.tide_heap.specs.tide_freeze.Books.{AreBooks}
use Rattle.tide_heap.specs.declared.heap.Heap.{Heap}
use Rattle.tide_heap.specs.tide_core.machine.Frozen.{newcomer}
use Rattle.tide_model.specs.History.{state_after}
use Rattle.tide_model.specs.Lawful.{IsLawful}
use Rattle.tide_model.specs.declared.entry.Event.{Event}
use Rattle.tide_shape.specs.Lists.{lists_of}
use Rattle.tide_shape.specs.declared.shapes.Shapes.{Shapes}
use Rattle.tide_table.specs.Started.{IsStarted}
use Rattle.tide_table.specs.declared.closed.Closed.{Closed}

-- both mutators made these calls so far, and have left for good or not
pub record HaveCalled (calls : ℕ → List Event) (left : Bool) (p : Pair) : Type 0 where
  pub one : p.one.seat.me.0.mine ≡ calls 0
  pub other : p.other.seat.me.0.mine ≡ calls 1
  pub is_left : p.one.seat.me.0.left ≡ left

-- no calls
abbrev pub no_calls : ℕ → List Event
no_calls who = []

-- neither made a call meanwhile
pub record SameCalls (p q : Pair) : Type 0 where
  pub one : q.one.seat.me.0.mine ≡ p.one.seat.me.0.mine
  pub other : q.other.seat.me.0.mine ≡ p.other.seat.me.0.mine
  pub left : q.one.seat.me.0.left ≡ p.one.seat.me.0.left

-- a part was just opened: no note is in, nobody has left, and neither mutator has begun
pub record HasOpened (p : Pair) : Type 0 where
  pub part : RunsPart p.heap.key.layout p.books p.collector.seat.me.0
  pub notes : p.collector.seat.me.0.notes ≡ []
  pub gone : p.collector.seat.me.0.gone ≡ []
  pub one : IsAtRest 0 p.collector.seat.me.0.period p.one.seat.me.0
  pub other : IsAtRest 1 p.collector.seat.me.0.period p.other.seat.me.0
  pub one_stays : p.one.seat.me.0.left ≡ false
  pub other_stays : p.other.seat.me.0.left ≡ false

-- both run in the open part, no note is in, and both have left for good or neither has
pub record HaveBegun (p : Pair) : Type 0 where
  pub part : RunsPart p.heap.key.layout p.books p.collector.seat.me.0
  pub notes : p.collector.seat.me.0.notes ≡ []
  pub gone : p.collector.seat.me.0.gone ≡ []
  pub one : TakesPart 0 p.collector.seat.me.0.period p.one.seat.me.0
  pub other : TakesPart 1 p.collector.seat.me.0.period p.other.seat.me.0
  pub alike : p.other.seat.me.0.left ≡ p.one.seat.me.0.left

-- who is gone where both have left for good, or neither has
abbrev pub gone_if : Bool → List ℕ
gone_if left = if left then 1 ∷ 0 ∷ [] else []

-- both have stopped in the open part, and their notes are in
pub record HaveStopped (p : Pair) : Type 0 where
  pub part : RunsPart p.heap.key.layout p.books p.collector.seat.me.0
  pub notes : p.collector.seat.me.0.notes ≡ 1 ∷ 0 ∷ []
  pub gone : p.collector.seat.me.0.gone ≡ gone_if p.one.seat.me.0.left
  pub one : IsAtRest 0 (p.collector.seat.me.0.period + 1) p.one.seat.me.0
  pub other : IsAtRest 1 (p.collector.seat.me.0.period + 1) p.other.seat.me.0
  pub alike : p.other.seat.me.0.left ≡ p.one.seat.me.0.left

-- the heap is frozen and empty, nobody has taken a step yet, and the books are those of nothing
pub record HasStarted (p : Pair) : Type 0 where
  pub started : IsStarted p.heap.key.layout (lists_of p.heap.key.shapes) p.collector.seat.me.0
  pub one : p.one.seat.me.0 ≡ newcomer 0
  pub other : p.other.seat.me.0 ≡ newcomer 1
  pub books : AreBooks p.heap.key.layout [] p.books

-- what the heap of two mutators leaves: its layout and shapes, and a lawful history, in which both have retired
pub record IsClosedOf (heap : Heap Shapes) (closed : Closed Shapes) : Type 0 where
  pub of_heap : closed.key ≡ heap.key
  pub lawful : IsLawful heap.key.layout (lists_of heap.key.shapes) closed.seat.me.0.seen
  pub retired : (i : ℕ) → i < 2 → (state_after heap.key.layout closed.seat.me.0.seen).active i ≡ false
