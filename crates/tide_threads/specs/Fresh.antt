-- Participants that have taken no part yet.
use Rattle.std.specs.Prelude.{ℕ, ◌≡◌, ◌+◌, ◌<◌, List, None, Some, slice_get}
use Rattle.atomic_table.specs.Seated.{TableId}
use Rattle.crossbeam_utils.specs.Padded.{padded_value}
use Rattle.crossbeam_utils.specs.declared.cache_padded.CachePadded.{CachePadded}
use Rattle.tide_heap.specs.tide_core.machine.Frozen.{newcomer}
use Rattle.tide_heap.specs.tide_core.machine.World.{first_visitor}
use Rattle.tide_mutator.specs.calls.Viewed.{table_of, view_of}
use Rattle.tide_threads.specs.declared.calling.CallingMutator.{CallingMutator}
use Rattle.tide_threads.specs.declared.marking.CountingVisitor.{CountingVisitor}
use Rattle.tide_threads.specs.declared.participant.Participant.{Participant}
use Rattle.tide_threads.specs.declared.worker.Worker.{Worker}
use Rattle.tide_threads.specs.declared.worker.Worker.TheVariants.{Mutator, Visitor}
use Rattle.tide_visitor.specs.Viewed as visiting

-- a mutator of this table that knows nothing yet, with its cursor, at a place among so many mutators
pub record IsFreshMutator (id : TableId) (mutators at : ℕ) (x : CallingMutator) : Type 0 where
  pub table : table_of x.mutator ≡ id
  pub is_mutator : at < mutators
  pub number : x.cursor.who ≡ at
  pub view : view_of x.mutator ≡ newcomer at

-- a visitor of this table that knows nothing yet, at a place behind so many mutators, with a stack for so many cells
pub record IsFreshVisitor (id : TableId) (mutators cells at : ℕ) (x : CountingVisitor) : Type 0 where
  pub table : visiting.table_of x.visitor ≡ id
  pub visitor : ℕ
  pub place : at ≡ mutators + visitor
  pub view : visiting.view_of x.visitor ≡ newcomer (first_visitor + visitor)
  pub room : visiting.stack_room_of x.visitor ≡ cells

-- whoever acts at this place
abbrev pub IsFreshWorker : TableId → ℕ → ℕ → ℕ → Worker → Type 0
IsFreshWorker id mutators cells at (Mutator x) = IsFreshMutator id mutators at x
IsFreshWorker id mutators cells at (Visitor x) = IsFreshVisitor id mutators cells at x

-- a participant at this place that has taken no part yet
pub record IsFresh (id : TableId) (mutators cells at : ℕ) (x : Participant) : Type 0 where
  pub worker : IsFreshWorker id mutators cells at x.worker
  pub no_ticket : x.ticket ≡ None
  pub no_note : x.note ≡ None

-- all of these participants are such
abbrev pub AreFresh : TableId → ℕ → ℕ → List (CachePadded Participant) → Type 0
AreFresh id mutators cells participants = (at : ℕ) (padded : CachePadded Participant) →
    slice_get participants at ≡ Some padded → IsFresh id mutators cells at (padded_value padded)
