-- The handles that were passed are empty.
use Rattle.std.proofs.Common.{ℕ, ◌≡◌, ◌+◌, ◌<◌, ◌≤◌, []}
use Rattle.tide_model.specs.History.{state_after}
use Rattle.tide_model.specs.declared.val.Val.TheVariants.{Empty}
use Rattle.tide_mutator.specs.calls.Viewed.{view_of}
use Rattle.tide_weakref.specs.Handles.{IsIn}
use Rattle.tide_weakref.specs.Jobs.{HasKeptJobs, Jobs, OthersSpare}
use Rattle.tide_weakref.specs.Setting.{NoHandle, SetsOnly}
use Rattle.tide_weakref.specs.Stepping.{HasStepped, IsBare, held_in}
use Rattle.tide_weakref.proofs.jobs.empty.Given as goal

abbrev pub invariant-loop-place : goal.invariant-loop-place
invariant-loop-place g l = record {
  stepped : HasStepped l.heap.table.shared.table_id l.heap.key.layout (g.S.ShapeTable.lists l.heap.key.shapes) l.fn.mutator l.mutator;
  registers : held_in l.heap.key.layout (view_of l.mutator) ≡ held_in l.heap.key.layout (view_of l.fn.mutator);
  sets : SetsOnly (IsIn l.handles) NoHandle (view_of l.fn.mutator) (view_of l.mutator);
  kept_jobs : (jobs : Jobs) → jobs.cells ≡ [] → HasKeptJobs l.heap.key.layout (view_of l.fn.mutator) jobs →
      HasKeptJobs l.heap.key.layout (view_of l.mutator) jobs;
  emptied : (jobs : Jobs) → jobs.strong.first ≡ l.handles.first → l.handles.count ≤ jobs.strong.count →
      OthersSpare (view_of l.fn.mutator).who jobs (view_of l.mutator).seen →
      IsBare l.heap.key.layout (view_of l.fn.mutator) l.scratch → (n : ℕ) → n < l.place →
      (state_after l.heap.key.layout (view_of l.mutator).seen).strong (l.handles.first + n) ≡ Empty;
}
