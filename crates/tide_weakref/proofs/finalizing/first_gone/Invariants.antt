-- The handles of the registrations that were passed held cells.
use Rattle.std.proofs.Common.{◌≡◌}
use Rattle.std.specs.Prelude.{take}
use Rattle.tide_mutator.specs.calls.Viewed.{view_of}
use Rattle.tide_weakref.specs.Delivered.{AllHeldCells}
use Rattle.tide_weakref.specs.Jobs.{Jobs}
use Rattle.tide_weakref.specs.Setting.{SetsNone}
use Rattle.tide_weakref.specs.Stepping.{HasHeldJobs, HasStepped, SameBut}
use Rattle.tide_weakref.proofs.finalizing.first_gone.Given as goal

abbrev pub invariant-loop-place : goal.invariant-loop-place
invariant-loop-place g l = record {
  stepped : HasStepped l.heap.table.shared.table_id l.heap.key.layout (g.S.ShapeTable.lists l.heap.key.shapes) l.fn.mutator l.mutator;
  stands : (jobs : Jobs) → HasHeldJobs l.heap.key.layout (view_of l.fn.mutator) jobs →
      HasHeldJobs l.heap.key.layout (view_of l.mutator) jobs;
  others : SameBut l.heap.key.layout l.scratch (view_of l.fn.mutator) (view_of l.mutator);
  sets : SetsNone (view_of l.fn.mutator) (view_of l.mutator);
  held : (jobs : Jobs) → jobs.weak ≡ l.weaks.handles → jobs.uses ≡ l.weaks.uses.items →
      AllHeldCells (view_of l.fn.mutator) (view_of l.mutator) jobs (take l.place jobs.uses);
}
