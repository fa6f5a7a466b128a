-- What the loop over the budgets keeps: the visitor is in its part as it was, and may drain on.
use Rattle.std.proofs.Common.{◌≡◌}
use Rattle.check_threads.specs.drains.Parts.{MayDrain}
use Rattle.tide_visitor.specs.Viewed.{table_of, view_of}
use Rattle.tide_visitor.specs.Visits.{visit_frame}
use Rattle.check_threads.proofs.drains.parts.drain_each.Given as goal

abbrev pub invariant-loop-budget : goal.invariant-loop-budget
invariant-loop-budget g l = record {
  same : table_of l.visitor ≡ table_of l.fn.visitor;
  kept : visit_frame (view_of l.visitor) ≡ visit_frame (view_of l.fn.visitor);
  may : MayDrain l.heap.key.layout l.visitor;
}
