-- The mutator is in its part as it was, with a birth a call at most.
use Rattle.std.proofs.Common.{◌≡◌, ◌≤◌, false}
use Rattle.tide.specs.tide_mutator.calls.Viewed.{table_of, view_of}
use Rattle.tide.specs.tide_mutator.owed.Calling.{kept}
use Rattle.embed_heap.proofs.visitor.working.call_each.Given as goal

abbrev pub invariant-loop-index : goal.invariant-loop-index
invariant-loop-index g l = record {
  same : table_of l.mutator ≡ table_of l.fn.mutator;
  kept : kept (view_of l.mutator) ≡ kept (view_of l.fn.mutator);
  stays : (view_of l.mutator).left ≡ false;
  few : (view_of l.mutator).born ≤ l.index;
}
