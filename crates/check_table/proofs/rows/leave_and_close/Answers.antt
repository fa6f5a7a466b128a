-- Each call of the pair is asked for what the one before it left.
use Rattle.std.proofs.Common.{◌∙◌, subst, false}
use Rattle.check_table.proofs.Pairing.{called_still, same_then}
use Rattle.check_table.specs.Pairs.{IsClosedOf}
use Rattle.check_table.specs.callers.Working.{put_calls}
use Rattle.tide_heap.specs.declared.heap.Heap.{Heap}
use Rattle.tide_shape.specs.declared.shapes.Shapes.{Shapes}
use Rattle.check_table.proofs.rows.leave_and_close.Goals as goal

pub leave-requires : goal.leave-requires
leave-requires c = record {
  begun = c.look-found.ensures.begun;
  calls = called_still c.args.pair c.look-found.new.self put_calls false
      (same_then c.args.pair c.begin-periods.new.self c.look-found.new.self c.begin-periods.ensures.calls
      c.look-found.ensures.calls) c.requires.calls;
}

pub returns : goal.returns
returns c = record {
  closed = subst (λ (h : Heap Shapes). IsClosedOf h c.close-closed.result.0)
      (c.stop.ensures.heap ∙ c.leave.ensures.heap ∙ c.look-found.ensures.heap ∙ c.begin-periods.ensures.heap)
      c.close-closed.ensures.closed;
}
