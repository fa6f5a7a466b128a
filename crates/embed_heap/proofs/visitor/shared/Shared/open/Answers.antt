-- The first part runs with the books of nothing, and neither has begun.
use Rattle.std.proofs.Common.{ap, arith}
use Rattle.tide.proofs.Parts.{new_idle}
use Rattle.tide.specs.tide_core.declared.machine.view.View.{View}
use Rattle.tide.specs.tide_mutator.calls.Viewed as mutator
use Rattle.tide.specs.tide_shape.Lists.{lists_of}
use Rattle.tide.proofs.tide_table.Nexts.{HasOpenedNext-first}
use Rattle.tide.specs.tide_visitor.Viewed as visitor
use Rattle.embed_heap.proofs.visitor.shared.Shared.open.Goals as goal

pub returns : goal.returns
returns c =
    let s = c.args.self.now in
    let is = c.requires.started in
    let next = HasOpenedNext-first s.heap.key.layout (lists_of s.heap.key.shapes) 13 s.books s.collector.seat.me.0
    c.open_first.new.self.seat.me.0 is.started c.open_first.ensures.opened is.books in
    let first = next.period in
    let none = is.started.period in
    record {
      opened = record {
        runs = next.runs;
        notes = next.notes;
        visited = next.visited;
        done = next.done;
        mutator = (0, new_idle 0 (mutator.view_of s.mutator) is.mutator, omega (arith, first, none));
        visitor = (0, new_idle 16 (visitor.view_of s.visitor) is.visitor, omega (arith, first, none));
      };
    }
