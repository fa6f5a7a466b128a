-- Why the heap may be closed, and what was closed is it.
use Rattle.std.proofs.Common.{ap}
use Rattle.tide_heap.specs.declared.heap.Key.{Key}
use Rattle.tide_periods.specs.Store.{Setting}
use Rattle.tide_shape.specs.Lists.{lists_of}
use Rattle.tide_shape.specs.declared.shapes.Shapes.{Shapes}
use Rattle.tide_threads.proofs.Ending.{all_gone}
use Rattle.tide_threads.proofs.on_threads.OnThreads.finish.Goals as goal

pub close-requires-clause-gone : goal.close-requires-clause-gone
close-requires-clause-gone c =
    let self = c.args.self in
    all_gone self.heap.table.shared.table_id self.heap.key.layout self.collector.seat.me.0 self.participants.items
    c.requires.stands.all c.requires.retired

pub returns-clause-heap : goal.returns-clause-heap
returns-clause-heap c =
    ap {B = Setting} (λ (key : Key Shapes). record { layout = key.layout; shapes = lists_of key.shapes }) c.close.ensures.heap
