-- Both have left, and both notes are those of all.
use Rattle.check_table.proofs.Pairing.{all_in}
use Rattle.check_table.proofs.pair.Pair.close.Goals as goal

pub freeze-requires-clause-all : goal.freeze-requires-clause-all
freeze-requires-clause-all c =
    let p = c.args.self in
    all_in p.heap.key.layout p.collector.seat.me.0.notes p.collector.seat.me.0.gone p.small c.requires.stopped.notes
