-- Both notes are those of all.
use Rattle.check_threads.proofs.drains_laws.Taking.{all_of_both}
use Rattle.check_threads.proofs.drains.running.finish.Goals as goal

pub freeze-frozen-requires-clause-all : goal.freeze-frozen-requires-clause-all
freeze-frozen-requires-clause-all g c =
    all_of_both c.args.shared.heap.key.layout c.run_part-told.new.collector.seat.me.0.notes
    c.run_part-told.new.collector.seat.me.0.gone c.args.shared.mutators c.args.shared.visitors
    c.run_part-told.ensures.both.0 c.run_part-told.ensures.both.1
