-- Why the cycle may begin, and that neither has begun in the part that is opened.
use Rattle.std.proofs.Common.{arith}
use Rattle.embed_heap.proofs.visitor_laws.Taking.{all_in}
use Rattle.check_threads.proofs.drains.sharing.open_second.Goals as goal

pub begin_cycle-requires-clause-all : goal.begin_cycle-requires-clause-all
begin_cycle-requires-clause-all c =
    let s = c.args.shared.now in
    all_in s.heap.key.layout s.collector.seat.me.0.notes s.collector.seat.me.0.gone s.mutators s.visitors
    c.requires.stopped.notes

pub returns : goal.returns
returns c =
    let s = c.args.shared.now in
    let is = c.requires.stopped in
    let same = c.begin_cycle.ensures.period in
    let later = c.in-Ok.ensures.later in
    record {
      opened = record {
        running = c.in-Ok.ensures.running;
        marks = c.in-Ok.ensures.marks;
        mutator = (s.collector.seat.me.0.period, is.mutator, omega (arith, same, later));
        visitor = (s.collector.seat.me.0.period, is.visitor, omega (arith, same, later));
      };
    }
