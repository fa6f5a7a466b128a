-- Why the next part may be opened, and that neither has begun in it.
use Rattle.std.proofs.Common.{arith}
use Rattle.embed_heap.proofs.visitor_laws.Taking.{all_in, visits_are_in}
use Rattle.embed_heap.proofs.visitor.shared.Shared.next.Goals as goal

pub next_part-requires : goal.next_part-requires
next_part-requires c =
    let s = c.args.self.now in
    let v = s.collector.seat.me.0 in
    let is = c.requires.stopped in record {
      own = s.own;
      part = is.runs;
      all = all_in s.heap.key.layout v.notes v.gone s.mutators s.visitors is.notes;
      visits = visits_are_in s.heap.key.layout v is.visits s.visitors is.visited is.done is.few is.none;
    }

pub returns : goal.returns
returns c =
    let v = c.args.self.now.collector.seat.me.0 in
    let is = c.requires.stopped in
    let next = c.in-Ok.ensures.next in
    let period = next.period in
    record {
      opened = record {
        runs = next.runs;
        notes = next.notes;
        visited = next.visited;
        done = next.done;
        mutator = (v.period, is.mutator, omega (arith, period));
        visitor = (v.period, is.visitor, omega (arith, period));
      };
    }
