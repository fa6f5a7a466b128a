-- Both begin with tickets of the open part.
use Rattle.std.proofs.Common.{ℕ, ◌<◌, refl, sym, ◌∙◌, ap, subst}
use Rattle.check_table.proofs.Pairing.{begin_both, begun_keeps}
use Rattle.tide_heap.specs.tide_core.declared.machine.view.View.{View}
use Rattle.check_table.proofs.pair.Pair.begin.Goals as goal

pub begin_part-requires : goal.begin_part-requires
begin_part-requires c = (let p = c.args.self.now in let o = c.requires.opened in record {
  own = p.own;
  of_heap = p.one_of_heap;
  running = o.part.part.runs.running;
  parked = o.one.stopped;
  stays = o.one_stays;
  later = o.one.period;
})

pub begin_part-requires-2 : goal.begin_part-requires-2
begin_part-requires-2 c =
    let p = c.args.self.now in
    let o = c.requires.opened in
    let same = c.begin_part.ensures.same in
    record {
      own = same.0 ∙ p.own;
      of_heap = p.other_of_heap;
      running = ap (λ (x : View). x.frozen) same.1 ∙ o.part.part.runs.running;
      parked = o.other.stopped;
      stays = o.other_stays;
      later = subst (λ (n : ℕ). p.other.seat.me.0.period < n) (sym (ap (λ (x : View). x.period) same.1)) o.other.period;
    }

pub returns-clause-begun : goal.returns-clause-begun
returns-clause-begun c =
    begin_both c.args.self.now _ c.begin_part.new.collector.seat.me.0 refl refl c.begin_part.ensures.same.1
    c.begin_part-2.ensures.same.1 c.begin_part.ensures.begun.1 c.begin_part-2.ensures.begun.1 c.requires.opened

pub returns-clause-calls : goal.returns-clause-calls
returns-clause-calls c =
    let p = c.args.self.now in
    let first = begun_keeps p.one.seat.me.0 p.collector.seat.me.0 c.begin_part.new.pass.seat.me.0 c.begin_part.ensures.begun.1 in
    let second = begun_keeps p.other.seat.me.0 c.begin_part.new.collector.seat.me.0 c.begin_part-2.new.pass.seat.me.0
    c.begin_part-2.ensures.begun.1 in
    record { one = first.0; other = second.0; left = first.1 }
