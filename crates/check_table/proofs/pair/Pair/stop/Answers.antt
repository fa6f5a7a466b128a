-- Both hand in notes of the open part.
use Rattle.std.proofs.Common.{ℕ, ◌<◌, refl, sym, ◌∙◌, ap, subst, arith}
use Rattle.check_table.proofs.Pairing.{is_ready, stop_both}
use Rattle.tide_heap.specs.tide_core.declared.machine.view.View.{View}
use Rattle.check_table.proofs.pair.Pair.stop.Goals as goal

pub stop_part-requires : goal.stop_part-requires
stop_part-requires c = (let p = c.args.self.now in let b = c.requires.begun in record {
  own = p.own;
  of_heap = p.one_of_heap;
  running = b.part.part.runs.running;
  mutator = (is_ready p.heap.key.layout 0 p.collector.seat.me.0.period p.one.seat.me.0.mine p.one.seat.me.0.left
      p.one.seat.me.0 p.small (omega arith) b.one refl refl).is_mutator;
  runs = b.one.runs;
  rests = b.one.rests;
  began = b.one.begun ∙ sym b.one.ticket;
  once = subst (λ (n : ℕ). p.one.seat.me.0.period < n) (sym b.one.ticket) b.one.once;
  now = b.one.ticket;
})

pub stop_part-requires-2 : goal.stop_part-requires-2
stop_part-requires-2 c =
    let p = c.args.self.now in
    let b = c.requires.begun in
    let noted = c.stop_part.ensures.noted in
    record {
      own = c.stop_part.ensures.same ∙ p.own;
      of_heap = p.other_of_heap;
      running = ap (λ (x : View). x.frozen) noted ∙ b.part.part.runs.running;
      mutator = (is_ready p.heap.key.layout 1 p.collector.seat.me.0.period p.other.seat.me.0.mine
          p.other.seat.me.0.left p.other.seat.me.0 p.small (omega arith) b.other refl refl).is_mutator;
      runs = b.other.runs;
      rests = b.other.rests;
      began = b.other.begun ∙ sym b.other.ticket;
      once = subst (λ (n : ℕ). p.other.seat.me.0.period < n) (sym b.other.ticket) b.other.once;
      now = b.other.ticket ∙ sym (ap (λ (x : View). x.period) noted);
    }

pub returns-clause-stopped : goal.returns-clause-stopped
returns-clause-stopped c =
    stop_both c.args.self.now _ c.stop_part.new.collector.seat.me.0 refl refl c.stop_part.ensures.noted
    c.stop_part-2.ensures.noted c.stop_part.ensures.stopped.1 c.stop_part-2.ensures.stopped.1 c.requires.begun

pub returns-clause-calls : goal.returns-clause-calls
returns-clause-calls c = record {
  one = ap (λ (x : View). x.mine) c.stop_part.ensures.stopped.1;
  other = ap (λ (x : View). x.mine) c.stop_part-2.ensures.stopped.1;
  left = ap (λ (x : View). x.left) c.stop_part.ensures.stopped.1;
}
