-- Who looks changes nothing but the word that it found last.
use Rattle.std.proofs.Common.{sym, ◌∙◌, ap, arith, refl}
use Rattle.check_table.proofs.Pairing.{is_ready, looked_takes}
use Rattle.tide_heap.specs.tide_core.declared.machine.view.View.{View}
use Rattle.check_table.proofs.pair.Pair.look.Goals as goal

pub look-requires : goal.look-requires
look-requires c = (let p = c.args.self.now in let b = c.requires.begun in record {
  own = p.one_of_heap;
  runs = b.one.runs;
  mutator = (is_ready p.heap.key.layout 0 p.collector.seat.me.0.period p.one.seat.me.0.mine p.one.seat.me.0.left
      p.one.seat.me.0 p.small (omega arith) b.one refl refl).is_mutator;
  has = p.small.has;
})

pub look-requires-2 : goal.look-requires-2
look-requires-2 c = (let p = c.args.self.now in let b = c.requires.begun in record {
  own = p.other_of_heap;
  runs = b.other.runs;
  mutator = (is_ready p.heap.key.layout 1 p.collector.seat.me.0.period p.other.seat.me.0.mine p.other.seat.me.0.left
      p.other.seat.me.0 p.small (omega arith) b.other refl refl).is_mutator;
  has = p.small.has;
})

pub returns-clause-begun : goal.returns-clause-begun
returns-clause-begun c = (let p = c.args.self.now in let b = c.requires.begun in record {
  part = b.part;
  notes = b.notes;
  gone = b.gone;
  one = looked_takes 0 p.collector.seat.me.0.period p.one.seat.me.0 c.look.new.pass.seat.me.0 c.look.ensures.looked b.one;
  other = looked_takes 1 p.collector.seat.me.0.period p.other.seat.me.0 c.look-2.new.pass.seat.me.0 c.look-2.ensures.looked
      b.other;
  alike = ap (λ (x : View). x.left) c.look-2.ensures.looked.is ∙ b.alike
      ∙ sym (ap (λ (x : View). x.left) c.look.ensures.looked.is);
})

pub returns-clause-calls : goal.returns-clause-calls
returns-clause-calls c = record {
  one = ap (λ (x : View). x.mine) c.look.ensures.looked.is;
  other = ap (λ (x : View). x.mine) c.look-2.ensures.looked.is;
  left = ap (λ (x : View). x.left) c.look.ensures.looked.is;
}
