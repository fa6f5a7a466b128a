-- The first part is opened after nothing.
use Rattle.std.proofs.Common.{◌+◌, ap, arith}
use Rattle.tide_table.proofs.Nexts.{HasOpenedNext-first}
use Rattle.check_table.proofs.Pairing.{new_rests, opened_both}
use Rattle.tide_heap.specs.tide_core.declared.machine.view.View.{View}
use Rattle.tide_shape.specs.Lists.{lists_of}
use Rattle.check_table.proofs.pair.Pair.open.Goals as goal

pub returns-clause-opened : goal.returns-clause-opened
returns-clause-opened c =
    let p = c.args.self.now in
    let s = c.requires.started in
    let v = p.collector.seat.me.0 in
    opened_both _ v (new_rests 0 (v.period + 1) p.one.seat.me.0 s.one (omega arith))
    (new_rests 1 (v.period + 1) p.other.seat.me.0 s.other (omega arith)) (ap (λ (x : View). x.left) s.one)
    (ap (λ (x : View). x.left) s.other) s.started.gone (HasOpenedNext-first p.heap.key.layout
    (lists_of p.heap.key.shapes) c.args.run p.books v _ s.started c.open_first.ensures.opened s.books)

pub returns-clause-calls : goal.returns-clause-calls
returns-clause-calls c = (let s = c.requires.started in record {
  one = ap (λ (x : View). x.mine) s.one;
  other = ap (λ (x : View). x.mine) s.other;
  is_left = ap (λ (x : View). x.left) s.one;
})
