-- Why the births are few, and those of the history.
use Rattle.std.proofs.Common.{◌∙◌, ap, arith, refl, sym}
use Rattle.tide_heap.specs.tide_core.declared.machine.view.View.{View}
use Rattle.tide_heap.proofs.tide_freeze.FewBirths.{births-few}
use Rattle.tide_model.proofs.Histories.{IsLawful-prefix}
use Rattle.tide_table.proofs.Standing.{AreBooks-counted, StandsStill-froze}
use Rattle.tide_table.proofs.collector.Collector.freeze_counting.Goals as goal

pub add-requires : goal.add-requires
add-requires g c =
    let f = c.freeze-frozen.ensures.frozen in
    let v = c.args.self.now.seat.me.0 in
    let h = c.args.heap.now in
    let lawful = IsLawful-prefix h.key.layout (g.S.HeapShapes.lists h.key.shapes) v.start v.seen
    (record { rest = f.part; joins = sym f.since }) f.wave.lawful in
    let few = births-few h.key.layout (g.S.HeapShapes.lists h.key.shapes) v.start c.args.books.now.births f.limits lawful
    c.requires.books.births in
    let more = f.few in
    let same = ap (λ (x : View). x.births) f.view in record {
      in_cycle = omega (arith, few.0, more, same);
      since_end = omega (arith, few.1, more, same);
    }

pub freeze-frozen-requires-clause-running : goal.freeze-frozen-requires-clause-running
freeze-frozen-requires-clause-running g c = c.requires.part.running

pub returns-clause-still : goal.returns-clause-still
returns-clause-still g c =
    let h = c.args.heap.now in
    StandsStill-froze h.key.layout (g.S.HeapShapes.lists h.key.shapes) c.args.self.now.seat.me.0
    c.freeze-frozen.result.collector.now.seat.me.0 c.requires.part (c.args.self.now.told c.requires.part.running)
    c.freeze-frozen.ensures.frozen

pub returns-clause-books : goal.returns-clause-books
returns-clause-books g c =
    let f = c.freeze-frozen.ensures.frozen in
    let v = c.args.self.now.seat.me.0 in
    AreBooks-counted c.args.heap.now.key.layout v.start f.part v.seen c.args.books.now _ f.since
    (c.add.ensures v.start f.part c.requires.books.births f.of_part
    (c.born.ensures ∙ ap (λ (x : View). x.births) f.view ∙ f.births)) refl c.requires.books
