-- Where memory was short the part is frozen, and the two calls that follow do what is left of the one.
use Rattle.std.proofs.Common.{◌∙◌, ap, arith, subst}
use Rattle.std.specs.Prelude.{true, Err}
use Rattle.tide_heap.specs.tide_core.declared.machine.view.View.{View}
use Rattle.tide_heap.proofs.tide_core.machine_laws.freezes.Entering.{FrozenWave-of}
use Rattle.tide_heap.specs.tide_core.machine.Frozen.{FrozenWith}
use Rattle.tide_heap.specs.tide_words.heap.Heap.{heap_of}
use Rattle.tide_model.specs.Cycle.{begin_count}
use Rattle.tide_table.proofs.Nexts.{HasOpenedNext-by}
use Rattle.tide_table.proofs.Standing.{begin_count-part, blacks_stay}
use Rattle.check_table.proofs.pairs.go_on.Goals as goal

pub collect-requires-clause-few : goal.collect-requires-clause-few
collect-requires-clause-few g c =
    let v = c.args.collector.now.seat.me.0 in
    let froze = (c.in-Err-Memory.ensures.stands (ap Err c.in-Err-Memory.field-0-is)).0 in
    let same = ap (λ (x : View). begin_count x.seen) froze.view ∙ ap begin_count froze.since
    ∙ begin_count-part v.start froze.part froze.of_part in
    let few = c.requires.part.few in
    let numbered = c.requires.part.numbered in
    omega (arith, same, few, numbered)

pub open-requires-clause-wave : goal.open-requires-clause-wave
open-requires-clause-wave g c =
    let h = c.args.heap.now in
    let shapes = g.S.HeapShapes.lists h.key.shapes in
    let w = c.collect.new.self.seat.me.0 in
    let words = heap_of h.key.layout w.words in
    let did = c.in-Ok.ensures.collected in
    FrozenWave-of h.key.layout shapes words w.seen
    (subst (FrozenWith h.key.layout shapes words w.seen) did.entered did.still.wave)

pub open-requires-clause-blacks : goal.open-requires-clause-blacks
open-requires-clause-blacks g c =
    let h = c.args.heap.now in
    blacks_stay h.key.layout (g.S.HeapShapes.lists h.key.shapes) c.collect.new.self.seat.me.0 c.in-Ok.ensures.collected.still

pub returns-clause-next : goal.returns-clause-next
returns-clause-next g c =
    let h = c.args.heap.now in
    let froze = (c.in-Err-Memory.ensures.stands (ap Err c.in-Err-Memory.field-0-is)).0 in
    HasOpenedNext-by h.key.layout (g.S.HeapShapes.lists h.key.shapes) _ true c.in-Ok.run'
    c.args.books.now c.next_part.new.books c.collect.new.books c.args.collector.now.seat.me.0
    c.next_part.new.self.seat.me.0 c.collect.new.self.seat.me.0 c.open.new.self.seat.me.0 c.requires.part froze
    c.in-Ok.ensures.collected c.in-Ok.ensures.books c.in-Ok-open.ensures.opened c.in-Ok-open.ensures.later
