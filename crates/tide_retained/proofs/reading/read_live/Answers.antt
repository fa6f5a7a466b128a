-- What was read of the cell is what it holds.
use Rattle.std.proofs.Common.{ℕ, List, ap, subst, sym, ◌∙◌}
use Rattle.tide_words.specs.tide_layout.declared.region.Region.TheVariants.{Group}
use Rattle.tide_words.specs.heap.Heap.{heap_of}
use Rattle.tide_words.specs.heap.Reading.{TakenReads}
use Rattle.tide_retained.specs.Holding.{LiveReads}
use Rattle.tide_retained.proofs.ReadLaws.{held_is_read}
use Rattle.tide_retained.proofs.reading.read_live.Goals as goal

pub returns-clause-held : goal.returns-clause-held
returns-clause-held g c = λ state reads alive.
    let layout = c.args.layout.now in
    let shapes = g.S.ShapeTable.lists c.args.shapes.now in
    let cell = c.args.cell in
    let first = c.in_ok-slots.ensures.same in
    let second = c.in_ok-properties.ensures.same ∙ first in
    let third = c.in_ok-pairs.ensures.same ∙ second in
    held_is_read layout shapes (heap_of layout (g.W.Words.words c.args.words.now)) cell state _ reads alive c.class_of.ensures.class c.in_ok-slots.ensures.slots
    (λ live. c.in_ok-properties.ensures.properties state (subst (λ (words : List ℕ). LiveReads layout shapes (heap_of layout words) cell state) (sym first) live))
    (λ taken. c.in_ok-pairs.ensures.pairs shapes state (subst (λ (words : List ℕ). TakenReads layout shapes (heap_of layout words) cell state) (sym second) taken))
    (λ group few is. c.read_group-group.ensures.group group few (ap (λ (words : List ℕ). heap_of layout words Group cell) third ∙ is))
