-- The cells and the roots that were read are those of the state.
use Rattle.std.proofs.Common.{ℕ, List, subst, sym}
use Rattle.tide_words.specs.heap.Heap.{heap_of}
use Rattle.tide_words.specs.heap.Reading.{ReadsAs}
use Rattle.tide_retained.proofs.ReadLaws.{snapshot_is_read}
use Rattle.tide_retained.proofs.reading.read_contents.Goals as goal

pub returns-clause-contents : goal.returns-clause-contents
returns-clause-contents g c = λ state reads.
    let layout = c.args.layout.now in
    let shapes = g.S.ShapeTable.lists c.args.shapes.now in
    snapshot_is_read layout shapes (heap_of layout (g.W.Words.words c.args.words.now)) state _ reads c.in_ok-cells.ensures.cells
    (c.in_ok-roots.ensures.roots shapes state (subst (λ (words : List ℕ). ReadsAs layout shapes (heap_of layout words) state) (sym c.in_ok-cells.ensures.same) reads))
