-- One more cell was read.
use Rattle.std.proofs.Common.{ℕ, ◌+◌, List, subst, sym, ◌∙◌}
use Rattle.tide_words.specs.heap.Heap.{heap_of}
use Rattle.tide_words.specs.heap.Reading.{CellReads}
use Rattle.tide_retained.specs.Holding.{AreCellsRead}
use Rattle.tide_retained.proofs.ReadLaws.{one_more_cell}
use Rattle.tide_retained.proofs.reading.read_cells.Goals as goal

pub loop-cell-preserved : goal.loop-cell-preserved
loop-cell-preserved g c =
    let layout = c.args.layout.now in
    let shapes = g.S.ShapeTable.lists c.args.shapes.now in
    let heap = heap_of layout (g.W.Words.words c.args.words.now) in
    let cell = c.loop-cell.cell in
    record {
      read = subst (AreCellsRead layout shapes heap (cell + 1)) (sym c.in_ok-push.ensures.items)
          (one_more_cell layout shapes heap cell c.loop-cell.cells.items c.in_ok-held.held c.loop-cell.invariant.read
          (λ state reads. c.in_ok-held.ensures.held state (subst (λ (words : List ℕ). CellReads layout shapes (heap_of layout words) cell state) (sym c.loop-cell.invariant.same) reads))
          c.in_ok-held.ensures.few c.in_ok-held.ensures.keys);
      same = c.in_ok-held.ensures.same ∙ c.loop-cell.invariant.same;
      same_rest = c.in_ok-held.ensures.same_rest ∙ c.loop-cell.invariant.same_rest;
    }
