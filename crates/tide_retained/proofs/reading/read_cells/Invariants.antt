-- What the cells so far hold.
use Rattle.std.proofs.Common.{◌≡◌}
use Rattle.tide_words.specs.heap.Heap.{heap_of}
use Rattle.tide_retained.specs.Holding.{AreCellsRead}
use Rattle.tide_retained.proofs.reading.read_cells.Given as goal

abbrev pub invariant-loop-cell : goal.invariant-loop-cell
invariant-loop-cell g l = record {
  read : AreCellsRead l.layout (g.S.ShapeTable.lists l.shapes) (heap_of l.layout (g.W.Words.words l.fn.words)) l.cell l.cells.items;
  same : g.W.Words.words l.words ≡ g.W.Words.words l.fn.words;
  same_rest : g.W.Words.rest l.words ≡ g.W.Words.rest l.fn.words;
}
