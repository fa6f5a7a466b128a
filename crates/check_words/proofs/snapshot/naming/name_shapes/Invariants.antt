-- The words of those so far name shapes of the table.
use Rattle.std.proofs.Common.{ℕ, ◌≡◌, ◌<◌}
use Rattle.tide_layout.specs.declared.region.Region.TheVariants.{Structure}
use Rattle.tide_shape.specs.Lists.{lists_of}
use Rattle.tide_retained.specs.Holding.{NamesShape}
use Rattle.tide_words.specs.heap.Heap.{heap_of}
use Rattle.check_words.proofs.snapshot.naming.name_shapes.Given as goal

abbrev pub invariant-loop-cell : goal.invariant-loop-cell
invariant-loop-cell g l = record {
  named : (cell : ℕ) → cell < l.cell → NamesShape (lists_of l.table) (heap_of l.layout (g.W.Words.words l.fn.words) Structure cell);
  same : g.W.Words.words l.words ≡ g.W.Words.words l.fn.words;
}
