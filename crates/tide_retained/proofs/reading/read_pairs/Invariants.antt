-- The pairs so far.
use Rattle.std.proofs.Common.{◌≡◌}
use Rattle.tide_words.specs.heap.Heap.{heap_of}
use Rattle.tide_retained.specs.Holding.{ArePairsBefore}
use Rattle.tide_retained.proofs.reading.read_pairs.Given as goal

abbrev pub invariant-loop-place : goal.invariant-loop-place
invariant-loop-place g l = record {
  read : ArePairsBefore l.layout (heap_of l.layout (g.W.Words.words l.fn.words)) l.table l.place l.pairs.items;
  same : g.W.Words.words l.words ≡ g.W.Words.words l.fn.words;
  same_rest : g.W.Words.rest l.words ≡ g.W.Words.rest l.fn.words;
}
