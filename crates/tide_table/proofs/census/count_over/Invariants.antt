-- What the loop of census::count_over keeps.
use Rattle.std.proofs.Common.{◌≡◌, ◌+◌, ◌*◌}
use Rattle.tide_model.specs.Numbers.{count_where}
use Rattle.tide_heap.specs.tide_words.heap.Heap.{heap_of}
use Rattle.tide_heap.specs.tide_words.heap.Live.{is_live_at}
use Rattle.tide_table.proofs.census.count_over.Given as goal

abbrev pub invariant-loop-block : goal.invariant-loop-block
invariant-loop-block g l = record {
  count : count_where (is_live_at (heap_of l.layout (g.W.Words.words l.fn.words))) (64 * l.from) + l.count
      ≡ count_where (is_live_at (heap_of l.layout (g.W.Words.words l.fn.words))) (64 * l.block);
  same : g.W.Words.words l.words ≡ g.W.Words.words l.fn.words;
  rest : g.W.Words.rest l.words ≡ g.W.Words.rest l.fn.words;
}
