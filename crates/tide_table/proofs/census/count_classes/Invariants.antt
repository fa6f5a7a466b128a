-- What the loop of census::count_classes keeps.
use Rattle.std.proofs.Common.{ℕ, ◌≡◌, ◌*◌, ◌<◌, ◌≤◌, length, slice_index}
use Rattle.tide_heap.specs.tide_words.heap.Heap.{heap_of}
use Rattle.tide_heap.specs.tide_words.heap.Live.{is_live_at}
use Rattle.tide_model.specs.Layout.{first_block_of}
use Rattle.tide_table.specs.Census.{count_in_class}
use Rattle.tide_table.proofs.census.count_classes.Given as goal

abbrev pub invariant-loop-class : goal.invariant-loop-class
invariant-loop-class g l = record {
  from : l.from ≡ first_block_of l.layout l.class;
  few : l.from ≤ 262144 * l.class;
  long : length l.counts ≡ 5;
  count : (k : ℕ) → k < l.class → slice_index l.counts k
      ≡ count_in_class (is_live_at (heap_of l.layout (g.W.Words.words l.fn.words))) l.layout k;
  same : g.W.Words.words l.words ≡ g.W.Words.words l.fn.words;
  rest : g.W.Words.rest l.words ≡ g.W.Words.rest l.fn.words;
}
