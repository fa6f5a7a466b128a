-- There are as many words as before, in both.
use Rattle.std.proofs.Common.{◌≡◌, length}
use Rattle.check_table.proofs.chains.store_all.Given as goal

abbrev pub invariant-loop-at : goal.invariant-loop-at
invariant-loop-at g l = record {
  over : length (g.W.Words.words l.words) ≡ length (g.W.Words.words l.fn.words);
  from : length l.heap.words ≡ length l.fn.heap.words;
}
