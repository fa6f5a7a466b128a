-- No load and no store changes how many words there are.
use Rattle.std.proofs.Common.{◌≡◌, length}
use Rattle.check_threads.proofs.drains.copying.copy_each.Given as goal

abbrev pub invariant-loop-at : goal.invariant-loop-at
invariant-loop-at g l = record {
  from : length (g.W.Words.words l.from) ≡ length (g.W.Words.words l.fn.from);
  to : length (g.V.Words.words l.to) ≡ length (g.V.Words.words l.fn.to);
}
