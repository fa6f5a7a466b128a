-- The places so far hold the word.
use Rattle.tide_words.specs.heap.Filled.{IsFilledTo}
use Rattle.tide_words.proofs.heap.vec_words.VecWords.fill.Given as goal

abbrev pub invariant-loop-index : goal.invariant-loop-index
invariant-loop-index l = IsFilledTo l.layout l.region l.word l.index l.initial.self l.self
