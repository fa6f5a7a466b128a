-- The structure has a word, and it is the whole shape's.
use Rattle.std.proofs.Common.{◌+◌, ◌∙◌, ap, arith, ℕ}
use Rattle.tide_heap.specs.tide_call.ShapeWord.{whole_word}
use Rattle.tide_mutator.proofs.owed.shape.shape_word.Goals as goal

pub structure_word-requires : goal.structure_word-requires
structure_word-requires c = omega arith

pub returns : goal.returns
returns c = c.structure_word.ensures ∙ ap (λ (n : ℕ). whole_word c.args.addition.next (n + 1)) c.from.ensures
