use Rattle.std.proofs.Common.{ℕ, subst, List}
use Rattle.tide_core.specs.wave.Entered.{HasEnded}
use Rattle.tide_model.specs.Layout.{Layout}
use Rattle.tide_words.specs.heap.Heap.{heap_of}
use Rattle.check_words.proofs.marking.collecting.end_in.Goals as goal

-- the cycle ended over the heap as it was
pub returns : goal.returns
returns c = let new = c.end.new.words in record {
  ended =
      subst (λ (words : List ℕ). HasEnded c.args.heap.now.layout (heap_of c.args.heap.now.layout words) (heap_of c.args.heap.now.layout new)) c.cycle_marks.ensures.words
      (subst (λ (layout : Layout). HasEnded layout (heap_of layout c.cycle_marks.new.heap.words) (heap_of layout new)) c.cycle_marks.ensures.layout (record {
        others = c.end.ensures.others;
        phase = c.end.ensures.phase;
        leaves = c.end.ensures.leaves;
        kept = c.end.ensures.kept;
      }));
}
