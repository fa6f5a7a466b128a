use Rattle.std.proofs.Common.{ℕ, subst, List}
use Rattle.tide_core.specs.wave.Entered.{HasPaused}
use Rattle.tide_model.specs.Layout.{Layout}
use Rattle.tide_solver.specs.Outcome.{visits_of}
use Rattle.tide_words.specs.heap.Heap.{heap_of}
use Rattle.check_words.proofs.marking.collecting.pause_in.Goals as goal

-- the pause came over the heap as it was
pub returns-clause-paused : goal.returns-clause-paused
returns-clause-paused c =
    let new = c.pause.new.words in
    let visits = visits_of c.pause.result in
    subst (λ (words : List ℕ). HasPaused c.args.heap.now.layout (heap_of c.args.heap.now.layout words) (heap_of c.args.heap.now.layout new) visits) c.cycle_marks.ensures.words
    (subst (λ (layout : Layout). HasPaused layout (heap_of layout c.cycle_marks.new.heap.words) (heap_of layout new) visits) c.cycle_marks.ensures.layout (record {
      others = c.pause.ensures.others;
      stays_marked = c.pause.ensures.stays_marked;
      stays_black = c.pause.ensures.stays_black;
      blackened = c.pause.ensures.visits;
      marking = c.pause.ensures.marking;
      reached = c.pause.ensures.reached;
    }))
