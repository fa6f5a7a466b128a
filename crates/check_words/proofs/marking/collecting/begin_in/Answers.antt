use Rattle.std.proofs.Common.{ℕ, subst, List}
use Rattle.tide_core.specs.wave.Entered.{CycleHasBegun}
use Rattle.tide_words.specs.heap.Heap.{heap_of}
use Rattle.check_words.proofs.marking.collecting.begin_in.Goals as goal

-- the cycle began with the words as they were
pub returns : goal.returns
returns c = let layout = c.args.heap.now.layout in record {
  begun = λ is. subst (λ (words : List ℕ). CycleHasBegun layout c.args.full (heap_of layout words) (heap_of layout c.begin.new.words)) c.load.ensures.same (record {
    others = c.begin.ensures.others;
    base = c.begin.ensures.base;
    cycle = c.begin.ensures.cycle;
    marks = c.begin.ensures.marks;
    unmarked = c.begin.ensures.unmarked;
    marking = c.begin.ensures.marking;
  });
}
