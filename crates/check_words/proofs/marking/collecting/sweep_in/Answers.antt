use Rattle.std.proofs.Common.{ℕ, subst, List}
use Rattle.tide_core.specs.wave.Entered.{HasSwept}
use Rattle.tide_words.specs.heap.Heap.{heap_of}
use Rattle.check_words.proofs.marking.collecting.sweep_in.Goals as goal

-- the sweep began with the words as they were
pub returns-clause-swept : goal.returns-clause-swept
returns-clause-swept c = λ is.
    let layout = c.args.heap.now.layout in
    subst (λ (words : List ℕ). HasSwept layout (heap_of layout words) (heap_of layout c.sweep.new.words) c.args.block)
    c.has_dead.ensures.same (record { others = c.sweep.ensures.others; reads = c.sweep.ensures.reads })
