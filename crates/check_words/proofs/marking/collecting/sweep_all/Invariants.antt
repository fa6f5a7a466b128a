use Rattle.std.proofs.Common.{◌≡◌}
use Rattle.check_words.proofs.marking.collecting.sweep_all.Given as goal

-- the layout stays
abbrev pub invariant-loop-block : goal.invariant-loop-block
invariant-loop-block l = l.heap.layout ≡ l.fn.heap.layout
