-- The lines that came so far were counted.
use Rattle.std.proofs.Common.{◌≡◌, take}
use Rattle.tide.specs.Counted.{with_lines}
use Rattle.tide.proofs.stats.Tally.add.Given as goal

abbrev pub invariant-loop-line : goal.invariant-loop-line
invariant-loop-line l = l.self ≡ with_lines l.initial.self (take l.line-index l.line-items)
