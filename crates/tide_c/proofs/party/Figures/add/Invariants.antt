-- The turn is counted, and the cycles that came so far.
use Rattle.std.proofs.Common.{take}
use Rattle.tide_c.specs.Figures.{AddsTurn}
use Rattle.tide_c.proofs.party.Figures.add.Given as goal

abbrev pub invariant-loop-line : goal.invariant-loop-line
invariant-loop-line l = AddsTurn (record l.report { cycles = take l.line-index l.line-items }) l.fn.self l.self
