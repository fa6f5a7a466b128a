-- Each of them leads up.
use Rattle.tide_retained.specs.Trail.{AreSkips}
use Rattle.tide_retained.proofs.trail.skips.Given as goal

abbrev pub invariant-loop-cell : goal.invariant-loop-cell
invariant-loop-cell l = AreSkips l.found l.skips.items
