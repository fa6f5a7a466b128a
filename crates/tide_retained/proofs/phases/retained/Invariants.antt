-- The cells that were found so far, of which the first were visited.
use Rattle.std.proofs.Common.{◌≡◌, ◌-◌, length}
use Rattle.tide_retained.specs.Searching.{IsRetaining}
use Rattle.tide_retained.proofs.phases.retained.Given as goal

abbrev pub invariant-loop-at : goal.invariant-loop-at
invariant-loop-at l = record { retaining : IsRetaining l.contents l.search l.at; sized : length l.search.found ≡ l.fn.cells }

abbrev pub decreases-loop-at : goal.decreases-loop-at
decreases-loop-at l = l.fn.cells - l.at
