-- The cells that were found so far, of which the first were visited.
use Rattle.std.proofs.Common.{◌≡◌, ◌-◌, length}
use Rattle.tide_retained.specs.Searching.{IsLevelling}
use Rattle.tide_retained.proofs.phases.found.Given as goal

abbrev pub invariant-loop-at : goal.invariant-loop-at
invariant-loop-at l = record { levelling : IsLevelling l.contents l.search l.at; sized : length l.search.found ≡ length l.fn.retained.items }

abbrev pub decreases-loop-at : goal.decreases-loop-at
decreases-loop-at l = length l.fn.retained.items - l.at
