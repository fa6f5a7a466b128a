-- So many steps before the cell, and not past the one that is looked for.
use Rattle.std.proofs.Common.{ℕ, ◌≡◌, ◌+◌, ◌≤◌}
use Rattle.tide_retained.specs.Trail.{above, distance_of}
use Rattle.tide_retained.proofs.trail.on_the_way.Given as goal

abbrev pub invariant-loop-at : goal.invariant-loop-at
invariant-loop-at l = record {
  steps : ℕ;
  within : steps + l.distance ≤ distance_of l.found l.cell;
  is : above l.found steps l.cell ≡ l.at;
}

abbrev pub decreases-loop-at : goal.decreases-loop-at
decreases-loop-at l = distance_of l.found l.at
