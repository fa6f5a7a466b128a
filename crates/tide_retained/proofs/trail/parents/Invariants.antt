-- The parents of the cells so far.
use Rattle.std.proofs.Common.{ℕ, ◌≡◌, ◌<◌, length, get_or}
use Rattle.tide_retained.specs.Trail.{parent_in}
use Rattle.tide_retained.proofs.trail.parents.Given as goal

abbrev pub invariant-loop-cell : goal.invariant-loop-cell
invariant-loop-cell l = record {
  counted : length l.parents.items ≡ l.cell;
  each : (cell : ℕ) → cell < l.cell → get_or l.parents.items cell 0 ≡ parent_in l.found cell;
}
