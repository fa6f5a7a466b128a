-- The last of them were noted, and what comes next is the cell before these.
use Rattle.std.proofs.Common.{ℕ, ◌≡◌, ◌-◌, ◌<◌, ◌≤◌, length, get_or}
use Rattle.tide_retained.specs.Trail.{above}
use Rattle.tide_retained.proofs.trail.note_up_from.Given as goal

abbrev pub invariant-loop-left : goal.invariant-loop-left
invariant-loop-left l = record {
  few : l.left ≤ l.count;
  same_size : length l.cells ≡ length l.initial.cells;
  next : l.at ≡ above l.found (l.count - l.left) l.last;
  each : (k : ℕ) → l.left ≤ k → k < l.count → get_or l.cells k 0 ≡ above l.found (l.count - 1 - k) l.last;
}

abbrev pub decreases-loop-left : goal.decreases-loop-left
decreases-loop-left l = l.left
