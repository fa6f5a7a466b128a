-- The number is behind the cells so far, and behind the keys of their pairs.
use Rattle.std.proofs.Common.{ℕ, ◌<◌, ◌≤◌}
use Rattle.tide_retained.specs.Contents.{held_at, pairs_of}
use Rattle.tide_retained.specs.Holding.{AreKeysBelow}
use Rattle.tide_retained.proofs.known.cells_known.Given as goal

abbrev pub invariant-loop-cell : goal.invariant-loop-cell
invariant-loop-cell l = record {
  least : 20480 ≤ l.known;
  cells : l.cell ≤ l.known;
  keys : (table : ℕ) → table < l.cell → AreKeysBelow l.known (pairs_of (held_at l.contents table));
  most : l.known ≤ 83886080;
}
