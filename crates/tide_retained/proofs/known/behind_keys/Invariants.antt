-- The number is behind the keys of the pairs so far.
use Rattle.std.proofs.Common.{ℕ, ◌<◌, ◌≤◌, get_or, length}
use Rattle.tide_retained.specs.declared.contents.Keyed.{Keyed}
use Rattle.tide_retained.proofs.known.behind_keys.Given as goal

abbrev pub invariant-loop-pair : goal.invariant-loop-pair
invariant-loop-pair l = record {
  keys : (k : ℕ) (d : Keyed) → k < l.pair-index → k < length l.pairs → (get_or l.pairs k d).key < l.known;
  least : l.least ≤ l.known;
  most : l.known ≤ 83886080;
}
