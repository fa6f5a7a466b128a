-- What holds at each turn of the loop of `starts_of`.
use Rattle.std.proofs.Common.{ℕ, ◌≡◌, ◌≤◌, length, sum, take}
use Rattle.std.specs.Prelude.{slice_index}
use Rattle.tide_layout.proofs.layout.starts_of.Given as goal

abbrev pub invariant-loop-tag : goal.invariant-loop-tag
invariant-loop-tag l = record {
  all : length l.starts ≡ 23;
  each : (k : ℕ) → k ≤ l.tag → slice_index l.starts k ≡ sum (take k l.rooms);
}
