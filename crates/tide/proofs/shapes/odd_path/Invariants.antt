use Rattle.std.proofs.Common.{ℕ, ◌≡◌, ◌<◌, false, [], get_or}
use Rattle.tide.specs.Sizes.{is_no_path}
use Rattle.tide.proofs.shapes.odd_path.Given as goal

abbrev pub invariant-loop-path : goal.invariant-loop-path
invariant-loop-path l = (k : ℕ) → k < l.path → is_no_path (get_or l.paths k []) ≡ false
