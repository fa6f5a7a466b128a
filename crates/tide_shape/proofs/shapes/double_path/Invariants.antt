use Rattle.std.proofs.Common.{ℕ, ◌≡◌, ◌<◌, false, [], get_or}
use Rattle.tide_shape.specs.Shapes.{names_twice}
use Rattle.tide_shape.proofs.shapes.double_path.Given as goal

abbrev pub invariant-loop-path : goal.invariant-loop-path
invariant-loop-path l = (k : ℕ) → k < l.path → names_twice (get_or l.paths k []) ≡ false
