use Rattle.std.proofs.Common.{◌≡◌, drop}
use Rattle.tide_shape.specs.Shapes.{names_twice}
use Rattle.tide_shape.proofs.shapes.has_double.Given as goal

abbrev pub invariant-loop-at : goal.invariant-loop-at
invariant-loop-at l = names_twice (drop l.at l.path) ≡ names_twice l.path
