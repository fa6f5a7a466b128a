use Rattle.tide_grow_shape.specs.growers.Numbered.{AreChildren}
use Rattle.tide_grow_shape.proofs.growers.grower.Grower.children.Given as goal

abbrev pub invariant-loop-shape : goal.invariant-loop-shape
invariant-loop-shape l = AreChildren l.self l.shape l.children
