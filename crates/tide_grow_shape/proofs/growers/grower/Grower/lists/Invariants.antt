use Rattle.std.proofs.Common.{◌≡◌, length, map}
use Rattle.tide_grow_shape.specs.growers.Numbered.{AreListed}
use Rattle.tide_grow_shape.proofs.growers.grower.Grower.lists.Given as goal

abbrev pub invariant-loop-shape : goal.invariant-loop-shape
invariant-loop-shape l = (length l.lists.items ≡ l.shape) × AreListed l.self (map (λ keys. keys.items) l.lists.items)
