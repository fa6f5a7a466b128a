use Rattle.std.proofs.Common.{subst}
use Rattle.tide_grow_shape.specs.growers.Grown.{IsKnowledge}
use Rattle.tide_grow_shape.proofs.growers_laws.GrowingLaws.{IsKnowledge_grower}
use Rattle.tide_grow_shape.proofs.growers.grower.Grower.holds_together.Goals as goal

pub returns : goal.returns
returns c = subst IsKnowledge c.self.view_is (IsKnowledge_grower c.self.inside c.self.invariant)
