use Rattle.tide_grow_shape.proofs.growers_laws.GrowingLaws.{Stands_new}
use Rattle.tide_grow_shape.proofs.growers.table.GrowShapes.grower.Goals as goal

pub of-requires-clause-stands : goal.of-requires-clause-stands
of-requires-clause-stands c = Stands_new c.name.result.numbers c.new.result c.in_ok-new.field-0 c.new.ensures c.in_ok-new.ensures
