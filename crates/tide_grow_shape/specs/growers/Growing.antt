-- What a grower has, and what it knows by that.
use Rattle.std.specs.Prelude.{IfSome}
use Rattle.tide_grow_shape.specs.transitions.Cells.{Shown}
use Rattle.tide_grow_shape.specs.growers.Grown.{Knowledge}
use Rattle.tide_grow_shape.specs.growers.Tables.{shape_table_of}
use Rattle.tide_grow_shape.specs.growers.Stands.{Stands, index_of}
use Rattle.tide_grow_shape.specs.declared.growers.grower.Grower.TheInside.{Inside}

-- what a contract sees of a grower
abbrev pub knowledge_of : Inside → Knowledge
knowledge_of g = record { table = shape_table_of g.table.numbers; known = g.maker.known; beyond = index_of g.maker.beyond }

-- what every grower is
pub record IsGrower (g : Inside) : Type 0 where
  pub stands : Stands g.table.numbers g.maker.sights g.maker.known
  pub beyond : IfSome g.maker.beyond (Shown g.table.numbers)
