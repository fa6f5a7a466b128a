-- Where sights stand in their list.
use Rattle.std.specs.Prelude.{List, map}
use Rattle.tide_grow_shape.specs.transitions.Places.{Indexes}
use Rattle.tide_grow_shape.specs.transitions.Sights.{cell_number}
use Rattle.tide_grow_shape.specs.declared.transitions.places.Places.{Places}
use Rattle.tide_grow_shape.specs.declared.transitions.sight.Sight.{Sight}

-- the places tell where the first sight of each cell stands, and the first that names each child
pub record AreIndexed (cells children : Places) (sights : List Sight) : Type 0 where
  pub by_cell : Indexes cells (map (λ sight. cell_number sight.next sight.shape) sights)
  pub by_child : Indexes children (map (λ sight. sight.child) sights)
