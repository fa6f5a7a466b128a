-- What a settled table means.
use Rattle.tide_model.specs.Refused.{ShapeLists}
use Rattle.tide_grow_shape.specs.declared.growers.settled.Settled.{Settled}

-- the keys of each of its shapes, by number
abbrev pub settled_lists : Settled → ShapeLists
settled_lists settled = settled.numbered
