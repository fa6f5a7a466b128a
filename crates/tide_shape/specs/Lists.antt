-- What a table of declared shapes means.
use Rattle.tide_model.specs.Refused.{ShapeLists}
use Rattle.tide_shape.specs.declared.shapes.Shapes.{Shapes}

-- the keys of each of its shapes, by number
abbrev pub lists_of : Shapes → ShapeLists
lists_of shapes = shapes.tree
