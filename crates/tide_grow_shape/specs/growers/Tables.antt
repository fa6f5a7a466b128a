-- What a table is by its name.
use Rattle.std.specs.Prelude.{ℕ, List}
use Rattle.tide_grow_shape.specs.transitions.Cells.{keys_in, last_in}
use Rattle.tide_grow_shape.specs.growers.Grown.{Table}

-- the table of this name
abbrev pub shape_table_of : List ℕ → Table
shape_table_of name = record { name = name; keys = keys_in name; last = last_in name }
