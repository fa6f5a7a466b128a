-- What a known shape tells.
use Rattle.tide_grow_shape.specs.growers.Grown.{Fact}
use Rattle.tide_grow_shape.specs.declared.growers.known.KnownShape.{KnownShape}

-- what is known of a shape: its number and its keys
abbrev pub fact_of : KnownShape → Fact
fact_of known = record { shape = known.shape; keys = known.keys.items }
