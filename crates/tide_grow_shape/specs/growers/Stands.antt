-- What is known by what was read.
use Rattle.std.specs.Prelude.{ℕ, ◌≡◌, ◌<◌, ◌≤◌, List, [], All, Some, Option, length, option_map}
use Rattle.boxcar.specs.Table.{Where}
use Rattle.tide_grow_shape.specs.growers.Grown.{Fact, known_keys}
use Rattle.tide_grow_shape.specs.transitions.Cells.{keys_in}
use Rattle.tide_grow_shape.specs.transitions.Sights.{AreSights, edges_of}
use Rattle.tide_grow_shape.specs.transitions.Walks.{Lists}
use Rattle.tide_grow_shape.specs.declared.transitions.sight.Sight.{Sight}
use Rattle.tide_grow_shape.specs.declared.transitions.cells.Item.{Item}
use Rattle.tide_shape.specs.ShapeTable.{HasNoKeyTwice}

-- each key is one of the table of this name
abbrev pub AreOfTable : List ℕ → List ℕ → Type 0
AreOfTable name keys = All (λ key. key < keys_in name) keys

-- the sights are of the table of this name, and each known shape has its keys by them
pub record Stands (name : List ℕ) (sights : List Sight) (facts : List Fact) : Type 0 where
  pub seen : AreSights name sights
  pub empty : known_keys facts 0 ≡ Some []
  pub known : All (λ fact. Lists (edges_of sights) fact.shape fact.keys) facts
  pub short : All (λ fact. length fact.keys ≤ 64) facts
  pub distinct : All (λ fact. HasNoKeyTwice fact.keys) facts
  pub of_table : All (λ fact. AreOfTable name fact.keys) facts

-- the index of the item, if there is one
abbrev pub index_of : Option (Where Item) → Option ℕ
index_of = option_map (λ item. item.index)
