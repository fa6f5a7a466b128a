-- What the live cells of a heap hold, as lists, and the graph of these lists.
use Rattle.std.specs.Prelude.{ℕ, ◌≡◌, ◌≢◌, Bool, List, [], ◌∷◌, ◌++◌, Contains, Option, None, Some, is_some, slice_index_or}
use Rattle.std.specs.List.{flat_map}
use Rattle.tide_model.specs.declared.val.Val.{Val}
use Rattle.tide_model.specs.declared.val.Val.TheVariants.{Empty, Int, Cell}
use Rattle.tide_model.specs.Graph.{Graph}
use Rattle.tide_model.specs.Refused.{ShapeLists}
use Rattle.tide_retained.specs.declared.contents.Contents.{Contents}
use Rattle.tide_retained.specs.declared.contents.Held.{Held}
use Rattle.tide_retained.specs.declared.contents.Keyed.{Keyed}
use Rattle.tide_retained.specs.declared.root.Root.{Root}

-- what a cell holds, where it is live
abbrev pub held_at : Contents → ℕ → Option Held
held_at contents cell = slice_index_or contents.cells.items cell None

-- the cell that a value names, if it names one
abbrev pub cell_in : Val → List ℕ
cell_in Empty = []
cell_in (Int n) = []
cell_in (Cell cell) = cell ∷ []

-- the cells that some values name
abbrev pub cells_in : List Val → List ℕ
cells_in values = flat_map cell_in values

-- the cells that the values under some keys name
abbrev pub cells_under : List Keyed → List ℕ
cells_under entries = flat_map (λ entry. cell_in entry.value) entries

-- the cells that a cell holds in its slots, and then in its properties
abbrev pub links_of : Option Held → List ℕ
links_of None = []
links_of (Some held) = cells_in held.slots.items ++ cells_under held.properties.items

-- the pairs that a cell has
abbrev pub pairs_of : Option Held → List Keyed
pairs_of None = []
pairs_of (Some held) = held.pairs.items

-- the properties that a cell has
abbrev pub properties_in : Option Held → List Keyed
properties_in None = []
properties_in (Some held) = held.properties.items

-- the cell is kept: it was live
abbrev pub is_kept : Contents → ℕ → Bool
is_kept contents cell = is_some (held_at contents cell)

-- each of some properties has a key of one of these shapes
abbrev pub AreKeysOf : ShapeLists → List Keyed → Type 0
AreKeysOf shapes properties = (property : Keyed) → Contains properties property → (keys : List ℕ) × Contains shapes keys × Contains keys property.key

-- each property of each cell does
abbrev pub HasKeysOf : ShapeLists → Contents → Type 0
HasKeysOf shapes contents = (cell : ℕ) → AreKeysOf shapes (properties_in (held_at contents cell))

-- the group of a cell, and 0 where it is in none or isn't live
abbrev pub group_of : Option Held → ℕ
group_of None = 0
group_of (Some held) = held.group

-- one of some pairs has this key and this cell
abbrev pub HasPair : List Keyed → ℕ → ℕ → Type 0
HasPair pairs key cell = (pair : Keyed) × Contains pairs pair × (pair.key ≡ key) × (pair.value ≡ Cell cell)

-- the graph of what the cells and the roots hold
abbrev pub graph_held : Contents → Graph
graph_held contents = record {
  root = λ cell. (root : Root) × Contains contents.roots.items (record { root = root; cell = cell });
  link = λ source cell. Contains (links_of (held_at contents source)) cell;
  triple = λ table key cell. HasPair (pairs_of (held_at contents table)) key cell;
  group_mate = λ one other. (group_of (held_at contents one) ≡ group_of (held_at contents other)) × (group_of (held_at contents other) ≢ 0);
}
