-- Which table an item and a cell are of.
use Rattle.std.specs.Prelude.{ℕ, ◌≡◌, ◌<◌, ◌≤◌, ◌+◌, Bool, false, List, ◌∷◌, map, if◌then◌else◌, Option, None, Some, MatchOption}
use Rattle.std.specs.List.{slice_index_or}
use Rattle.boxcar.specs.Table.{Where}
use Rattle.tide_grow_shape.specs.declared.transitions.cells.Cells.{Cells}
use Rattle.tide_grow_shape.specs.declared.transitions.cells.Item.{Item}

-- what tells a table from others: its cell for the first child of the empty shape, the highest number that a shape of
-- it may have, how many keys it has, and the cells that its items lie in
abbrev pub name_of : Cells → List ℕ
name_of cells = cells.first_child.id ∷ cells.last ∷ cells.keys ∷ map (λ bucket. bucket.id) cells.items.buckets

-- the highest number that a shape of the table of this name may have
abbrev pub last_in : List ℕ → ℕ
last_in name = slice_index_or name 1 0

-- how many keys the table of this name has
abbrev pub keys_in : List ℕ → ℕ
keys_in name = slice_index_or name 2 0

-- a number that a shape of the table of this name may have, but the empty one
abbrev pub IsNumber : List ℕ → ℕ → Type 0
IsNumber name number = (0 < number) × (number ≤ last_in name)

-- an item is shown to be in the table of this name
abbrev pub Shown : List ℕ → Where Item → Type 0
Shown name item = item.row ≡ slice_index_or name (item.bucket + 3) 0

-- the item of the shape with this number
abbrev pub IsShape : List ℕ → ℕ → Where Item → Type 0
IsShape name shape item = Shown name item × (item.index + 1 ≡ shape)

-- what shows where a shape's cells are: nothing for the first child of the empty shape, and else the shape's item
abbrev pub IsSource : List ℕ → Bool → ℕ → Option (Where Item) → Type 0
IsSource name next shape source = MatchOption source ((next ≡ false) × (shape ≡ 0)) (IsShape name shape)

-- the cell of a shape: that of its next sibling, or that of its first child
abbrev pub cell_id : List ℕ → Bool → Option (Where Item) → ℕ
cell_id name next None = slice_index_or name 0 0
cell_id name next (Some item) = if next then item.value.next_sibling.id else item.value.first_child.id
