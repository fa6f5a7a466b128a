-- Where the slots of a cell and the elements of an array lie.
use Rattle.std.specs.Prelude.{ℕ, zero, suc, ◌+◌, ◌/◌, ◌<◌, ◌==◌, List, if◌then◌else◌, nat_le, nat_lt, sum, take}
use Rattle.tide_model.specs.Layout.{Layout, array_capacity_of, array_count, cell_count, class_of, class_of_array, slots_of}
use Rattle.tide_model.specs.Numbers.{count_where}

-- the sum of a function over the numbers below a bound
abbrev pub total_below : (ℕ → ℕ) → ℕ → ℕ
total_below f zero = 0
total_below f (suc n) = total_below f n + f n

-- how many words a cell or an array of the class has: a cell its slots, a table 8 pairs, an array its elements
abbrev pub width_of_class : ℕ → ℕ
width_of_class class = if nat_lt class 4 then slots_of class else if class == 4 then 8 else array_capacity_of class

-- which of five classes has a block, where each class begins at one: how many of those after the first begin at it or
-- before it
abbrev pub class_among : (ℕ → ℕ) → ℕ → ℕ
class_among begins block = count_where (λ class. nat_le (begins (class + 1)) block) 4

-- which of five classes with so many blocks an id lies in, 64 ids to a block
abbrev pub class_of_id : List ℕ → ℕ → ℕ
class_of_id blocks id = class_among (λ count. sum (take count blocks)) (id / 64)

-- the words of the ids before this one, of five classes from one on with so many blocks
unfoldable pub words_among : List ℕ → ℕ → ℕ → ℕ
words_among blocks first id = total_below (λ before. width_of_class (first + class_of_id blocks before)) id

-- how many slots a cell has, or a table pairs
abbrev pub width_of_cell : Layout → ℕ → ℕ
width_of_cell layout cell = width_of_class (class_of layout cell)

-- how many elements an array has
abbrev pub width_of_array : Layout → ℕ → ℕ
width_of_array layout array = width_of_class (class_of_array layout array)

-- the words of the cells before this one
unfoldable pub words_before_cell : Layout → ℕ → ℕ
words_before_cell layout cell = total_below (width_of_cell layout) cell

-- the words of the arrays before this one
unfoldable pub words_before_array : Layout → ℕ → ℕ
words_before_array layout array = total_below (width_of_array layout) array

-- where among the words of all cells a cell's slot lies, or a table's pair
unfoldable pub index_of_slot : Layout → ℕ → ℕ → ℕ
index_of_slot layout cell slot = words_before_cell layout cell + slot

-- where among the words of all arrays an array's element lies
unfoldable pub index_of_element : Layout → ℕ → ℕ → ℕ
index_of_element layout array element = words_before_array layout array + element

-- the cell is of the layout and has a slot or a pair of this number
pub record HasSlot (layout : Layout) (cell slot : ℕ) : Type 0 where
  pub cell_within : cell < cell_count layout
  pub slot_within : slot < width_of_cell layout cell

-- the array is of the layout and has an element of this number
pub record HasElement (layout : Layout) (array element : ℕ) : Type 0 where
  pub array_within : array < array_count layout
  pub element_within : element < width_of_array layout array
