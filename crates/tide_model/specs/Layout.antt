-- How large a store is: its blocks of each class, its registers and handles, and who takes part.
use Rattle.std.specs.Prelude.{ℕ, ◌+◌, ◌-◌, ◌*◌, ◌/◌, ◌<◌, ◌≤◌, ◌==◌, List, [], ◌∷◌, ◌++◌, take, sum, slice_index, nat_lt, nat_le, if◌then◌else◌}
use Rattle.tide_model.specs.Numbers.{count_where}

-- how large a store is, as plain numbers: blocks of cells and of arrays by class, registers, handles, mutators and
-- visitors
pub record Layout : Type 0 where
  -- blocks of 64 cells of the classes 0 to 4, of which class 4 is the tables
  pub cell_blocks : List ℕ
  -- blocks of 64 arrays of the classes 5 to 9
  pub array_blocks : List ℕ
  -- registers of each mutator
  pub registers : ℕ
  pub strong : ℕ
  pub weak : ℕ
  pub mutators : ℕ
  pub visitors : ℕ

-- how many blocks a class has
abbrev pub blocks_of : Layout → ℕ → ℕ
blocks_of layout class = slice_index (layout.cell_blocks ++ layout.array_blocks) class

-- the class's first block: the blocks stand in the order of their classes
abbrev pub first_block_of : Layout → ℕ → ℕ
first_block_of layout class = sum (take class (layout.cell_blocks ++ layout.array_blocks))

-- how many cells there are: 64 in each block
abbrev pub cell_count : Layout → ℕ
cell_count layout = 64 * sum layout.cell_blocks

-- how many arrays there are
abbrev pub array_count : Layout → ℕ
array_count layout = 64 * sum layout.array_blocks

-- the block in which a cell lies
abbrev pub block_of_cell : ℕ → ℕ
block_of_cell cell = cell / 64

-- the block in which an array lies: array blocks follow the cell blocks
abbrev pub block_of_array : Layout → ℕ → ℕ
block_of_array layout array = sum layout.cell_blocks + array / 64

-- the block is one of the class
pub record IsBlockOf (layout : Layout) (class block : ℕ) : Type 0 where
  pub from : first_block_of layout class ≤ block
  pub below : block < first_block_of layout class + blocks_of layout class

-- the class of a cell: how many of the classes 1 to 4 begin at its block or before it
abbrev pub class_of : Layout → ℕ → ℕ
class_of layout cell = count_where (λ class. nat_le (first_block_of layout (class + 1)) (block_of_cell cell)) 4

-- how many inline slots a cell of the class has: a table has none
abbrev pub slots_of : ℕ → ℕ
slots_of class = slice_index (2 ∷ 4 ∷ 8 ∷ 16 ∷ 0 ∷ []) class

-- the class of the arrays that hold so many properties with the least capacity
abbrev pub array_class_for : ℕ → ℕ
array_class_for count = 5 + count_where (λ class. nat_lt (slice_index (4 ∷ 8 ∷ 16 ∷ 32 ∷ []) class) count) 4

-- the capacity of the arrays of a class
abbrev pub array_capacity_of : ℕ → ℕ
array_capacity_of class = slice_index (4 ∷ 8 ∷ 16 ∷ 32 ∷ 64 ∷ []) (class - 5)

-- the least capacity that holds so many properties: 0 where there are none, and else that of an array
abbrev pub capacity_of : ℕ → ℕ
capacity_of count = if count == 0 then 0 else array_capacity_of (array_class_for count)

-- the class of an array: how many of the classes 6 to 9 begin at its block or before it, and 5 more
abbrev pub class_of_array : Layout → ℕ → ℕ
class_of_array layout array = 5 + count_where (λ class. nat_le (first_block_of layout (class + 6)) (block_of_array layout array)) 4
