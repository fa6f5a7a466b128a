-- Where the cells and the arrays of a class begin, and the bit of each in its block's words.
use Rattle.std.specs.Prelude.{ℕ, ◌*◌, ◌-◌, ◌%◌, sum, take}
use Rattle.tide_model.specs.Layout.{Layout, first_block_of}

-- the first cell of a class: 64 in each block of the smaller classes come before it
abbrev pub first_cell_of : Layout → ℕ → ℕ
first_cell_of layout class = 64 * first_block_of layout class

-- the first array of a class: 64 in each block of the smaller classes of arrays come before it
abbrev pub first_array_of : Layout → ℕ → ℕ
first_array_of layout class = 64 * sum (take (class - 5) layout.array_blocks)

-- the bit of a cell or an array in the words of its block
abbrev pub bit_of : ℕ → ℕ
bit_of id = id % 64
