-- Small words and layouts worked out by hand, by which the definitions are checked.
use Rattle.std.specs.Prelude.{◌≡◌, refl, [], ◌∷◌}
use Rattle.tide_model.specs.Layout.{Layout, block_of_array, block_of_cell, class_of, class_of_array, first_block_of}
use Rattle.tide_block.specs.Bits.{IsSet, IsClear}
use Rattle.tide_block.specs.Places.{bit_of, first_array_of, first_cell_of}

-- blocks of the classes 0, 2, 2, 4 and of the classes 6, 9, 9
abbrev sparse : Layout
sparse = record {
  cell_blocks = 1 ∷ 0 ∷ 2 ∷ 0 ∷ 1 ∷ [];
  array_blocks = 0 ∷ 1 ∷ 0 ∷ 0 ∷ 2 ∷ [];
  registers = 1;
  strong = 0;
  weak = 0;
  mutators = 1;
  visitors = 0;
}

-- of twelve the bits 2 and 3 are set
twelve-bits : (IsClear 12 1) × (IsSet 12 2) × (IsSet 12 3) × (IsClear 12 4)
twelve-bits = (refl, refl, refl, refl)

cells-at_borders : (class_of sparse 0 ≡ 0) × (class_of sparse 63 ≡ 0) × (class_of sparse 64 ≡ 2) × (class_of sparse 191 ≡ 2)
    × (class_of sparse 192 ≡ 4) × (class_of sparse 255 ≡ 4)
cells-at_borders = (refl, refl, refl, refl, refl, refl)

cell_blocks-at_borders : (block_of_cell 63 ≡ 0) × (block_of_cell 64 ≡ 1) × (block_of_cell 191 ≡ 2) × (block_of_cell 192 ≡ 3)
cell_blocks-at_borders = (refl, refl, refl, refl)

bits-at_borders : (bit_of 0 ≡ 0) × (bit_of 63 ≡ 63) × (bit_of 64 ≡ 0) × (bit_of 191 ≡ 63)
bits-at_borders = (refl, refl, refl, refl)

arrays-at_borders : (class_of_array sparse 0 ≡ 6) × (class_of_array sparse 63 ≡ 6) × (class_of_array sparse 64 ≡ 9) × (class_of_array sparse 191 ≡ 9)
arrays-at_borders = (refl, refl, refl, refl)

array_blocks-at_borders : (block_of_array sparse 0 ≡ 4) × (block_of_array sparse 63 ≡ 4) × (block_of_array sparse 64 ≡ 5) × (block_of_array sparse 191 ≡ 6)
array_blocks-at_borders = (refl, refl, refl, refl)

-- a class without a block begins where the next one does
first_cells : (first_cell_of sparse 0 ≡ 0) × (first_cell_of sparse 1 ≡ 64) × (first_cell_of sparse 2 ≡ 64) × (first_cell_of sparse 3 ≡ 192)
    × (first_cell_of sparse 4 ≡ 192)
first_cells = (refl, refl, refl, refl, refl)

first_blocks : (first_block_of sparse 5 ≡ 4) × (first_block_of sparse 6 ≡ 4) × (first_block_of sparse 7 ≡ 5) × (first_block_of sparse 8 ≡ 5)
    × (first_block_of sparse 9 ≡ 5)
first_blocks = (refl, refl, refl, refl, refl)

first_arrays : (first_array_of sparse 5 ≡ 0) × (first_array_of sparse 6 ≡ 0) × (first_array_of sparse 7 ≡ 64) × (first_array_of sparse 8 ≡ 64)
    × (first_array_of sparse 9 ≡ 64)
first_arrays = (refl, refl, refl, refl, refl)
