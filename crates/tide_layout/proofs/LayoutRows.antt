-- Layouts that were worked out by hand: how much each has, and where its words lie.
use Rattle.std.proofs.Common.{ℕ, ◌≡◌, ◌+◌, ◌*◌, ◌∙◌, List, [], ◌∷◌, refl, arith}
use Rattle.tide_model.specs.Layout.{Layout, array_capacity_of, array_count, blocks_of, cell_count, slots_of}
use Rattle.tide_layout.specs.declared.region.Region.TheVariants.{Active, Call, Registers, Free, Swept, Stopped, Weak, Dead, GreyRace}
use Rattle.tide_layout.specs.Region.{base_of, place_in, place_of_element, place_of_slot, word_count}
use Rattle.tide_layout.specs.Slots.{index_of_element, index_of_slot, words_among, words_before_array, words_before_cell}
use Rattle.tide_layout.proofs.ClassWidths.{words_among-class, words_among-none, words_before_array-among, words_before_cell-among}

-- a layout by its numbers: blocks of cells and of arrays, registers, strong and weak handles, mutators and visitors
abbrev made : (cells arrays : List ℕ) (registers strong weak mutators visitors : ℕ) → Layout
made cells arrays registers strong weak mutators visitors = record {
  cell_blocks = cells;
  array_blocks = arrays;
  registers = registers;
  strong = strong;
  weak = weak;
  mutators = mutators;
  visitors = visitors;
}

-- a layout of nothing
abbrev nothing : Layout
nothing = made (0 ∷ 0 ∷ 0 ∷ 0 ∷ 0 ∷ []) (0 ∷ 0 ∷ 0 ∷ 0 ∷ 0 ∷ []) 0 0 0 0 0

-- blocks of the classes 0 and 4 and of the classes 5 and 6
abbrev small : Layout
small = made (1 ∷ 0 ∷ 0 ∷ 0 ∷ 1 ∷ []) (1 ∷ 1 ∷ 0 ∷ 0 ∷ 0 ∷ []) 4 2 2 1 0

-- five classes of 64 blocks each
abbrev full : List ℕ
full = 64 ∷ 64 ∷ 64 ∷ 64 ∷ 64 ∷ []

-- each number at its limit
abbrev largest : Layout
largest = made full full 16 256 256 16 8

-- another number of blocks in each class
abbrev uneven : Layout
uneven = made (1 ∷ 2 ∷ 3 ∷ 4 ∷ 5 ∷ []) (6 ∷ 7 ∷ 8 ∷ 9 ∷ 10 ∷ []) 11 12 13 14 8

-- the words of the period, the phase and the base are there in any layout, and a gap behind each region
nothing-counts : (cell_count nothing ≡ 0) × (array_count nothing ≡ 0) × (word_count nothing ≡ 355)
unfolding word_count words_before_cell words_before_array
nothing-counts = (refl, refl, refl)

small-counts : (cell_count small ≡ 128) × (array_count small ≡ 128) × (word_count small ≡ 2496)
unfolding word_count words_before_cell words_before_array
small-counts = (refl, refl, refl)

small-places : (place_in small Registers 3 ≡ 153) × (place_in small Free 0 ≡ 2382) × (place_in small Swept 3 ≡ 2479)
unfolding place_in base_of words_before_cell words_before_array
small-places = (refl, refl, refl)

-- the last slot of a block, the first and the last pair of the tables behind it
small-slots : (place_of_slot small 63 1 ≡ 1069) × (place_of_slot small 64 0 ≡ 1070) × (place_of_slot small 127 7 ≡ 1581)
unfolding place_in base_of index_of_slot words_before_cell
small-slots = (refl, refl, refl)

small-elements : (place_of_element small 63 3 ≡ 1853) × (place_of_element small 64 0 ≡ 1854)
unfolding place_in base_of words_before_cell index_of_element words_before_array
small-elements = (refl, refl)

uneven-cell_blocks : (blocks_of uneven 0 ≡ 1) × (blocks_of uneven 1 ≡ 2) × (blocks_of uneven 2 ≡ 3) × (blocks_of uneven 3 ≡ 4) × (blocks_of uneven 4 ≡ 5)
uneven-cell_blocks = (refl, refl, refl, refl, refl)

uneven-array_blocks : (blocks_of uneven 5 ≡ 6) × (blocks_of uneven 6 ≡ 7) × (blocks_of uneven 7 ≡ 8) × (blocks_of uneven 8 ≡ 9) × (blocks_of uneven 9 ≡ 10)
uneven-array_blocks = (refl, refl, refl, refl, refl)

slots : (slots_of 0 ≡ 2) × (slots_of 1 ≡ 4) × (slots_of 2 ≡ 8) × (slots_of 3 ≡ 16) × (slots_of 4 ≡ 0)
slots = (refl, refl, refl, refl, refl)

capacities : (array_capacity_of 5 ≡ 4) × (array_capacity_of 6 ≡ 8) × (array_capacity_of 7 ≡ 16) × (array_capacity_of 8 ≡ 32) × (array_capacity_of 9 ≡ 64)
capacities = (refl, refl, refl, refl, refl)

-- the words of all cells but one in five full classes, and of all
full-cells : (words_among full 0 20479 ≡ 155640) × (words_among full 0 20480 ≡ 155648)
full-cells = (omega (arith, none, one, two, three, four, rest), omega (arith, none, one, two, three, four, all))
  where
    none : words_among full 0 0 ≡ 0
    none = words_among-none full 0 20480

    one : words_among full 0 4096 ≡ words_among full 0 0 + 4096 * 2
    one = words_among-class full 0 0 20480 (omega arith) (omega arith)

    two : words_among full 0 8192 ≡ words_among full 0 4096 + 4096 * 4
    two = words_among-class full 0 1 20480 (omega arith) (omega arith)

    three : words_among full 0 12288 ≡ words_among full 0 8192 + 4096 * 8
    three = words_among-class full 0 2 20480 (omega arith) (omega arith)

    four : words_among full 0 16384 ≡ words_among full 0 12288 + 4096 * 16
    four = words_among-class full 0 3 20480 (omega arith) (omega arith)

    rest : words_among full 0 20479 ≡ words_among full 0 16384 + 4095 * 8
    rest = words_among-class full 0 4 20479 (omega arith) (omega arith)

    all : words_among full 0 20480 ≡ words_among full 0 16384 + 4096 * 8
    all = words_among-class full 0 4 20480 (omega arith) (omega arith)

-- the same of arrays
full-arrays : (words_among full 5 20479 ≡ 507840) × (words_among full 5 20480 ≡ 507904)
full-arrays = (omega (arith, none, one, two, three, four, rest), omega (arith, none, one, two, three, four, all))
  where
    none : words_among full 5 0 ≡ 0
    none = words_among-none full 5 20480

    one : words_among full 5 4096 ≡ words_among full 5 0 + 4096 * 4
    one = words_among-class full 5 0 20480 (omega arith) (omega arith)

    two : words_among full 5 8192 ≡ words_among full 5 4096 + 4096 * 8
    two = words_among-class full 5 1 20480 (omega arith) (omega arith)

    three : words_among full 5 12288 ≡ words_among full 5 8192 + 4096 * 16
    three = words_among-class full 5 2 20480 (omega arith) (omega arith)

    four : words_among full 5 16384 ≡ words_among full 5 12288 + 4096 * 32
    four = words_among-class full 5 3 20480 (omega arith) (omega arith)

    rest : words_among full 5 20479 ≡ words_among full 5 16384 + 4095 * 64
    rest = words_among-class full 5 4 20479 (omega arith) (omega arith)

    all : words_among full 5 20480 ≡ words_among full 5 16384 + 4096 * 64
    all = words_among-class full 5 4 20480 (omega arith) (omega arith)

-- and so of the largest layout
largest-cells : (words_before_cell largest 20479 ≡ 155640) × (words_before_cell largest 20480 ≡ 155648)
largest-cells = (words_before_cell-among largest 20479 refl ∙ full-cells.0, words_before_cell-among largest 20480 refl ∙ full-cells.1)

largest-arrays : (words_before_array largest 20479 ≡ 507840) × (words_before_array largest 20480 ≡ 507904)
largest-arrays = (words_before_array-among largest 20479 refl ∙ full-arrays.0, words_before_array-among largest 20480 refl ∙ full-arrays.1)

largest-counts : (cell_count largest ≡ 20480) × (array_count largest ≡ 20480) × (word_count largest ≡ 771163)
unfolding word_count
largest-counts = (refl, refl, omega (arith, largest-cells.1, largest-arrays.1))

-- the last words of some regions, and of the whole heap
largest-places : (place_in largest Stopped 23 ≡ 1018) × (place_in largest Weak 255 ≡ 2106) × (place_in largest Free 0 ≡ 768187)
    × (place_in largest Dead 639 ≡ 769482) × (place_in largest GreyRace 319 ≡ 770490) × (place_in largest Swept 639 ≡ 771146)
unfolding place_in base_of
largest-places = let cells = largest-cells.1 in let arrays = largest-arrays.1 in (
  refl,
  refl,
  omega (arith, cells, arrays),
  omega (arith, cells, arrays),
  omega (arith, cells, arrays),
  omega (arith, cells, arrays),
)

-- a participant's words are 17 places from the next one's: so is the first mutator's last register from the second's
-- first
largest-owners : (place_in largest Active 15 ≡ 306) × (place_in largest Call 0 ≡ 339) × (place_in largest Call 1 ≡ 356)
    × (place_in largest Registers 15 ≡ 1066) × (place_in largest Registers 16 ≡ 1083) × (place_in largest Registers 255 ≡ 1546)
unfolding place_in base_of
largest-owners = (refl, refl, refl, refl, refl, refl)

-- the last pair of the last table, and the last element of the last array
largest-ends : (place_of_slot largest 20479 7 ≡ 260250) × (place_of_element largest 20479 63 ≡ 768170)
unfolding place_in base_of index_of_slot index_of_element
largest-ends = let cells = largest-cells in let arrays = largest-arrays in (
  omega (arith, cells.0, cells.1),
  omega (arith, cells.0, cells.1, arrays.0),
)
