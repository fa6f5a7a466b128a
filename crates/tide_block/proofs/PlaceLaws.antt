-- Ids, blocks and bits: which cells and arrays lie in a block.
use Rattle.std.proofs.Common.{ℕ, ◌≡◌, ◌+◌, ◌*◌, ◌<◌, sym, subst, arith, length, sum}
use Rattle.tide_model.specs.Layout.{Layout, IsBlockOf, first_block_of, cell_count, class_of, block_of_cell}
use Rattle.tide_block.specs.Places.{bit_of}
use Rattle.tide_block.proofs.RisingLaws.{rising-le}
use Rattle.tide_block.proofs.BlockLaws.{first_block_of-next, first_block_of-rises, first_block_of-arrays, class_of-from_block}

-- a bit is one of the 64 of a word
pub bit_of-below : (id : ℕ) → bit_of id < 64
bit_of-below id = omega arith

-- a cell is its block's bit
pub cell_is : (cell : ℕ) → cell ≡ 64 * block_of_cell cell + bit_of cell
cell_is cell = omega arith

-- each bit of a block is a cell that lies there
pub block_of_cell-at : (block bit : ℕ) → bit < 64 → block_of_cell (64 * block + bit) ≡ block
block_of_cell-at block bit h = omega arith

pub bit_of-at : (block bit : ℕ) → bit < 64 → bit_of (64 * block + bit) ≡ bit
bit_of-at block bit h = omega arith

-- a block of a class of cells is one of the blocks of cells
pub block_of_cells : (layout : Layout) (class block : ℕ) → length layout.cell_blocks ≡ 5 → class < 5 → IsBlockOf layout class block → block < sum layout.cell_blocks
block_of_cells layout class block five few of =
    let next = first_block_of-next layout class in
    let later = rising-le (first_block_of layout) (first_block_of-rises layout) (class + 1) 5 (omega (arith, few)) in
    let all = first_block_of-arrays layout 5 five (omega arith) in
    omega (arith, next, later, all, of.below)

-- each bit of a block of a class of cells is a cell of the layout and of that class
pub cell_at_within : (layout : Layout) (class block bit : ℕ) → length layout.cell_blocks ≡ 5 → class < 5 → IsBlockOf layout class block → bit < 64
    → 64 * block + bit < cell_count layout
cell_at_within layout class block bit five few of h = let within = block_of_cells layout class block five few of in omega (arith, within, h)

pub class_of-at : (layout : Layout) (class block bit : ℕ) → class < 5 → IsBlockOf layout class block → bit < 64 → class_of layout (64 * block + bit) ≡ class
class_of-at layout class block bit few of h =
    class_of-from_block layout class (64 * block + bit) few (subst (IsBlockOf layout class) (sym (block_of_cell-at block bit h)) of)
