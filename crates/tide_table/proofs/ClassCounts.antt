-- The cells of a class, as those of its blocks.
use Rattle.std.proofs.Common.{ℕ, ◌≡◌, ◌+◌, ◌*◌, ◌<◌, ◌≤◌, ap, arith, Bool, length, sum}
use Rattle.tide_heap.proofs.tide_block.BlockLaws.{first_block_of-arrays, first_block_of-next, first_block_of-rises}
use Rattle.tide_heap.proofs.tide_block.NumberLists.{count_where-from}
use Rattle.tide_heap.proofs.tide_block.RisingLaws.{rising-le}
use Rattle.tide_heap.specs.tide_block.Places.{first_cell_of}
use Rattle.tide_model.proofs.NumberLaws.{count_where-same}
use Rattle.tide_model.specs.Layout.{Layout, blocks_of, cell_count, first_block_of}
use Rattle.tide_model.specs.Numbers.{count_where}
use Rattle.tide_table.specs.Census.{count_in_class}

-- the blocks of a class of cells are among those of cells
pub blocks_within : (layout : Layout) (class : ℕ) → length layout.cell_blocks ≡ 5 → class < 5 →
    first_block_of layout class + blocks_of layout class ≤ sum layout.cell_blocks
blocks_within layout class five few =
    let next = first_block_of-next layout class in
    let later = rising-le (first_block_of layout) (first_block_of-rises layout) (class + 1) 5 (omega (arith, few)) in
    let all = first_block_of-arrays layout 5 five (omega arith) in
    omega (arith, next, later, all)

-- what passes from the first block of a class up to the next class is what passes of the class
pub counted-class : (test : ℕ → Bool) (layout : Layout) (class from blocks counted : ℕ) → from ≡ first_block_of layout class → blocks ≡ blocks_of layout class →
    count_where test (64 * from) + counted ≡ count_where test (64 * (from + blocks)) → counted ≡ count_in_class test layout class
counted-class test layout class from blocks counted first many is =
    let start : 64 * from ≡ first_cell_of layout class = omega (arith, first) in
    let end : 64 * (from + blocks) ≡ first_cell_of layout class + 64 * blocks_of layout class = omega (arith, first, many) in
    let before = ap (count_where test) start in
    let until = ap (count_where test) end in
    let parts = count_where-from test (first_cell_of layout class) (64 * blocks_of layout class) in
    omega (arith, is, before, until, parts)

-- two tests that agree on all cells count as many of a class
pub count_in_class-same : (one other : ℕ → Bool) (layout : Layout) (class : ℕ) → length layout.cell_blocks ≡ 5 → class < 5 →
    ((cell : ℕ) → cell < cell_count layout → one cell ≡ other cell) → count_in_class one layout class ≡ count_in_class other layout class
count_in_class-same one other layout class five few same =
    let within = blocks_within layout class five few in
    count_where-same (λ at. one (first_cell_of layout class + at)) (λ at. other (first_cell_of layout class + at)) (64 * blocks_of layout class)
    (λ at below. same (first_cell_of layout class + at) (omega (arith, within, below)))
