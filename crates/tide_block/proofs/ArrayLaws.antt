-- The classes of arrays, and which arrays lie in a block.
use Rattle.std.proofs.Common.{ℕ, ◌≡◌, ◌+◌, ◌-◌, ◌*◌, ◌<◌, ◌≤◌, sym, ap, subst, arith, length, sum}
use Rattle.std.proofs.lemmas.List.{take_all}
use Rattle.tide_model.specs.Layout.{Layout, IsBlockOf, first_block_of, block_of_array, array_count, class_of_array}
use Rattle.tide_block.specs.Places.{bit_of, first_array_of}
use Rattle.tide_block.proofs.RisingLaws.{count_up_to-le, rising-le}
use Rattle.tide_block.proofs.BlockLaws.{first_block_of-next, first_block_of-rises, first_block_of-arrays, counted-block, counted-is}

-- after the classes of arrays come no more blocks
pub first_block_of-end : (layout : Layout) → length layout.cell_blocks ≡ 5 → length layout.array_blocks ≡ 5
    → first_block_of layout 10 ≡ sum layout.cell_blocks + sum layout.array_blocks
first_block_of-end layout cells arrays =
    let whole = ap sum (take_all 5 layout.array_blocks (omega (arith, arrays))) in
    let all = first_block_of-arrays layout 10 cells (omega arith) in
    omega (arith, whole, all)

pub class_of_array-from : (layout : Layout) (array : ℕ) → 5 ≤ class_of_array layout array
class_of_array-from layout array = omega arith

pub class_of_array-below : (layout : Layout) (array : ℕ) → class_of_array layout array < 10
class_of_array-below layout array =
    let few = count_up_to-le (λ k. first_block_of layout (k + 6)) (block_of_array layout array) 4 in
    omega (arith, few)

-- the block of an array is one of the array's class
pub class_of_array-block : (layout : Layout) (array : ℕ) → length layout.cell_blocks ≡ 5 → length layout.array_blocks ≡ 5 → array < array_count layout
    → IsBlockOf layout (class_of_array layout array) (block_of_array layout array)
class_of_array-block layout array cells arrays within =
    let begins = first_block_of-arrays layout 5 cells (omega arith) in
    let ends = first_block_of-end layout cells arrays in
    counted-block layout 5 (block_of_array layout array) (omega (arith, begins)) (omega (arith, ends, within))

-- and an array of a block of a class has that class
pub class_of_array-from_block : (layout : Layout) (class array : ℕ) → 5 ≤ class → class < 10 → IsBlockOf layout class (block_of_array layout array)
    → class_of_array layout array ≡ class
class_of_array-from_block layout class array large few of = counted-is layout 5 class (block_of_array layout array) large few of

-- an array is its block's bit, the blocks of arrays being counted from the first of them
pub array_is : (layout : Layout) (array : ℕ) → array ≡ 64 * (block_of_array layout array - sum layout.cell_blocks) + bit_of array
array_is layout array = omega arith

-- each bit of a block of arrays is an array that lies there
pub block_of_array-at : (layout : Layout) (block bit : ℕ) → sum layout.cell_blocks ≤ block → bit < 64
    → block_of_array layout (64 * (block - sum layout.cell_blocks) + bit) ≡ block
block_of_array-at layout block bit from h = omega (arith, from, h)

-- a block of a class of arrays is one of the blocks of arrays
pub block_of_arrays : (layout : Layout) (class block : ℕ) → length layout.cell_blocks ≡ 5 → length layout.array_blocks ≡ 5 → 5 ≤ class → class < 10
    → IsBlockOf layout class block → (sum layout.cell_blocks ≤ block) × (block < sum layout.cell_blocks + sum layout.array_blocks)
block_of_arrays layout class block cells arrays large few of =
    let rises = first_block_of-rises layout in
    let begins = first_block_of-arrays layout class cells large in
    let next = first_block_of-next layout class in
    let later = rising-le (first_block_of layout) rises (class + 1) 10 (omega (arith, few)) in
    let ends = first_block_of-end layout cells arrays in
    (omega (arith, begins, of.from), omega (arith, next, later, ends, of.below))

-- each bit of a block of a class of arrays is an array of the layout and of that class
pub array_at_within : (layout : Layout) (class block bit : ℕ) → length layout.cell_blocks ≡ 5 → length layout.array_blocks ≡ 5 → 5 ≤ class → class < 10
    → IsBlockOf layout class block → bit < 64 → 64 * (block - sum layout.cell_blocks) + bit < array_count layout
array_at_within layout class block bit cells arrays large few of h =
    let within = block_of_arrays layout class block cells arrays large few of in
    let from : sum layout.cell_blocks ≤ block = within.0 in
    let below : block < sum layout.cell_blocks + sum layout.array_blocks = within.1 in
    omega (arith, from, below, h)

pub class_of_array-at : (layout : Layout) (class block bit : ℕ) → length layout.cell_blocks ≡ 5 → 5 ≤ class → class < 10 → IsBlockOf layout class block → bit < 64
    → class_of_array layout (64 * (block - sum layout.cell_blocks) + bit) ≡ class
class_of_array-at layout class block bit cells large few of h =
    let begins = first_block_of-arrays layout class cells large in
    let at = block_of_array-at layout block bit (omega (arith, begins, of.from)) h in
    class_of_array-from_block layout class (64 * (block - sum layout.cell_blocks) + bit) large few (subst (IsBlockOf layout class) (sym at) of)

-- the first array of a class lies in the class's first block
pub block_of_array-first : (layout : Layout) (class : ℕ) → length layout.cell_blocks ≡ 5 → 5 ≤ class
    → block_of_array layout (first_array_of layout class) ≡ first_block_of layout class
block_of_array-first layout class cells large = let begins = first_block_of-arrays layout class cells large in omega (arith, begins)
