-- The classes of blocks, and where cells and arrays lie in them.
use Rattle.std.proofs.Common.{ℕ, zero, suc, ◌≡◌, ◌+◌, ◌-◌, ◌<◌, ◌≤◌, sym, ◌∙◌, ap, subst, arith, List, ◌++◌, length, take, sum, get_or, inl, inr, zero-add}
use Rattle.std.proofs.lemmas.Bool.{cases_lt}
use Rattle.std.proofs.lemmas.List.{take_all, get_or_past}
use Rattle.std.proofs.lemmas.List.Sums.{sum_by_more, sum_by-append}
use Rattle.std.proofs.Math.Seq.{take-append-add}
use Rattle.tide_model.specs.Layout.{Layout, IsBlockOf, first_block_of, blocks_of, cell_count, class_of, block_of_cell}
use Rattle.tide_layout.specs.Slots.{class_among}
use Rattle.tide_block.proofs.RisingLaws.{IsRising, count_up_to, count_up_to-le, count_up_to-is, counted_are_below, uncounted_are_above, rising-le}

-- the sum of one more number
sum-take_more : (numbers : List ℕ) (count : ℕ) → sum (take (count + 1) numbers) ≡ sum (take count numbers) + get_or numbers count 0
sum-take_more numbers count = elim (cases_lt count (length numbers)) [
  | inl inside ↦ sum_by_more (λ x. x) numbers count 0 inside
  | inr past ↦
      let longer = ap sum (take_all (count + 1) numbers (omega (arith, past))) in
      let whole = ap sum (take_all count numbers past) in
      let none = get_or_past numbers count 0 past in
      omega (arith, longer, whole, none)
]

-- a class ends where the next begins
pub first_block_of-next : (layout : Layout) (class : ℕ) → first_block_of layout (class + 1) ≡ first_block_of layout class + blocks_of layout class
first_block_of-next layout class = sum-take_more (layout.cell_blocks ++ layout.array_blocks) class

pub first_block_of-rises : (layout : Layout) → IsRising (first_block_of layout)
first_block_of-rises layout class = let next = first_block_of-next layout class in omega (arith, next)

-- a class of arrays begins after all blocks of cells and those of the smaller classes of arrays
pub first_block_of-arrays : (layout : Layout) (class : ℕ) → length layout.cell_blocks ≡ 5 → 5 ≤ class
    → first_block_of layout class ≡ sum layout.cell_blocks + sum (take (class - 5) layout.array_blocks)
first_block_of-arrays layout class five large =
    let behind : class ≡ length layout.cell_blocks + (class - 5) = omega (arith, five, large) in
    ap (first_block_of layout) behind
    ∙ ap sum (take-append-add layout.cell_blocks layout.array_blocks (class - 5))
    ∙ sum_by-append (λ x. x) layout.cell_blocks (take (class - 5) layout.array_blocks)

-- so do the classes from one on
row-rises : (layout : Layout) (base : ℕ) → IsRising (λ k. first_block_of layout (k + 1 + base))
row-rises layout base k = rising-le (first_block_of layout) (first_block_of-rises layout) (k + 1 + base) (k + 1 + 1 + base) (omega arith)

-- of some classes in a row, the one that as many of the others reach as begin at a block or before it has the block
pub counted-block : (layout : Layout) (base block : ℕ) → first_block_of layout base ≤ block → block < first_block_of layout (base + 5)
    → IsBlockOf layout (base + class_among (λ class. first_block_of layout (class + base)) block) block
counted-block layout base block low high =
    let row : ℕ → ℕ = λ k. first_block_of layout (k + 1 + base) in
    placed (count_up_to row block 4) (count_up_to-le row block 4)
    (counted_are_below row (row-rises layout base) block 4) (uncounted_are_above row (row-rises layout base) block 4)
  where
    begins : (front : ℕ) → ((k : ℕ) → k < front → first_block_of layout (k + 1 + base) ≤ block) → first_block_of layout (base + front) ≤ block
    begins zero below = let same : base + 0 ≡ base = omega arith in let equal = ap (first_block_of layout) same in omega (arith, equal, low)
    begins (suc front) below =
        let same : base + suc front ≡ front + 1 + base = omega arith in
        let equal = ap (first_block_of layout) same in
        let last = below front (omega arith) in
        omega (arith, equal, last)

    placed : (front : ℕ) → front ≤ 4 → ((k : ℕ) → k < front → first_block_of layout (k + 1 + base) ≤ block)
        → ((k : ℕ) → front ≤ k → k < 4 → block < first_block_of layout (k + 1 + base)) → IsBlockOf layout (base + front) block
    placed front few below above =
        let next = first_block_of-next layout (base + front) in
        let same : base + front + 1 ≡ front + 1 + base = omega arith in
        let equal = ap (first_block_of layout) same in
        let ends : block < first_block_of layout (base + front + 1) = elim (cases_lt front 4) [
          | inl inner ↦ (let end = above front (omega arith) inner in omega (arith, equal, end))
          | inr last ↦ (let whole : base + front + 1 ≡ base + 5 = omega arith in let at = ap (first_block_of layout) whole in omega (arith, at, high))
        ] in
        record { from = begins front below; below = omega (arith, next, ends) }

-- and the class that has a block is the one so counted
pub counted-is : (layout : Layout) (base class block : ℕ) → base ≤ class → class < base + 5 → IsBlockOf layout class block
    → base + class_among (λ class. first_block_of layout (class + base)) block ≡ class
counted-is layout base class block low high of =
    let row : ℕ → ℕ = λ k. first_block_of layout (k + 1 + base) in
    let rises = first_block_of-rises layout in
    let next = first_block_of-next layout class in
    let counted = count_up_to-is row block 4 (class - base) (omega arith)
    (λ k h. let before = rising-le (first_block_of layout) rises (k + 1 + base) class (omega arith) in omega (arith, before, of.from))
    (λ k h less. let after = rising-le (first_block_of layout) rises (class + 1) (k + 1 + base) (omega arith) in omega (arith, after, next, of.below)) in
    omega (arith, counted)

-- a block is one of no more than one class
pub class_is_one : (layout : Layout) (class other block : ℕ) → IsBlockOf layout class block → IsBlockOf layout other block → class ≡ other
class_is_one layout class other block of also = elim (cases_lt class other) [
  | inl before ↦ absurd (apart class other of also before)
  | inr rest ↦ elim (cases_lt other class) [
    | inl after ↦ absurd (apart other class also of after)
    | inr same ↦ omega arith
  ]
]
  where
    apart : (low high : ℕ) → IsBlockOf layout low block → IsBlockOf layout high block → low < high → ⊥
    apart low high lower higher h =
        let next = first_block_of-next layout low in
        let later = rising-le (first_block_of layout) (first_block_of-rises layout) (low + 1) high (omega (arith, h)) in
        omega (arith, next, later, lower.below, higher.from)

pub class_of-below : (layout : Layout) (cell : ℕ) → class_of layout cell < 5
class_of-below layout cell =
    let few = count_up_to-le (λ k. first_block_of layout (k + 1)) (block_of_cell cell) 4 in
    omega (arith, few)

-- the block of a cell is one of the cell's class
pub class_of-block : (layout : Layout) (cell : ℕ) → length layout.cell_blocks ≡ 5 → cell < cell_count layout → IsBlockOf layout (class_of layout cell) (block_of_cell cell)
class_of-block layout cell five within =
    let all = first_block_of-arrays layout 5 five (omega arith) in
    let counted = counted-block layout 0 (block_of_cell cell) (omega arith) (omega (arith, all, within)) in
    subst (λ class. IsBlockOf layout class (block_of_cell cell)) (zero-add (class_of layout cell)) counted

-- and a cell of a block of a class has that class
pub class_of-from_block : (layout : Layout) (class cell : ℕ) → class < 5 → IsBlockOf layout class (block_of_cell cell) → class_of layout cell ≡ class
class_of-from_block layout class cell few of =
    let counted = counted-is layout 0 class (block_of_cell cell) (omega arith) (omega arith) of in
    sym (zero-add (class_of layout cell)) ∙ counted
