-- How many cells, arrays and words a layout has at most.
use Rattle.std.proofs.Common.{ℕ, zero, suc, ◌≡◌, ◌+◌, ◌-◌, ◌*◌, ◌<◌, ◌≤◌, min, ap, subst, arith, List, length, take, sum, inl, inr}
use Rattle.std.specs.Prelude.{slice_index, All}
use Rattle.std.proofs.Math.ListN.{get_or-append}
use Rattle.std.proofs.Math.Nat.{mul-le-mul_right}
use Rattle.std.proofs.lemmas.Bool.{cases_lt}
use Rattle.std.proofs.lemmas.List.{get_or_default, get_or_past, get_or-append-add, take_all}
use Rattle.std.proofs.lemmas.List.Sums.{sum_by-le}
use Rattle.tide_model.specs.Layout.{Layout, cell_count, array_count}
use Rattle.tide_layout.specs.Limits.{IsWithinLimits}
use Rattle.tide_layout.specs.Region.{size_of, word_count}
use Rattle.tide_layout.specs.declared.region.Region.{Region}
use Rattle.tide_layout.proofs.Places.{base_of-end}
use Rattle.tide_layout.specs.Slots.{width_of_class, words_among}
use Rattle.tide_layout.proofs.ClassWidths.{words_among-class, words_among-none, words_before_cell-among, words_before_array-among}

-- each class has few blocks of cells
pub few_cell_blocks : (layout : Layout) → IsWithinLimits layout → (class : ℕ) → slice_index layout.cell_blocks class ≤ 262144
few_cell_blocks layout limits class = elim (cases_lt class (length layout.cell_blocks)) [
  | inl within ↦
      let few = limits.few_blocks class in
      let at = get_or-append layout.cell_blocks layout.array_blocks 0 class within in
      omega (arith, few, at)
  | inr past ↦ (let none = get_or_past layout.cell_blocks class 0 past in omega (arith, none))
]

-- each class has few blocks of arrays
pub few_array_blocks : (layout : Layout) → IsWithinLimits layout → (class : ℕ) → slice_index layout.array_blocks class ≤ 262144
few_array_blocks layout limits class =
    let few = limits.few_blocks (length layout.cell_blocks + class) in
    let at = get_or-append-add layout.cell_blocks layout.array_blocks class 0 in
    omega (arith, few, at)

-- five classes of few blocks have few blocks
pub few_in_all : (blocks : List ℕ) → length blocks ≡ 5 → ((class : ℕ) → slice_index blocks class ≤ 262144) → sum blocks ≤ 1310720
few_in_all blocks five few =
    let all : All (λ (x : ℕ). x ≤ 262144) blocks = λ k d h. subst (λ (x : ℕ). x ≤ 262144) (get_or_default blocks k 0 d h) (few k) in
    let within = sum_by-le (λ (x : ℕ). x) 262144 blocks all in
    let times = ap (λ (n : ℕ). n * 262144) five in
    omega (arith, within, times)

-- there are at most 83,886,080 cells
pub few_cells : (layout : Layout) → IsWithinLimits layout → cell_count layout ≤ 83886080
few_cells layout limits =
    let few = few_in_all layout.cell_blocks limits.five_cell_classes (few_cell_blocks layout limits) in
    omega (arith, few)

-- there are at most 83,886,080 arrays
pub few_arrays : (layout : Layout) → IsWithinLimits layout → array_count layout ≤ 83886080
few_arrays layout limits =
    let few = few_in_all layout.array_blocks limits.five_array_classes (few_array_blocks layout limits) in
    omega (arith, few)

-- a class adds at most 16,777,216 times its width
words_among-step : (blocks : List ℕ) (first class ids : ℕ) → class < 5 → length blocks ≡ 5 → slice_index blocks class ≤ 262144 →
    words_among blocks first (min ids (64 * sum (take (class + 1) blocks)))
    ≤ words_among blocks first (min ids (64 * sum (take class blocks))) + 16777216 * width_of_class (first + class)
words_among-step blocks first class ids few five small =
    let grows = words_among-class blocks first class ids few (omega (arith, five)) in
    let count : min (ids - 64 * sum (take class blocks)) (64 * slice_index blocks class) ≤ 16777216 = omega (arith, small) in
    let within = mul-le-mul_right (width_of_class (first + class)) count in
    omega (arith, grows, within)

-- the words of five classes
words_among-few : (blocks : List ℕ) (first ids : ℕ) → length blocks ≡ 5 → ((class : ℕ) → slice_index blocks class ≤ 262144) → ids ≤ 64 * sum blocks →
    words_among blocks first ids
    ≤ 16777216 * (width_of_class (first + 0) + width_of_class (first + 1) + width_of_class (first + 2) + width_of_class (first + 3) + width_of_class (first + 4))
words_among-few blocks first ids five few within =
    let whole = ap sum (take_all 5 blocks (omega (arith, five))) in
    let last = ap (words_among blocks first) (let e : min ids (64 * sum (take 5 blocks)) ≡ ids = omega (arith, whole) in e) in
    let none = words_among-none blocks first ids in
    let s0 = words_among-step blocks first 0 ids (omega arith) five (few 0) in
    let s1 = words_among-step blocks first 1 ids (omega arith) five (few 1) in
    let s2 = words_among-step blocks first 2 ids (omega arith) five (few 2) in
    let s3 = words_among-step blocks first 3 ids (omega arith) five (few 3) in
    let s4 = words_among-step blocks first 4 ids (omega arith) five (few 4) in
    omega (arith, last, none, s0, s1, s2, s3, s4)

-- the widths of five classes that follow one another
widths-small : (first : ℕ) → first ≤ 5 →
    width_of_class (first + 0) + width_of_class (first + 1) + width_of_class (first + 2) + width_of_class (first + 3) + width_of_class (first + 4) ≤ 124
widths-small zero few = omega arith
widths-small (suc zero) few = omega arith
widths-small (suc (suc zero)) few = omega arith
widths-small (suc (suc (suc zero))) few = omega arith
widths-small (suc (suc (suc (suc zero)))) few = omega arith
widths-small (suc (suc (suc (suc (suc zero))))) few = omega arith
widths-small (suc (suc (suc (suc (suc (suc first)))))) few = absurd (omega (arith, few))

-- the words of five classes that follow one another, whichever they are
pub words_among-small : (blocks : List ℕ) (first ids : ℕ) → first ≤ 5 → length blocks ≡ 5 → ((class : ℕ) → slice_index blocks class ≤ 262144) → ids ≤ 64 * sum blocks →
    words_among blocks first ids ≤ 2080374784
words_among-small blocks first ids within five few all =
    let words = words_among-few blocks first ids five few all in
    let widths = widths-small first within in
    omega (arith, words, widths)

-- there are at most 3,149,272,505 words
pub word_count-few : (layout : Layout) → IsWithinLimits layout → word_count layout ≤ 3149272505
unfolding word_count
word_count-few layout limits =
    let cells = few_cells layout limits in
    let arrays = few_arrays layout limits in
    let mutators = limits.few_mutators in
    let registers = mul-le-mul_right layout.registers mutators in
    let each = limits.few_registers in
    let visitors = limits.few_visitors in
    let strong = limits.few_strong in
    let weak = limits.few_weak in
    let slots = words_among-few layout.cell_blocks 0 (cell_count layout) limits.five_cell_classes (few_cell_blocks layout limits) (omega arith) in
    let elements = words_among-few layout.array_blocks 5 (array_count layout) limits.five_array_classes (few_array_blocks layout limits) (omega arith) in
    let of_cells = words_before_cell-among layout (cell_count layout) limits.five_cell_classes in
    let of_arrays = words_before_array-among layout (array_count layout) limits.five_cell_classes in
    omega (arith, cells, arrays, mutators, registers, each, visitors, strong, weak, slots, elements, of_cells, of_arrays)

-- each region has at most 3,149,272,505 words
pub size_of-few : (layout : Layout) (region : Region) → IsWithinLimits layout → size_of layout region ≤ 3149272505
size_of-few layout region limits =
    let few = word_count-few layout limits in
    let ends = base_of-end layout region in
    omega (arith, few, ends)
