-- The words before a cell or an array, class by class.
use Rattle.std.proofs.Common.{ℕ, zero, suc, ◌≡◌, ◌+◌, ◌-◌, ◌*◌, ◌/◌, ◌<◌, ◌≤◌, min, refl, sym, ◌∙◌, ap, arith, Bool, true, false, List, ◌++◌, length, take, sum, inl, inr, add-zero, zero-add, zero-mul, add-suc, suc-mul}
use Rattle.std.specs.Prelude.{◌==◌, nat_le, slice_index, if◌then◌else◌}
use Rattle.std.proofs.lemmas.Bool.{cases_Bool, cases_lt, le-leb, le-ltb, lt-leb, ne_eqb}
use Rattle.std.proofs.lemmas.List.{take-append-le, take-take}
use Rattle.std.proofs.Math.Seq.{take-append-add}
use Rattle.std.proofs.lemmas.List.Sums.{sum_by_more, sum_by-append, sum_by-take-le}
use Rattle.tide_model.specs.Layout.{Layout, array_capacity_of, block_of_array, class_of, first_block_of, class_of_array, slots_of}
use Rattle.tide_model.specs.Numbers.{count_where}
use Rattle.tide_model.proofs.NumberLaws.{count_where-same}
use Rattle.tide_layout.specs.Slots.{total_below, class_of_id, words_among, width_of_class, width_of_cell, width_of_array, words_before_cell, words_before_array}

-- where the first numbers pass a test and the others don't, that many pass
pub count_where-first : (test : ℕ → Bool) (first bound : ℕ) → first ≤ bound → ((n : ℕ) → n < first → test n ≡ true) →
    ((n : ℕ) → first ≤ n → n < bound → test n ≡ false) → count_where test bound ≡ first
count_where-first test first zero within pass fail = omega arith
count_where-first test first (suc bound) within pass fail = elim (cases_lt bound first) [
  | inl all ↦
      let before = count_where-first test bound bound (omega arith) (λ n h. pass n (omega arith)) (λ n a b. absurd (omega arith)) in
      let last = ap {B = ℕ} (λ (t : Bool). if t then 1 else 0) (pass bound all) in
      omega (arith, before, last)
  | inr some ↦
      let before = count_where-first test first bound some pass (λ n a b. fail n a (omega arith)) in
      let last = ap {B = ℕ} (λ (t : Bool). if t then 1 else 0) (fail bound some (omega arith)) in
      omega (arith, before, last)
]

-- a sum up to a place is at most the sum up to a later one
pub sum-take-later : (xs : List ℕ) (one later : ℕ) → one ≤ later → sum (take one xs) ≤ sum (take later xs)
sum-take-later xs one later before =
    let shorter = ap sum (take-take one later xs before) in
    let within = sum_by-take-le (λ (x : ℕ). x) (take later xs) one in
    omega (arith, shorter, within)

-- the class of an id, by the ids of each class
pub class_of_id-is : (blocks : List ℕ) (class id : ℕ) → class < 5 → 64 * sum (take class blocks) ≤ id → id < 64 * sum (take (class + 1) blocks) →
    class_of_id blocks id ≡ class
class_of_id-is blocks class id few from below =
    count_where-first (λ later. nat_le (sum (take (later + 1) blocks)) (id / 64)) class 4 (omega arith)
    (λ n before. let begins = sum-take-later blocks (n + 1) class (omega arith) in le-leb _ _ (omega (arith, begins)))
    (λ n after _. let begins = sum-take-later blocks (class + 1) (n + 1) (omega arith) in lt-leb _ _ (omega (arith, begins)))

-- a run of numbers of one width
pub total_below-run : (f : ℕ → ℕ) (from count width : ℕ) → ((k : ℕ) → k < count → f (from + k) ≡ width) →
    total_below f (from + count) ≡ total_below f from + count * width
total_below-run f from zero width each = let at = ap (total_below f) (add-zero from) in omega (arith, at, zero-mul width)
total_below-run f from (suc count) width each =
    let before = total_below-run f from count width (λ k h. each k (omega arith)) in
    let last = each count (omega arith) in
    let at = ap (total_below f) (add-suc from count) in
    omega (arith, before, last, at, suc-mul count width)

-- functions that agree below a bound have one sum there
pub total_below-same : (f g : ℕ → ℕ) (bound : ℕ) → ((n : ℕ) → n < bound → f n ≡ g n) → total_below f bound ≡ total_below g bound
total_below-same f g zero same = refl
total_below-same f g (suc bound) same =
    let before = total_below-same f g bound (λ n h. same n (omega arith)) in
    let last = same bound (omega arith) in
    omega (arith, before, last)

-- the front of some numbers grows by a run of one width
pub total_below-front : (f : ℕ → ℕ) (bound from count width : ℕ) → ((k : ℕ) → k < count → f (from + k) ≡ width) →
    total_below f (min bound (from + count)) ≡ total_below f (min bound from) + min (bound - from) count * width
total_below-front f bound from count width each =
    let at : min bound (from + count) ≡ min bound from + min (bound - from) count = omega arith in
    ap (total_below f) at ∙ total_below-run f (min bound from) (min (bound - from) count) width
    (λ k h. (let here : min bound from + k ≡ from + k = omega arith in ap f here ∙ each k (omega arith)))

-- the words of the front of some ids grow by those of one class
pub words_among-class : (blocks : List ℕ) (first class ids : ℕ) → class < 5 → class < length blocks →
    words_among blocks first (min ids (64 * sum (take (class + 1) blocks)))
    ≡ words_among blocks first (min ids (64 * sum (take class blocks)))
    + min (ids - 64 * sum (take class blocks)) (64 * slice_index blocks class) * width_of_class (first + class)
unfolding words_among
words_among-class blocks first class ids few within =
    let next = sum_by_more (λ (x : ℕ). x) blocks class 0 within in
    let ends : 64 * sum (take (class + 1) blocks) ≡ 64 * sum (take class blocks) + 64 * slice_index blocks class = omega (arith, next) in
    let width : ℕ → ℕ = λ before. width_of_class (first + class_of_id blocks before) in
    ap (λ (n : ℕ). total_below width (min ids n)) ends
    ∙ total_below-front width ids (64 * sum (take class blocks)) (64 * slice_index blocks class) (width_of_class (first + class))
    (λ k h. ap (λ (of : ℕ). width_of_class (first + of)) (class_of_id-is blocks class (64 * sum (take class blocks) + k) few (omega arith) (omega (arith, ends))))

-- at most as many numbers pass as there are
pub count_where-le : (test : ℕ → Bool) (bound : ℕ) → count_where test bound ≤ bound
count_where-le test zero = omega arith
count_where-le test (suc bound) =
    let before = count_where-le test bound in
    elim (cases_Bool (test bound)) [
      | inl passes ↦ (let last = ap {B = ℕ} (λ (t : Bool). if t then 1 else 0) passes in omega (arith, before, last))
      | inr fails ↦ (let last = ap {B = ℕ} (λ (t : Bool). if t then 1 else 0) fails in omega (arith, before, last))
    ]

-- the same number on both sides changes no order
nat_le-add : (more a b : ℕ) → nat_le (more + a) (more + b) ≡ nat_le a b
nat_le-add more a b = elim (cases_lt b a) [
  | inl above ↦ lt-leb _ _ (omega arith) ∙ sym (lt-leb a b above)
  | inr within ↦ le-leb _ _ (omega arith) ∙ sym (le-leb a b within)
]

-- a cell's class is that of its block among the blocks of cells
pub class_of-among : (layout : Layout) (cell : ℕ) → length layout.cell_blocks ≡ 5 → class_of layout cell ≡ class_of_id layout.cell_blocks cell
class_of-among layout cell five = count_where-same
    (λ class. nat_le (first_block_of layout (class + 1)) (cell / 64)) (λ class. nat_le (sum (take (class + 1) layout.cell_blocks)) (cell / 64)) 4
    (λ class h. ap (λ (blocks : List ℕ). nat_le (sum blocks) (cell / 64)) (take-append-le (class + 1) layout.cell_blocks layout.array_blocks (omega arith)))

-- an array's class is 5 above that of its block among the blocks of arrays
pub class_of_array-among : (layout : Layout) (array : ℕ) → length layout.cell_blocks ≡ 5 → class_of_array layout array ≡ 5 + class_of_id layout.array_blocks array
class_of_array-among layout array five = ap (λ (n : ℕ). 5 + n) (count_where-same
    (λ class. nat_le (first_block_of layout (class + 6)) (block_of_array layout array)) (λ class. nat_le (sum (take (class + 1) layout.array_blocks)) (array / 64)) 4
    (λ class h.
    let at : class + 6 ≡ length layout.cell_blocks + (class + 1) = omega arith in
    let parts = ap sum (ap (λ (n : ℕ). take n (layout.cell_blocks ++ layout.array_blocks)) at
    ∙ take-append-add layout.cell_blocks layout.array_blocks (class + 1))
    ∙ sum_by-append (λ (x : ℕ). x) layout.cell_blocks (take (class + 1) layout.array_blocks) in
    ap (λ (n : ℕ). nat_le n (block_of_array layout array)) parts
    ∙ nat_le-add (sum layout.cell_blocks) (sum (take (class + 1) layout.array_blocks)) (array / 64)))

-- the words before a cell, class by class
pub words_before_cell-among : (layout : Layout) (cell : ℕ) → length layout.cell_blocks ≡ 5 →
    words_before_cell layout cell ≡ words_among layout.cell_blocks 0 cell
unfolding words_before_cell words_among
words_before_cell-among layout cell five = total_below-same
    (width_of_cell layout) (λ before. width_of_class (0 + class_of_id layout.cell_blocks before)) cell
    (λ before _. ap width_of_class (class_of-among layout before five ∙ sym (zero-add (class_of_id layout.cell_blocks before))))

-- the words before an array, class by class
pub words_before_array-among : (layout : Layout) (array : ℕ) → length layout.cell_blocks ≡ 5 →
    words_before_array layout array ≡ words_among layout.array_blocks 5 array
unfolding words_before_array words_among
words_before_array-among layout array five = total_below-same
    (width_of_array layout) (λ before. width_of_class (5 + class_of_id layout.array_blocks before)) array
    (λ before _. ap width_of_class (class_of_array-among layout before five))

-- the words of no ids
pub words_among-none : (blocks : List ℕ) (first ids : ℕ) → words_among blocks first (min ids 0) ≡ 0
unfolding words_among
words_among-none blocks first ids =
    let none : min ids 0 ≡ 0 = omega arith in
    ap (total_below (λ before. width_of_class (first + class_of_id blocks before))) none

-- one class more: what is left of the ids, and the words so far
pub words_among-more : (blocks : List ℕ) (first class ids rest words block width part : ℕ) → class < 5 → length blocks ≡ 5 →
    rest ≡ ids - 64 * sum (take class blocks) → words ≡ words_among blocks first (min ids (64 * sum (take class blocks))) →
    block ≡ slice_index blocks class → width ≡ width_of_class (first + class) → part ≡ min rest (64 * block) →
    (rest - part ≡ ids - 64 * sum (take (class + 1) blocks))
    × (words + part * width ≡ words_among blocks first (min ids (64 * sum (take (class + 1) blocks))))
words_among-more blocks first class ids rest words block width part few five is_rest is_words is_block is_width is_part =
    let next = sum_by_more (λ (x : ℕ). x) blocks class 0 (omega (arith, five)) in
    let grows = words_among-class blocks first class ids few (omega (arith, five)) in
    let same : part * width ≡ min (ids - 64 * sum (take class blocks)) (64 * slice_index blocks class) * width_of_class (first + class) = cc in
    (omega (arith, next), omega (arith, grows, same))

-- a class has as many words for a cell as slots, or more
pub slots_of-width : (class : ℕ) → slots_of class ≤ width_of_class class
slots_of-width zero = omega arith
slots_of-width (suc zero) = omega arith
slots_of-width (suc (suc zero)) = omega arith
slots_of-width (suc (suc (suc zero))) = omega arith
slots_of-width (suc (suc (suc (suc zero)))) = omega arith
slots_of-width (suc (suc (suc (suc (suc class))))) = omega arith

-- a class of arrays has as many words for each as elements
pub width_of_class-arrays : (class : ℕ) → 5 ≤ class → width_of_class class ≡ array_capacity_of class
width_of_class-arrays class large =
    ap (λ (t : Bool). if t then slots_of class else if class == 4 then 8 else array_capacity_of class) (le-ltb class 4 (omega arith))
    ∙ ap (λ (t : Bool). if t then 8 else array_capacity_of class) (ne_eqb class 4 (λ same. absurd (omega arith)))

-- an array has as many elements as its class's capacity
pub width_of_array-is : (layout : Layout) (array : ℕ) → width_of_array layout array ≡ array_capacity_of (class_of_array layout array)
width_of_array-is layout array = width_of_class-arrays (class_of_array layout array) (omega arith)
