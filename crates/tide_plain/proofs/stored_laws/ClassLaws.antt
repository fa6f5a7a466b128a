-- Which cells and arrays are those of a class, and when its blocks are full.
use Rattle.std.proofs.Common.{ℕ, ◌≡◌, ◌≢◌, ◌+◌, ◌*◌, ◌<◌, ◌≤◌, refl, sym, ◌∙◌, ap, arith, Bool, true, false, get_or, inl, inr, Option, None, Some}
use Rattle.std.proofs.lemmas.Bool.{cases_lt}
use Rattle.std.specs.Prelude.{if◌then◌else◌, IfSome, IfNone}
use Rattle.std.specs.Option.{MatchOption}
use Rattle.tide_model.specs.Layout.{Layout, IsBlockOf, first_block_of, blocks_of, cell_count, array_count, block_of_array}
use Rattle.tide_model.specs.Answer.{IsFreeArrayOf, IsFreeCellOf}
use Rattle.tide_model.specs.Room.{IsFullBlock}
use Rattle.tide_model.specs.State.{blank_cell, free, is_free, live}
use Rattle.tide_layout.specs.Limits.{IsWithinLimits}
use Rattle.tide_block.specs.Places.{first_cell_of, first_array_of}
use Rattle.tide_block.proofs.RisingLaws.{rising-le}
use Rattle.tide_block.proofs.BlockLaws.{first_block_of-next, first_block_of-rises, first_block_of-arrays}
use Rattle.tide_block.proofs.PlaceLaws.{block_of_cells}
use Rattle.tide_block.proofs.ArrayLaws.{first_block_of-end, block_of_arrays}
use Rattle.tide_plain.specs.stored.Stored.{Stored}
use Rattle.tide_plain.specs.declared.statuses.ArrayStatus.{ArrayStatus}
use Rattle.tide_plain.specs.declared.statuses.ArrayStatus.TheVariants.{Free, Live, Spent}
use Rattle.tide_plain.specs.statuses.Statuses.{status_of}
use Rattle.tide_plain.specs.stored.Stored.{live_cell}
use Rattle.tide_plain.specs.stored.Contents.{state_of, stored_at, IsStored}

-- what a search through the numbers from `first` on and below `end` answers: the first that passes, or none where all
-- fail
abbrev pub IsFirstFound : (ℕ → Type 0) → (ℕ → Type 0) → ℕ → ℕ → Option ℕ → Type 0
IsFirstFound Passes Fails first end found =
    MatchOption found ((n : ℕ) → first ≤ n → n < end → Fails n) (λ i. (first ≤ i) × (i < end) × Passes i × ((n : ℕ) → first ≤ n → n < i → Fails n))

-- such an answer, from what is told of it
pub found-told : (Passes Fails : ℕ → Type 0) (first end : ℕ) (found : Option ℕ) → IfSome found (λ i. first ≤ i) → IfSome found (λ i. i < end) → IfSome found Passes →
    IfSome found (λ i. (n : ℕ) → first ≤ n → n < i → Fails n) → IfNone found ((n : ℕ) → first ≤ n → n < end → Fails n) → IsFirstFound Passes Fails first end found
found-told Passes Fails first end None from below passes lowest full = full
found-told Passes Fails first end (Some i) from below passes lowest full = (from, below, passes, lowest)

-- what holds of each number that passes holds of the one that is found
pub found-holds : (Passes Fails Q : ℕ → Type 0) (first end : ℕ) (found : Option ℕ) → IsFirstFound Passes Fails first end found →
    ((n : ℕ) → first ≤ n → n < end → Passes n → Q n) → IfSome found Q
found-holds Passes Fails Q first end None is each = tt
found-holds Passes Fails Q first end (Some i) is each = each i is.0 is.1 is.2

-- it is the lowest of those that don't fail
pub found-lowest : (Passes Fails Q : ℕ → Type 0) (first end : ℕ) (found : Option ℕ) → IsFirstFound Passes Fails first end found →
    ((n : ℕ) → Q n → (first ≤ n) × (Fails n → ⊥)) → IfSome found (λ i. (other : ℕ) → Q other → i ≤ other)
found-lowest Passes Fails Q first end None is each = tt
found-lowest Passes Fails Q first end (Some i) is each = λ other holds. elim (cases_lt other i) [
  | inl before ↦ absurd ((each other holds).1 (is.3 other (each other holds).0 before))
  | inr after ↦ after
]

-- where none is found all fail
pub found-none : (Passes Fails : ℕ → Type 0) (P : Type 0) (first end : ℕ) (found : Option ℕ) → IsFirstFound Passes Fails first end found →
    (((n : ℕ) → first ≤ n → n < end → Fails n) → P) → IfNone found P
found-none Passes Fails P first end None is follows = follows is
found-none Passes Fails P first end (Some i) is follows = tt

-- behind the last cell of a class
abbrev pub last_cell_of : Layout → ℕ → ℕ
last_cell_of layout class = first_cell_of layout class + 64 * blocks_of layout class

-- behind the last array of a class
abbrev pub last_array_of : Layout → ℕ → ℕ
last_array_of layout class = first_array_of layout class + 64 * blocks_of layout class

-- the cells of a class are cells of the layout
pub cells_of_class-end : (layout : Layout) (class : ℕ) → IsWithinLimits layout → class < 5 → last_cell_of layout class ≤ cell_count layout
cells_of_class-end layout class limits few =
    let next = first_block_of-next layout class in
    let later = rising-le (first_block_of layout) (first_block_of-rises layout) (class + 1) 5 (omega (arith, few)) in
    let all = first_block_of-arrays layout 5 limits.five_cell_classes (omega arith) in
    omega (arith, next, later, all)

-- the arrays of a class are arrays of the layout
pub arrays_of_class-end : (layout : Layout) (class : ℕ) → IsWithinLimits layout → 5 ≤ class → class < 10 → last_array_of layout class ≤ array_count layout
arrays_of_class-end layout class limits large few =
    let begins = first_block_of-arrays layout class limits.five_cell_classes large in
    let next = first_block_of-next layout class in
    let later = rising-le (first_block_of layout) (first_block_of-rises layout) (class + 1) 10 (omega (arith, few)) in
    let ends = first_block_of-end layout limits.five_cell_classes limits.five_array_classes in
    omega (arith, begins, next, later, ends)

-- a block of a class of arrays has arrays of the class
pub array_of_class-between : (layout : Layout) (class array : ℕ) → IsWithinLimits layout → 5 ≤ class → IsBlockOf layout class (block_of_array layout array) →
    (first_array_of layout class ≤ array) × (array < last_array_of layout class)
array_of_class-between layout class array limits large of =
    let begins = first_block_of-arrays layout class limits.five_cell_classes large in
    (omega (arith, begins, of.from), omega (arith, begins, of.below))

-- where each cell of a class is live, each block of the class is full
pub cells_of_class-full : (contents : Stored) (class : ℕ) → IsStored contents → class < 5 →
    ((cell : ℕ) → first_cell_of contents.layout class ≤ cell → cell < last_cell_of contents.layout class → get_or contents.are_live cell false ≡ true) →
    (block : ℕ) → IsBlockOf contents.layout class block → IsFullBlock contents.layout (state_of contents) block
cells_of_class-full contents class stored few all block of =
    let within = block_of_cells contents.layout class block stored.limits.five_cell_classes few of in
    record {
      cells = λ cell below in_block.
          ap (λ (flag : Bool). is_free (if flag then live_cell contents.shapes contents.elements (stored_at contents cell) else blank_cell free).status)
          (all cell (omega (arith, of.from, in_block)) (omega (arith, of.below, in_block)));
      arrays = λ array below in_block. absurd (omega (arith, within, in_block));
    }

-- an array that isn't stored as free isn't free
not_free : (status : ArrayStatus) → status ≢ Free → is_free (status_of status) ≡ false
not_free Free other = absurd (other refl)
not_free Live other = refl
not_free Spent other = refl

stored_as_free : (status : ArrayStatus) → status_of status ≡ free → status ≡ Free
stored_as_free Free h = refl
stored_as_free Live h = absurd (cc)
stored_as_free Spent h = absurd (cc)

-- where no array of a class is free, each block of the class is full
pub arrays_of_class-full : (contents : Stored) (class : ℕ) → IsStored contents → 5 ≤ class → class < 10 →
    ((array : ℕ) → first_array_of contents.layout class ≤ array → array < last_array_of contents.layout class → get_or contents.statuses array Free ≢ Free) →
    (block : ℕ) → IsBlockOf contents.layout class block → IsFullBlock contents.layout (state_of contents) block
arrays_of_class-full contents class stored large few all block of =
    let within = block_of_arrays contents.layout class block stored.limits.five_cell_classes stored.limits.five_array_classes large few of in
    let begins = first_block_of-arrays contents.layout class stored.limits.five_cell_classes large in
    record {
      cells = λ cell below in_block. absurd (omega (arith, within.0, in_block));
      arrays = λ array below in_block. not_free (get_or contents.statuses array Free)
          (all array (omega (arith, begins, of.from, in_block)) (omega (arith, begins, of.below, in_block)));
    }

-- an array of a class that is stored as free is a free array of the class, and no other is
pub IsFreeArrayOf-stored : (contents : Stored) (class array : ℕ) → IsStored contents → 5 ≤ class →
    first_array_of contents.layout class ≤ array → array < last_array_of contents.layout class → get_or contents.statuses array Free ≡ Free →
    IsFreeArrayOf contents.layout (state_of contents) class array
IsFreeArrayOf-stored contents class array stored large from below is_free =
    let begins = first_block_of-arrays contents.layout class stored.limits.five_cell_classes large in
    record {
      of_class = record { from = omega (arith, begins, from); below = omega (arith, begins, below) };
      is_free = ap status_of is_free;
    }

pub array_is-free : (contents : Stored) (class array : ℕ) → IsStored contents → 5 ≤ class → IsFreeArrayOf contents.layout (state_of contents) class array →
    (first_array_of contents.layout class ≤ array) × (get_or contents.statuses array Free ≢ Free → ⊥)
array_is-free contents class array stored large is = (
  let between = array_of_class-between contents.layout class array stored.limits large is.of_class in between.0,
  λ other. other (stored_as_free (get_or contents.statuses array Free) is.is_free),
)

-- a free cell of a class isn't stored as live
pub cell_is-free : (contents : Stored) (class cell : ℕ) → IsFreeCellOf contents.layout (state_of contents) class cell →
    (first_cell_of contents.layout class ≤ cell) × (get_or contents.are_live cell false ≡ true → ⊥)
cell_is-free contents class cell is = (
  omega (arith, is.of_class.from),
  λ is_live. let clash : live ≡ free =
      ap (λ (flag : Bool). (if flag then live_cell contents.shapes contents.elements (stored_at contents cell) else blank_cell free).status) (sym is_live) ∙ is.is_free in cc,
)
