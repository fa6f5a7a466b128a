-- Each slot, each element and each register has an index of its own in its region.
use Rattle.std.proofs.Common.{ℕ, zero, suc, ◌≡◌, ◌+◌, ◌/◌, ◌%◌, ◌<◌, ◌≤◌, ◌∙◌, refl, ap, arith, inl, inr, sym}
use Rattle.std.proofs.lemmas.Bool.{and_from, and_left, and_right, cases_eq, cases_order, eq-eqb, ne_eqb}
use Rattle.std.specs.Prelude.{◌==◌, ◌&&◌}
use Rattle.std.proofs.lemmas.Nat.{div-mul-add, mod-mul-add, mul-add-lt}
use Rattle.std.proofs.Math.Nat.{mul_comm}
use Rattle.tide_model.specs.Layout.{Layout, cell_count, array_count}
use Rattle.tide_layout.specs.declared.region.Region.TheVariants.{Registers, Slots, Elements}
use Rattle.tide_layout.specs.Region.{index_of_register, place_of_element, place_of_slot, size_of, word_count}
use Rattle.tide_layout.specs.Slots.{total_below, width_of_cell, width_of_array, words_before_cell, words_before_array, index_of_slot, index_of_element, HasSlot, HasElement}
use Rattle.tide_layout.proofs.Places.{place_in-below, place_in-other_index}

-- what a number adds is in the sum below each later one
pub total_below-later : (f : ℕ → ℕ) (one later : ℕ) → one < later → total_below f one + f one ≤ total_below f later
total_below-later f one zero before = absurd (omega arith)
total_below-later f one (suc later) before = elim (cases_eq one later) [
  | inl same ↦ (let at = ap (λ (n : ℕ). total_below f n + f n) same in omega (arith, at))
  | inr other ↦ (let earlier = total_below-later f one later (nearer one later before other) in omega (arith, earlier))
]
  where
    nearer : (a b : ℕ) → a < suc b → (a ≡ b → ⊥) → a < b
    nearer a b below other = elim (cases_order a b) [
      | inl same ↦ absurd (other same)
      | inr ordered ↦ elim ordered [ inl less ↦ less | inr more ↦ absurd (omega arith) ]
    ]

-- two numbers of one place, where each number has a width, are the same
total_below-alone : (f : ℕ → ℕ) (one other k j : ℕ) → k < f one → j < f other →
    total_below f other + j ≡ total_below f one + k → (other ≡ one) × (j ≡ k)
total_below-alone f one other k j in_one in_other same = elim (cases_order other one) [
  | inl equal ↦ (equal, (let at = ap (total_below f) equal in omega (arith, at)))
  | inr ordered ↦ elim ordered [
    | inl before ↦ (let ends = total_below-later f other one before in absurd (omega (arith, ends)))
    | inr after ↦ (let ends = total_below-later f one other after in absurd (omega (arith, ends)))
  ]
]

-- the test of two places, where equal places have equal pairs of numbers
pairs_equal : (place : ℕ → ℕ → ℕ) (one other k j : ℕ) → (place one k ≡ place other j → (one ≡ other) × (k ≡ j)) →
    (place one k == place other j) ≡ ((one == other) && (k == j))
pairs_equal place one other k j alone = elim (cases_eq (place one k) (place other j)) [
  | inl same ↦
      let both = alone same in
      eq-eqb (place one k) (place other j) same ∙ sym (and_from (one == other) (k == j) (eq-eqb one other both.0) (eq-eqb k j both.1))
  | inr apart ↦
      ne_eqb (place one k) (place other j) apart ∙ sym (elim (cases_eq one other) [
        | inl same_one ↦ and_right (one == other) (k == j)
            (ne_eqb k j (λ (same_k : k ≡ j). apart (ap (λ (n : ℕ). place n k) same_one ∙ ap (place other) same_k)))
        | inr other_one ↦ and_left (one == other) (k == j) (ne_eqb one other other_one)
      ])
]

-- a slot lies among the words of all cells
pub index_of_slot-below : (layout : Layout) (cell slot : ℕ) → HasSlot layout cell slot → index_of_slot layout cell slot < size_of layout Slots
unfolding index_of_slot words_before_cell
index_of_slot-below layout cell slot has =
    let ends = total_below-later (width_of_cell layout) cell (cell_count layout) has.cell_within in
    let within = has.slot_within in
    omega (arith, ends, within)

-- an element lies among the words of all arrays
pub index_of_element-below : (layout : Layout) (array element : ℕ) → HasElement layout array element → index_of_element layout array element < size_of layout Elements
unfolding index_of_element words_before_array
index_of_element-below layout array element has =
    let ends = total_below-later (width_of_array layout) array (array_count layout) has.array_within in
    let within = has.element_within in
    omega (arith, ends, within)

-- no two slots share an index
pub index_of_slot-alone : (layout : Layout) (cell other slot at : ℕ) → slot < width_of_cell layout cell → at < width_of_cell layout other →
    index_of_slot layout other at ≡ index_of_slot layout cell slot → (other ≡ cell) × (at ≡ slot)
unfolding index_of_slot words_before_cell
index_of_slot-alone layout cell other slot at in_one in_other same =
    total_below-alone (width_of_cell layout) cell other slot at in_one in_other same

-- no two elements share an index
pub index_of_element-alone : (layout : Layout) (array other element at : ℕ) → element < width_of_array layout array → at < width_of_array layout other →
    index_of_element layout other at ≡ index_of_element layout array element → (other ≡ array) × (at ≡ element)
unfolding index_of_element words_before_array
index_of_element-alone layout array other element at in_one in_other same =
    total_below-alone (width_of_array layout) array other element at in_one in_other same

-- the index of a slot, as the words before its cell and its number
pub index_of_slot-is : (layout : Layout) (cell slot : ℕ) → index_of_slot layout cell slot ≡ words_before_cell layout cell + slot
unfolding index_of_slot
index_of_slot-is layout cell slot = refl

-- the index of an element, as the words before its array and its number
pub index_of_element-is : (layout : Layout) (array element : ℕ) → index_of_element layout array element ≡ words_before_array layout array + element
unfolding index_of_element
index_of_element-is layout array element = refl

-- no two slots share a place
pub place_of_slot-alone : (layout : Layout) (cell other slot at : ℕ) → slot < width_of_cell layout cell → at < width_of_cell layout other →
    place_of_slot layout other at ≡ place_of_slot layout cell slot → (other ≡ cell) × (at ≡ slot)
place_of_slot-alone layout cell other slot at in_one in_other same =
    index_of_slot-alone layout cell other slot at in_one in_other
    (place_in-other_index layout Slots (index_of_slot layout other at) (index_of_slot layout cell slot) same)

-- no two elements share a place
pub place_of_element-alone : (layout : Layout) (array other element at : ℕ) → element < width_of_array layout array → at < width_of_array layout other →
    place_of_element layout other at ≡ place_of_element layout array element → (other ≡ array) × (at ≡ element)
place_of_element-alone layout array other element at in_one in_other same =
    index_of_element-alone layout array other element at in_one in_other
    (place_in-other_index layout Elements (index_of_element layout other at) (index_of_element layout array element) same)

-- each slot's place is below the number of words
pub place_of_slot-below : (layout : Layout) (cell slot : ℕ) → HasSlot layout cell slot → place_of_slot layout cell slot < word_count layout
place_of_slot-below layout cell slot has = place_in-below layout Slots (index_of_slot layout cell slot) (index_of_slot-below layout cell slot has)

-- each element's place is below the number of words
pub place_of_element-below : (layout : Layout) (array element : ℕ) → HasElement layout array element → place_of_element layout array element < word_count layout
place_of_element-below layout array element has = place_in-below layout Elements (index_of_element layout array element) (index_of_element-below layout array element has)

-- two indices of slots are equal exactly where cell and slot are
pub index_of_slot-equal : (layout : Layout) (cell other slot at : ℕ) → slot < width_of_cell layout cell → at < width_of_cell layout other →
    (index_of_slot layout cell slot == index_of_slot layout other at) ≡ ((cell == other) && (slot == at))
index_of_slot-equal layout cell other slot at in_one in_other =
    pairs_equal (index_of_slot layout) cell other slot at (λ same. index_of_slot-alone layout other cell at slot in_other in_one same)

-- two indices of elements are equal exactly where array and element are
pub index_of_element-equal : (layout : Layout) (array other element at : ℕ) → element < width_of_array layout array → at < width_of_array layout other →
    (index_of_element layout array element == index_of_element layout other at) ≡ ((array == other) && (element == at))
index_of_element-equal layout array other element at in_one in_other =
    pairs_equal (index_of_element layout) array other element at (λ same. index_of_element-alone layout other array at element in_other in_one same)

-- a register lies among the registers of all mutators
pub index_of_register-below : (layout : Layout) (mutator register : ℕ) → mutator < layout.mutators → register < layout.registers →
    index_of_register layout mutator register < size_of layout Registers
index_of_register-below layout mutator register in_mutators in_registers =
    let below = mul-add-lt mutator layout.registers register layout.mutators in_mutators in_registers in
    omega (arith, below, mul_comm layout.registers layout.mutators)

-- no two registers share an index
pub index_of_register-alone : (layout : Layout) (mutator other register at : ℕ) → register < layout.registers → at < layout.registers →
    index_of_register layout other at ≡ index_of_register layout mutator register → (other ≡ mutator) × (at ≡ register)
index_of_register-alone layout mutator other register at in_one in_other same = (
  sym (div-mul-add other layout.registers at in_other) ∙ ap (λ (n : ℕ). n / layout.registers) same ∙ div-mul-add mutator layout.registers register in_one,
  sym (mod-mul-add other layout.registers at in_other) ∙ ap (λ (n : ℕ). n % layout.registers) same ∙ mod-mul-add mutator layout.registers register in_one,
)

-- two indices of registers are equal exactly where mutator and register are
pub index_of_register-equal : (layout : Layout) (mutator other register at : ℕ) → register < layout.registers → at < layout.registers →
    (index_of_register layout mutator register == index_of_register layout other at) ≡ ((mutator == other) && (register == at))
index_of_register-equal layout mutator other register at in_one in_other =
    pairs_equal (index_of_register layout) mutator other register at (λ same. index_of_register-alone layout other mutator at register in_other in_one same)
