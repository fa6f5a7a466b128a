-- The words that a growth owes, all stored.
use Rattle.std.proofs.Common.{ℕ, zero, suc, ◌≡◌, ◌<◌, ◌⊎◌, ◌==◌, refl, sym, ◌∙◌, ap, subst, arith, Bool, false, List, [], ◌∷◌, inl, inr, Some}
use Rattle.std.proofs.lemmas.Bool.{cases_Bool, cases_eq, eqb-true, and_parts}
use Rattle.std.proofs.lemmas.List.Elements.{Contains-append_cases, Contains-append_right}
use Rattle.std.specs.Prelude.{Contains, if◌then◌else◌, ◌&&◌}
use Rattle.tide_words.proofs.tide_layout.Places.{tag-injective}
use Rattle.tide_words.proofs.tide_layout.SlotPlaces.{index_of_element-alone}
use Rattle.tide_words.specs.tide_layout.Region.{tag}
use Rattle.tide_words.specs.tide_layout.Slots.{HasElement, index_of_element}
use Rattle.tide_words.specs.tide_layout.declared.region.Region.{Region}
use Rattle.tide_words.specs.tide_layout.declared.region.Region.TheVariants as region
use Rattle.tide_core.proofs.machine_laws.steps.Lists.{nothing_in, in_one}
use Rattle.tide_core.specs.machine.Owed.{owed_word, owed_elements}
use Rattle.tide_core.specs.declared.machine.view.Owed.{Owed}
use Rattle.tide_model.specs.Layout.{Layout}
use Rattle.tide_model.specs.declared.val.Val.{Val}
use Rattle.tide_words.proofs.heap_laws.HeapLaws.{write-same, write-other_index}
use Rattle.tide_words.specs.forms.Reference.{array_word}
use Rattle.tide_words.specs.forms.ValueWord.{val_word}
use Rattle.tide_words.specs.heap.Heap.{Heap, write}

module _ (layout : Layout) (properties : ℕ → Val) (array : ℕ) where
  abbrev place_of_element : ℕ → ℕ
  place_of_element place = index_of_element layout array place

  -- the heap with the first elements stored
  abbrev pub filled : ℕ → Heap → Heap
  filled zero heap = heap
  filled (suc n) heap = write (filled n heap) region.Elements (index_of_element layout array n) (val_word (properties
      n))

  -- a word that is owed is one of them
  pub owed_cases : (n : ℕ) (at : Region) (index x : ℕ) →
      Contains (owed_elements layout properties array n) (owed_word at index x) →
      (place : ℕ) × (place < n)
      × (owed_word region.Elements (index_of_element layout array place) (val_word (properties place))
      ≡ owed_word at index x)
  owed_cases zero at index x is = absurd (nothing_in (owed_word at index x) is)
  owed_cases (suc n) at index x is = elim (Contains-append_cases
      (owed_word region.Elements (index_of_element layout array n) (val_word (properties n)) ∷ [])
      (owed_elements layout properties array n) (owed_word at index x) is) [
        | inl here ↦ (
          n,
          omega arith,
          in_one (owed_word region.Elements (index_of_element layout array n) (val_word (properties n)))
              (owed_word at index x) here,
        )
        | inr before ↦ (let (place, below, same) = owed_cases n at index x before in (
          place,
          omega (arith, below),
          same,
        ))
      ]

  -- and each of them is owed
  pub owed_there : (n place : ℕ) → place < n → Contains (owed_elements layout properties array n)
      (owed_word region.Elements (index_of_element layout array place) (val_word (properties place)))
  owed_there zero place below = absurd (omega (arith, below))
  owed_there (suc n) place below = elim (cases_eq place n) [
    | inl same ↦ subst (λ (p : ℕ). Contains (owed_elements layout properties array (suc n))
        (owed_word region.Elements (index_of_element layout array p) (val_word (properties p)))) (sym same)
        (0, omega arith, refl)
    | inr apart ↦ Contains-append_right
        (owed_word region.Elements (index_of_element layout array n) (val_word (properties n)) ∷ [])
        (owed_elements layout properties array n)
        (owed_word region.Elements (index_of_element layout array place) (val_word (properties place)))
        (owed_there n place (omega (arith, below, apart)))
  ]

  -- a word that is none of them stays
  pub filled_else : (n : ℕ) (heap : Heap) (at : Region) (i : ℕ) →
      ((place : ℕ) → place < n → ((tag at == tag region.Elements) && (i == index_of_element layout array place)) ≡
      false) →
      filled n heap at i ≡ heap at i
  filled_else zero heap at i none = refl
  filled_else (suc n) heap at i none =
      ap (λ (b : Bool). if b then val_word (properties n) else filled n heap at i) (none n (omega arith))
      ∙ filled_else n heap at i (λ place below. none place (omega (arith, below)))

  -- each of them stands
  pub filled_at : (n : ℕ) (heap : Heap) (place : ℕ) → place < n → ((p : ℕ) → p < n → HasElement layout array p) →
      filled n heap region.Elements (index_of_element layout array place) ≡ val_word (properties place)
  filled_at zero heap place below has = absurd (omega (arith, below))
  filled_at (suc n) heap place below has = elim (cases_eq place n) [
    | inl same ↦ ap (λ (p : ℕ). filled (suc n) heap region.Elements (index_of_element layout array p)) same
        ∙ write-same (filled n heap) region.Elements (index_of_element layout array n) (val_word (properties n))
        ∙ ap (λ (p : ℕ). val_word (properties p)) (sym same)
    | inr apart ↦ write-other_index (filled n heap) region.Elements (index_of_element layout array n)
        (index_of_element layout array place) (val_word (properties n)) (λ same.
        apart (index_of_element-alone layout array array n place (has n (omega arith)).element_within
        (has place below).element_within same).1)
        ∙ filled_at n heap place (omega (arith, below, apart)) (λ p less. has p (omega (arith, less)))
  ]

  module _ (cell next n : ℕ) (base : Heap) (has : (p : ℕ) → p < n → HasElement layout array p) where
    -- the debts, and the heap with all stored
    abbrev pub debts : List Owed
    debts = owed_word region.Structure cell next ∷ owed_word region.Array cell (array_word (Some array))
        ∷ owed_elements layout properties array n

    abbrev pub paid : Heap
    paid = write (write (filled n base) region.Array cell (array_word (Some array))) region.Structure cell next

    pub debt_cases : (at : Region) (index x : ℕ) → Contains debts (owed_word at index x) →
        (owed_word region.Structure cell next ≡ owed_word at index x)
        ⊎ (owed_word region.Array cell (array_word (Some array)) ≡ owed_word at index x)
        ⊎ ((place : ℕ) × (place < n)
        × (owed_word region.Elements (index_of_element layout array place) (val_word (properties place))
        ≡ owed_word at index x))
    debt_cases at index x is = elim (Contains-append_cases (owed_word region.Structure cell next ∷ [])
        (owed_word region.Array cell (array_word (Some array)) ∷ owed_elements layout properties array n)
        (owed_word at index x) is) [
          | inl first ↦ inl (in_one (owed_word region.Structure cell next) (owed_word at index x) first)
          | inr rest ↦ inr (elim (Contains-append_cases (owed_word region.Array cell (array_word (Some array)) ∷ [])
              (owed_elements layout properties array n) (owed_word at index x) rest) [
                | inl second ↦ inl (in_one (owed_word region.Array cell (array_word (Some array)))
                    (owed_word at index x) second)
                | inr element ↦ inr (owed_cases n at index x element)
              ])
        ]

    pub paid_stored : (at : Region) (index x : ℕ) → Contains debts (owed_word at index x) → paid at index ≡ x
    paid_stored at index x is = elim (debt_cases at index x is) [
      | inl same ↦ subst (λ (o : Owed). paid o.region o.index ≡ o.word) same
          (write-same (write (filled n base) region.Array cell (array_word (Some array))) region.Structure cell next)
      | inr more ↦ elim more [
        | inl same ↦ subst (λ (o : Owed). paid o.region o.index ≡ o.word) same
            (write-same (filled n base) region.Array cell (array_word (Some array)))
        | inr element ↦ subst (λ (o : Owed). paid o.region o.index ≡ o.word) element.2
            (filled_at n base element.0 element.1 has)
      ]
    ]

    pub paid_else : (at : Region) (index : ℕ) → ((x : ℕ) → Contains debts (owed_word at index x) → ⊥) →
        paid at index ≡ base at index
    paid_else at index none =
        ap (λ (b : Bool). if b then next
        else write (filled n base) region.Array cell (array_word (Some array)) at index) no_structure
        ∙ ap (λ (b : Bool). if b then array_word (Some array) else filled n base at index) no_array
        ∙ filled_else n base at index no_element
      where
        -- where a place is one of these, the word is owed there
        at_place : (there : Region) (i x : ℕ) → Contains debts (owed_word there i x) →
            ((tag at == tag there) && (index == i)) ≡ false
        at_place there i x is = elim (cases_Bool ((tag at == tag there) && (index == i))) [
          | inl both ↦
              let parts = and_parts (tag at == tag there) (index == i) both in
              let r = tag-injective at there (eqb-true (tag at) (tag there) parts.0) in
              let j = eqb-true index i parts.1 in
              absurd (none x (subst (λ (q : Region). Contains debts (owed_word q index x)) (sym r)
              (subst (λ (k : ℕ). Contains debts (owed_word there k x)) (sym j) is)))
          | inr isnt ↦ isnt
        ]

        no_structure : ((tag at == tag region.Structure) && (index == cell)) ≡ false
        no_structure = at_place region.Structure cell next (0, omega arith, refl)

        no_array : ((tag at == tag region.Array) && (index == cell)) ≡ false
        no_array = at_place region.Array cell (array_word (Some array)) (1, omega arith, refl)

        no_element : (place : ℕ) → place < n →
            ((tag at == tag region.Elements) && (index == index_of_element layout array place)) ≡ false
        no_element place below = at_place region.Elements (index_of_element layout array place)
            (val_word (properties place))
            (Contains-append_right (owed_word region.Structure cell next
            ∷ owed_word region.Array cell (array_word (Some array)) ∷ []) (owed_elements layout properties array n)
            (owed_word region.Elements (index_of_element layout array place) (val_word (properties place)))
            (owed_there n place below))
