-- Arrays stand for their cells where a reading says them, and while the words and the cells that they tell of stay.
use Rattle.std.proofs.Common.{ℕ, ◌≡◌, ◌+◌, ◌<◌, ◌≤◌, ◌⊎◌, sym, ◌∙◌, ap, subst, arith, List, inl, inr, Some, None, Option, length}
use Rattle.std.proofs.lemmas.Bool.{cases_eq}
use Rattle.tide_words.specs.tide_layout.Slots.{HasElement, index_of_element}
use Rattle.tide_words.specs.tide_layout.declared.region.Region.TheVariants as region
use Rattle.tide_core.specs.machine.Words.{count_of}
use Rattle.tide_core.specs.machine.points.Arrays.{ArraysStand, ArrayStands}
use Rattle.tide_model.specs.Layout.{Layout, cell_count}
use Rattle.tide_model.specs.References.{IsLive, RefsAreLive}
use Rattle.tide_model.specs.Refused.{ShapeLists}
use Rattle.tide_model.specs.State.{State, is_free}
use Rattle.tide_model.specs.declared.val.Val.{Val}
use Rattle.tide_words.proofs.heap_laws.ReadingLaws.{live_within}
use Rattle.tide_words.specs.forms.Reference.{array_word}
use Rattle.tide_words.specs.forms.ValueWord.{val_word}
use Rattle.tide_words.specs.heap.Heap.{Heap}
use Rattle.tide_words.specs.heap.Reading.{ReadsAs, TakenReads}

-- the words of cells and arrays stay, and so do the cells that are live, with their keys and properties
pub arrays_kept : (layout : Layout) (old new : Heap) (before after : State) →
    ((c : ℕ) → new region.Structure c ≡ old region.Structure c) → ((c : ℕ) → new region.Array c ≡ old region.Array c) →
    ((index : ℕ) → new region.Elements index ≡ old region.Elements index) →
    ((array : ℕ) → after.arrays array ≡ before.arrays array) →
    ((c array : ℕ) → IsLive after c → new region.Array c ≡ array + 1 → IsLive before c ×
    ((after.cells c).keys ≡ (before.cells c).keys) × ((after.cells c).properties ≡ (before.cells c).properties) ×
    ((after.cells c).array ≡ (before.cells c).array)) →
    ((c : ℕ) → IsLive after c → new region.Array c ≡ 0 →
    IsLive before c ⊎ (count_of (new region.Structure c) ≡ 0)) →
    ArraysStand layout old before → ArraysStand layout new after
arrays_kept layout old new before after structure array elements status cells bare stands =
    record {
      stand = stand;
      bare = λ cell alive none. elim (bare cell alive none) [
        | inl was ↦ ap count_of (structure cell) ∙ stands.bare cell was (sym (array cell) ∙ none)
        | inr zero ↦ zero
      ];
    }
  where
    stand : (cell a : ℕ) → IsLive after cell → new region.Array cell ≡ a + 1 → ArrayStands layout new after cell a
    stand cell a alive is =
        let was = cells cell a alive is in
        let s = stands.stand cell a was.0 (sym (array cell) ∙ is) in
        record {
          own = elim s.own [
            | inl mine ↦ inl (status a ∙ mine.0, was.3 ∙ mine.1)
            | inr replaced ↦ inr (status a ∙ replaced)
          ];
          few = subst (λ (keys : List ℕ). count_of (new region.Structure cell) ≤ length keys) (sym was.1)
              (subst (λ (word : ℕ). count_of word ≤ length (before.cells cell).keys) (sym (structure cell)) s.few);
          room = λ place below. s.room place (told place below);
          named = λ place below. ap (λ (f : ℕ → Val). val_word (f place)) was.2 ∙ s.named place (told place below)
              ∙ sym (elements (index_of_element layout a place));
        }
      where
        told : (place : ℕ) → place < count_of (new region.Structure cell) → place < count_of (old region.Structure cell)
        told place below = subst (λ (word : ℕ). place < count_of word) (structure cell) below

-- a reading says that a live cell without an array has no property
pub bare_read : (layout : Layout) (shapes : ShapeLists) (heap : Heap) (state : State) →
    ReadsAs layout shapes heap state → (cell : ℕ) → IsLive state cell → heap region.Array cell ≡ 0 →
    count_of (heap region.Structure cell) ≡ 0
bare_read layout shapes heap state reads cell alive none = elim (cases_eq (length (state.cells cell).keys) 0) [
  | inl no_key ↦ (let word = taken.keys.is_word in let few = taken.keys.few_keys in omega (arith, word, few, no_key))
  | inr some ↦
      let (a, its, has, value) = (reads.parts.cells cell within).properties alive 0 (omega (arith, some)) in
      let word = sym taken.array ∙ none in
      let named = ap array_word its in
      absurd (omega (arith, word, named))
]
  where
    within : cell < cell_count layout
    within = live_within layout shapes heap state cell reads alive

    taken : TakenReads layout shapes heap cell (state.cells cell)
    taken = (reads.parts.cells cell within).taken (ap is_free alive)

-- and what the array of one holds
pub array_read : (layout : Layout) (shapes : ShapeLists) (heap : Heap) (state : State) →
    ReadsAs layout shapes heap state → RefsAreLive state → (cell array : ℕ) → IsLive state cell →
    heap region.Array cell ≡ array + 1 → ArrayStands layout heap state cell array
array_read layout shapes heap state reads refs cell array alive is = record {
  own = inl (refs.arrays_are_live cell array alive has_array, has_array);
  few = (let c = count_is in omega (arith, c));
  room = λ place below. (property_stands place below).0;
  named = λ place below. (property_stands place below).1;
}
  where
    within : cell < cell_count layout
    within = live_within layout shapes heap state cell reads alive

    has_array : (state.cells cell).array ≡ Some array
    has_array = by_option (state.cells cell).array
        (sym ((reads.parts.cells cell within).taken (ap is_free alive)).array ∙ is)
      where
        by_option : (o : Option ℕ) → array_word o ≡ array + 1 → o ≡ Some array
        by_option None e = absurd (omega (arith, e))
        by_option (Some a) e = ap (λ (x : ℕ). Some x) (omega (arith, e))

    count_is : count_of (heap region.Structure cell) ≡ length (state.cells cell).keys
    count_is =
        let keys = ((reads.parts.cells cell within).taken (ap is_free alive)).keys in
        let word = keys.is_word in
        let few = keys.few_keys in
        omega (arith, word, few)

    property_stands : (place : ℕ) → place < count_of (heap region.Structure cell) → HasElement layout array place ×
        (val_word ((state.cells cell).properties place) ≡ heap region.Elements (index_of_element layout array place))
    property_stands place below =
        let (a, its, has, value) = (reads.parts.cells cell within).properties alive place
        (let c = count_is in omega (arith, below, c)) in
        let both = sym its ∙ has_array in
        let same : a ≡ array = cc in
        subst (λ (x : ℕ). HasElement layout x place ×
        (val_word ((state.cells cell).properties place) ≡ heap region.Elements (index_of_element layout x place))) same
        (has, value.is_word)

pub arrays_read : (layout : Layout) (shapes : ShapeLists) (heap : Heap) (state : State) →
    ReadsAs layout shapes heap state → RefsAreLive state → ArraysStand layout heap state
arrays_read layout shapes heap state reads refs = record {
  stand = array_read layout shapes heap state reads refs;
  bare = bare_read layout shapes heap state reads;
}
