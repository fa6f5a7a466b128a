-- The array of a cell stands where nobody owes a word of it.
use Rattle.std.proofs.Common.{◌≢◌, inl, inr, ℕ, ◌≡◌, ◌+◌, ◌<◌, ◌≤◌, refl, sym, ◌∙◌, subst, length, ap}
use Rattle.tide_words.specs.tide_layout.Slots.{HasElement, index_of_element}
use Rattle.tide_words.specs.tide_layout.declared.region.Region.TheVariants as region
use Rattle.tide_core.proofs.machine_laws.steps.ArraysKept.{array_read, bare_read}
use Rattle.tide_core.proofs.machine_laws.steps.Unsettled.{settled_array, settled_element, settled_structure}
use Rattle.tide_core.specs.machine.Owed.{Owes}
use Rattle.tide_core.specs.machine.Words.{count_of}
use Rattle.tide_core.specs.declared.machine.view.View.{View}
use Rattle.tide_core.specs.machine.points.Arrays.{ArrayStands}
use Rattle.tide_core.specs.machine.points.SettledWords.{RunningWordsRead}
use Rattle.tide_core.specs.machine.points.Sweeps.{SweepsAreNamed}
use Rattle.tide_model.specs.Layout.{Layout}
use Rattle.tide_model.specs.References.{IsLive, RefsAreLive}
use Rattle.tide_model.specs.Refused.{ShapeLists}
use Rattle.tide_model.specs.State.{State, dead}
use Rattle.tide_words.specs.heap.Heap.{Heap}

pub array_settled : (layout : Layout) (shapes : ShapeLists) (heap : Heap) (part : ℕ → View) (state : State)
    (words : RunningWordsRead layout shapes heap part state) → RefsAreLive state → (cell array : ℕ) →
    IsLive state cell → heap region.Array cell ≡ array + 1 →
    ((p word : ℕ) → Owes (part p) region.Structure cell word → ⊥) →
    ((p word : ℕ) → Owes (part p) region.Array cell word → ⊥) →
    ((place p word : ℕ) → HasElement layout array place →
    Owes (part p) region.Elements (index_of_element layout array place) word → ⊥) →
    SweepsAreNamed layout heap part state →
    ArrayStands layout heap state cell array
array_settled layout shapes heap part state words refs cell array alive is no_structure no_array no_element named = record {
  own = s.own;
  few = subst (λ (word : ℕ). count_of word ≤ length (state.cells cell).keys) (sym structure) s.few;
  room = λ place below. s.room place (told place below);
  named = λ place below. s.named place (told place below)
      ∙ sym (words.same region.Elements (index_of_element layout array place) refl (λ p word.
      no_element place p word (s.room place (told place below)))
      (settled_element layout shapes heap part state words named array place (s.room place (told place below)) used));
}
  where
    structure : heap region.Structure cell ≡ words.settled region.Structure cell
    structure = words.same region.Structure cell refl no_structure
        (settled_structure layout shapes heap part state words named cell (λ is. absurd (cc)))

    s : ArrayStands layout words.settled state cell array
    s = array_read layout shapes words.settled state words.reads refs cell array alive
        (sym (words.same region.Array cell refl no_array
        (settled_array layout shapes heap part state words named cell (λ is. absurd (cc)))) ∙ is)

    used : state.arrays array ≢ dead
    used gone = elim s.own [
      | inl mine ↦ (let other = mine.0 in absurd (cc))
      | inr replaced ↦ absurd (cc)
    ]

    told : (place : ℕ) → place < count_of (heap region.Structure cell) →
        place < count_of (words.settled region.Structure cell)
    told place below = subst (λ (word : ℕ). place < count_of word) structure below

-- and a cell without an array has no property that its structure's word tells
pub bare_settled : (layout : Layout) (shapes : ShapeLists) (heap : Heap) (part : ℕ → View) (state : State)
    (words : RunningWordsRead layout shapes heap part state) → (cell : ℕ) → IsLive state cell →
    heap region.Array cell ≡ 0 → ((p word : ℕ) → Owes (part p) region.Structure cell word → ⊥) →
    ((p word : ℕ) → Owes (part p) region.Array cell word → ⊥) → SweepsAreNamed layout heap part state →
    count_of (heap region.Structure cell) ≡ 0
bare_settled layout shapes heap part state words cell alive none no_structure no_array named =
    ap count_of (words.same region.Structure cell refl no_structure
    (settled_structure layout shapes heap part state words named cell (λ is. absurd (cc))))
    ∙ bare_read layout shapes words.settled state words.reads cell alive
    (sym (words.same region.Array cell refl no_array
    (settled_array layout shapes heap part state words named cell (λ is. absurd (cc)))) ∙ none)
