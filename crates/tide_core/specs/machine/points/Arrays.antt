-- The point on the arrays that the words of cells name, also while an array grows: until the new array is stored, the
-- old one says the properties that the structure's word tells.
use Rattle.std.specs.Prelude.{ℕ, ◌≡◌, ◌<◌, ◌≤◌, length, ◌⊎◌, Some}
use Rattle.tide_words.specs.tide_layout.Slots.{HasElement, index_of_element}
use Rattle.tide_words.specs.tide_layout.declared.region.Region.TheVariants as region
use Rattle.tide_core.specs.machine.Words.{count_of}
use Rattle.tide_model.specs.Layout.{Layout}
use Rattle.tide_model.specs.References.{IsLive}
use Rattle.tide_model.specs.State.{State, live, spent}
use Rattle.tide_words.specs.forms.Reference.{array_word}
use Rattle.tide_words.specs.forms.ValueWord.{val_word}
use Rattle.tide_words.specs.heap.Heap.{Heap}

-- An array stands for a cell: it is the cell's and live, or was replaced and isn't given again. It has room for the
-- properties that the structure's word tells, which are properties of the cell, and says them.
pub record ArrayStands (layout : Layout) (heap : Heap) (state : State) (cell array : ℕ) : Type 0 where
  pub own : ((state.arrays array ≡ live) × ((state.cells cell).array ≡ Some array)) ⊎ (state.arrays array ≡ spent)
  pub few : count_of (heap region.Structure cell) ≤ length (state.cells cell).keys
  pub room : (place : ℕ) → place < count_of (heap region.Structure cell) → HasElement layout array place
  pub named : (place : ℕ) → place < count_of (heap region.Structure cell) →
      val_word ((state.cells cell).properties place) ≡ heap region.Elements (index_of_element layout array place)

-- the array that a live cell's word names stands for the cell; where the word names none, the structure's word tells no
-- property
pub record ArraysStand (layout : Layout) (heap : Heap) (state : State) : Type 0 where
  pub stand : (cell array : ℕ) → IsLive state cell → heap region.Array cell ≡ array_word (Some array) →
      ArrayStands layout heap state cell array
  pub bare : (cell : ℕ) → IsLive state cell → heap region.Array cell ≡ 0 →
      count_of (heap region.Structure cell) ≡ 0
