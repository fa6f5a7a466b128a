-- What carrying out an action needs of the words.
use Rattle.std.specs.Prelude.{ℕ, ◌≡◌, ◌<◌, ◌≤◌, ◌^◌, Option, Some, IfSome}
use Rattle.tide_words.specs.tide_layout.declared.region.Region.TheVariants.{Claim as ClaimRegion, Strong, Weak}
use Rattle.tide_words.specs.tide_layout.Slots.{HasElement, HasSlot, width_of_class}
use Rattle.tide_model.specs.declared.val.Val.{Val}
use Rattle.tide_model.specs.Layout.{Layout, array_count, cell_count}
use Rattle.tide_words.specs.forms.PairWord.{max_cells}
use Rattle.tide_words.specs.forms.Reference.{claim_word}
use Rattle.tide_words.specs.heap.Heap.{Heap}
use Rattle.tide_words.specs.heap.Reading.{IsValueOf, element_word, slot_word}
use Rattle.tide_call.specs.declared.action.Addition.{Addition}
use Rattle.tide_call.specs.declared.action.Action.{Action}
use Rattle.tide_call.specs.declared.action.Action.TheVariants as action

-- the word is that of some value
abbrev pub IsSomeValue : ℕ → Type 0
IsSomeValue word = (value : Val) × IsValueOf value word

-- the word is that of a claim, or of none
abbrev pub IsSomeClaim : ℕ → Type 0
IsSomeClaim word = (holder : Option ℕ) × ((by : ℕ) → holder ≡ Some by → by < 2 ^ 32) × (word ≡ claim_word holder)

-- the array has an element for the property that is added
pub record HasRoomFor (layout : Layout) (addition : Addition) (array : ℕ) : Type 0 where
  pub cell_within : addition.cell < cell_count layout
  pub few : addition.count < 64
  pub element : HasElement layout array addition.count

-- an array of the class has an element for the property that is added, and the cell's array, if it has one, is one of
-- the layout
pub record MayGrow (layout : Layout) (addition : Addition) (array : Option ℕ) (class : ℕ) : Type 0 where
  pub cell_within : addition.cell < cell_count layout
  pub few : addition.count < 64
  pub smallest : 5 ≤ class
  pub largest : class < 10
  pub holds : addition.count < width_of_class class
  pub array_within : IfSome array (λ from. from < array_count layout)

-- the action's numbers are those of the layout, and the words that it loads are of some value
abbrev pub FitsAction : Layout → Heap → Action → Type 0
FitsAction layout heap (action.Refuse refusal) = Unit {0}
FitsAction layout heap (action.Allocate dst class) = (dst < layout.registers) × (class < 5)
FitsAction layout heap (action.LoadSlot dst cell slot) =
    (dst < layout.registers) × HasSlot layout cell slot × IsSomeValue (slot_word layout heap cell slot)
FitsAction layout heap (action.StoreSlot cell slot value) = HasSlot layout cell slot
FitsAction layout heap (action.Fill dst value) = dst < layout.registers
FitsAction layout heap (action.Show dst table place value) = (dst < layout.registers) × HasSlot layout table place
FitsAction layout heap (action.Claim cell full) = (cell < cell_count layout) × IsSomeClaim (heap ClaimRegion cell)
FitsAction layout heap (action.Release cell) = cell < cell_count layout
FitsAction layout heap (action.LoadElement dst array place) =
    (dst < layout.registers) × HasElement layout array place × IsSomeValue (element_word layout heap array place)
FitsAction layout heap (action.StoreElement cell array place value) =
    (cell < cell_count layout) × HasElement layout array place
FitsAction layout heap (action.Append addition array value) = HasRoomFor layout addition array
FitsAction layout heap (action.Grow addition array class value) = MayGrow layout addition array class
FitsAction layout heap (action.StoreStrong at value) = at < layout.strong
FitsAction layout heap (action.LoadStrong dst at) =
    (dst < layout.registers) × (at < layout.strong) × IsSomeValue (heap Strong at)
FitsAction layout heap (action.StoreWeak at value) = at < layout.weak
FitsAction layout heap (action.LoadWeak dst at) =
    (dst < layout.registers) × (at < layout.weak) × IsSomeValue (heap Weak at)
FitsAction layout heap (action.StorePair table place key value) = HasSlot layout table place × (key < max_cells)
FitsAction layout heap (action.ClearPair table place) = HasSlot layout table place
FitsAction layout heap (action.Join cell group) = cell < cell_count layout
FitsAction layout heap action.Ask = Unit {0}
FitsAction layout heap action.Retire = Unit {0}
