-- Points on growths of arrays, which change several words of a cell one after another.
use Rattle.std.specs.Prelude.{ℕ, ◌≡◌, ◌+◌, ◌≤◌, true, false, Contains, Some}
use Rattle.tide_words.specs.tide_layout.declared.region.Region.TheVariants as region
use Rattle.tide_core.specs.machine.Duties.{GrowsAndOwes}
use Rattle.tide_core.specs.machine.Owed.{Owes}
use Rattle.tide_core.specs.machine.Scanning.{property}
use Rattle.tide_core.specs.machine.Words.{count_of, is_nuked, nuked_word}
use Rattle.tide_core.specs.declared.machine.view.Growth.{Growth}
use Rattle.tide_core.specs.declared.machine.view.Growth.TheVariants as growth
use Rattle.tide_core.specs.declared.machine.view.View.{View}
use Rattle.tide_core.specs.machine.points.Links.{LinkAt}
use Rattle.tide_model.specs.Layout.{Layout}
use Rattle.tide_model.specs.State.{State}
use Rattle.tide_words.specs.forms.Reference.{array_word}
use Rattle.tide_words.specs.heap.Heap.{Heap}
use Rattle.tide_words.specs.marking.Colours.{is_marking}

-- In a growth of a cell's array the claim is held, and the array is the one that was taken. The structure's word stands
-- by the stage, and the next is owed.
pub record GrowthOn (heap : Heap) (state : State) (p : ℕ) (v : View) (cell array old new word : ℕ) : Type 0 where
  pub claimed : Contains (state.claims p) cell
  pub has : (state.cells cell).array ≡ Some array
  pub stands : heap region.Structure cell ≡ word
  pub even : is_nuked old ≡ false
  pub fresh : is_nuked new ≡ false
  pub more : count_of new ≡ count_of old + 1
  pub owes : Owes v region.Structure cell new

-- the view owes no element of an array
abbrev pub OwesNoElement : View → Type 0
OwesNoElement v = (index word : ℕ) → Owes v region.Elements index word → ⊥

-- What is known at each stage: until the array is stored, its word is owed too, and once the structure is nuked, no
-- element is.
abbrev pub GrowthKnows : Heap → State → ℕ → View → Growth → Type 0
GrowthKnows heap state p v growth.Nothing = Unit {0}
GrowthKnows heap state p v (growth.Filling cell array old new) =
    GrowthOn heap state p v cell array old new old × Owes v region.Array cell (array_word (Some array))
GrowthKnows heap state p v (growth.Nuked cell array old new) =
    GrowthOn heap state p v cell array old new (nuked_word old) × Owes v region.Array cell (array_word (Some array))
    × OwesNoElement v
GrowthKnows heap state p v (growth.Stored cell array old new) =
    GrowthOn heap state p v cell array old new (nuked_word old) × (heap region.Array cell ≡ array_word (Some array))
    × OwesNoElement v

-- what is known at its stage is so of each growth
pub record GrowthsAreRight (heap : Heap) (part : ℕ → View) (state : State) : Type 0 where
  pub knows : (p : ℕ) → GrowthKnows heap state p (part p) (part p).growth

-- while a cycle marks, a link of a property that the structure's word doesn't tell yet is one of a growth, which owes
-- the barrier
pub record RunningGrowthIsOwed (layout : Layout) (heap : Heap) (part : ℕ → View) (state : State) : Type 0 where
  pub beyond : is_marking heap ≡ true → (source n cell : ℕ) → LinkAt state source (property n) cell →
      count_of (heap region.Structure source) ≤ n → (p : ℕ) × GrowsAndOwes (part p) source
