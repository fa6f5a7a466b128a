-- What a mutator knows before it takes the array of a growth, and what the take leaves.
use Rattle.std.specs.Prelude.{ℕ, suc, ◌≡◌, ◌+◌, ◌<◌, ◌^◌, List, ◌∷◌, slice_index, Contains, Option, None, Some}
use Rattle.tide_mutator.specs.owed.Calling.{IsCalling}
use Rattle.tide_mutator.specs.owed.Made.{IsMade, shown}
use Rattle.tide_mutator.specs.owed.Replacing.{grown_out}
use Rattle.tide_mutator.specs.owed.Standing.{IsPlanned}
use Rattle.tide_heap.specs.tide_call.ShapeWord.{whole_word}
use Rattle.tide_heap.specs.tide_call.declared.action.Action.{Action}
use Rattle.tide_heap.specs.tide_call.declared.action.Action.TheVariants as action
use Rattle.tide_mutator.specs.declared.owed.growth.Growth.{Growth}
use Rattle.tide_heap.specs.tide_layout.Slots.{HasElement, index_of_element}
use Rattle.tide_heap.specs.tide_layout.declared.region.Region.TheVariants as region
use Rattle.tide_heap.specs.tide_core.machine.May.{barrier_for}
use Rattle.tide_heap.specs.tide_core.machine.Owed.{Knows, owed_elements, owed_word}
use Rattle.tide_heap.specs.tide_core.declared.machine.view.Growth.TheVariants as growing
use Rattle.tide_heap.specs.tide_core.declared.machine.view.Owed.{Owed}
use Rattle.tide_heap.specs.tide_core.declared.machine.view.View.{View}
use Rattle.tide_model.specs.Layout.{Layout, cell_count}
use Rattle.tide_model.specs.Refused.{ShapeLists}
use Rattle.tide_model.specs.declared.op.Op.{Op}
use Rattle.tide_model.specs.declared.op.Reply.TheVariants.{Done}
use Rattle.tide_model.specs.declared.val.Val.{Val}
use Rattle.tide_heap.specs.tide_words.forms.Reference.{array_word}
use Rattle.tide_heap.specs.tide_words.forms.ValueWord.{val_word}
use Rattle.tide_heap.specs.tide_call.Needed.{MayGrow}

-- the action of the growth
abbrev pub action_of : Growth → Action
action_of growth = action.Grow growth.addition growth.array growth.class growth.value

-- the view knows more words, and nothing else of it changed but the word found last
pub record HasRead (v u : View) : Type 0 where
  pub known : List Owed
  pub found : ℕ
  pub is : u ≡ record v { known = known; found = found }
  pub more : (word : Owed) → Contains v.known word → Contains known word

-- the view knows that these words stand in the first elements of the array, if there is one
abbrev pub KnowsElements : Layout → View → Option ℕ → List ℕ → ℕ → Type 0
KnowsElements layout v array words count =
    (source place : ℕ) → array ≡ Some source → place < count →
    Knows v region.Elements (index_of_element layout source place) (slice_index words place)

-- A mutator is about to make the call with this growth. It knows the structure's word, and its cell's array has an
-- element for each property that the cell has.
pub record IsReady (layout : Layout) (shapes : ShapeLists) (v : View) (op : Op) (growth : Growth) : Type 0 where
  pub calling : IsCalling layout v op
  pub planned : IsPlanned layout shapes v op (action_of growth)
  pub may : MayGrow layout growth.addition growth.array growth.class
  pub knows : Knows v region.Structure growth.addition.cell growth.old
  pub small : growth.old + 1 < 2 ^ 64
  pub next : growth.next ≡ whole_word growth.addition.next (growth.addition.count + 1)
  pub has : (source place : ℕ) → growth.array ≡ Some source → place < growth.addition.count →
      HasElement layout source place

-- The call has its entry, with the take of this array. It owes the structure's word, the array's, and those of as many
-- elements as there are properties: what the old array held, as far as the view knew it, and the value.
pub record HasTaken (layout : Layout) (shapes : ShapeLists) (op : Op) (growth : Growth) (v u : View) (taken : ℕ)
    : Type 0 where
  pub made : IsMade layout shapes op (action_of growth) Done v (shown (grown_out u))
  pub stage : u.growth ≡ growing.Filling growth.addition.cell taken growth.old growth.next
  pub duty : u.duty ≡ barrier_for growth.addition.cell (val_word growth.value)
  pub has : HasElement layout taken growth.addition.count
  pub properties : ℕ → Val
  pub owed : u.owed ≡ owed_word region.Structure growth.addition.cell growth.next
      ∷ owed_word region.Array growth.addition.cell (array_word (Some taken))
      ∷ owed_elements layout properties taken (suc growth.addition.count)
  pub copied : (source place word : ℕ) → growth.array ≡ Some source → place < growth.addition.count →
      Knows v region.Elements (index_of_element layout source place) word → word ≡ val_word (properties place)
  pub bare : growth.array ≡ None → growth.addition.count ≡ 0
  pub last : properties growth.addition.count ≡ growth.value

-- It has taken the array of this bit, counted from that of the first cell on: arrays come after all cells.
pub record HasTakenBit (layout : Layout) (shapes : ShapeLists) (op : Op) (growth : Growth) (v u : View) (bit : ℕ)
    : Type 0 where
  pub array : ℕ
  pub is_bit : bit ≡ cell_count layout + array
  pub has : HasTaken layout shapes op growth v u array
