-- Take free bit, of an array: a growth begins, and owes the barrier, the new array's words, the array and the
-- structure.
use Rattle.std.specs.Int.{bit_at}
use Rattle.std.specs.Prelude.{ℕ, ◌≡◌, ◌+◌, ◌*◌, ◌-◌, ◌<◌, ◌≤◌, ◌∷◌, ◌++◌, [], suc, Contains, List, length, ◌==◌, if◌then◌else◌, Option, None, Some}
use Rattle.tide_call.specs.ShapeWord.{IsShapeWord, whole_word}
use Rattle.tide_words.specs.tide_layout.Region.{cell_block_count}
use Rattle.tide_core.specs.machine.May.{RunsAsMutator, MayCall, barrier_for}
use Rattle.tide_core.specs.machine.Owed.{owed_word, owed_elements, Knows}
use Rattle.tide_core.specs.machine.Words.{cell_named}
use Rattle.tide_core.specs.machine.World.{World}
use Rattle.tide_core.specs.declared.machine.view.View.{View}
use Rattle.tide_core.specs.machine.kinds.LoadFree.{looked_view}
use Rattle.tide_model.specs.History.{state_after}
use Rattle.tide_model.specs.Layout.{Layout}
use Rattle.tide_model.specs.Refused.{ShapeLists}
use Rattle.tide_model.specs.State.{State}
use Rattle.tide_model.specs.declared.entry.Event.{Event}
use Rattle.tide_model.specs.declared.op.Op.{Op}
use Rattle.tide_model.specs.declared.op.Op.TheVariants.{Add}
use Rattle.tide_model.specs.declared.op.Reply.TheVariants.{Done}
use Rattle.tide_model.specs.declared.val.Val.{Val}
use Rattle.tide_model.specs.declared.val.Val.TheVariants.{Cell}
use Rattle.tide_words.specs.forms.Reference.{array_word}
use Rattle.tide_words.specs.forms.ValueWord.{val_word}
use Rattle.tide_words.specs.tide_layout.declared.region.Region.TheVariants as region
use Rattle.tide_core.specs.declared.machine.view.Growth.TheVariants as growth

-- the array of a block of arrays that has this bit
abbrev pub array_at : Layout → ℕ → ℕ → ℕ
array_at layout block k = 64 * (block - cell_block_count layout) + k

-- the properties of a cell with one more at their end
abbrev pub properties_with : State → ℕ → Val → ℕ → Val
properties_with state cell value place =
    if place == length (state.cells cell).keys then value else (state.cells cell).properties place

-- the view in the growth of a cell's array
abbrev pub grown_view : Layout → State → ℕ → ℕ → Val → ℕ → ℕ → View → View
grown_view layout state cell array value old next v = record v {
  owed = owed_word region.Structure cell next ∷ owed_word region.Array cell (array_word (Some array))
      ∷ owed_elements layout (properties_with state cell value) array (suc (length (state.cells cell).keys));
  growth = growth.Filling cell array old next;
  duty = barrier_for cell (val_word value);
  known = [];
  full = [];
}

-- the array is taken, or the take was lost and is one that looked
abbrev pub array_view : Layout → List Event → State → ℕ → ℕ → ℕ → ℕ → ℕ → Option Op → ℕ → View → View
array_view layout log state me block k old next None read v = v
array_view layout log state me block k old next (Some (Add src key val)) read v =
    if bit_at read k == 1 then
    grown_view layout state (cell_named (state.registers me src)) (array_at layout block k) (state.registers me val)
    old next v
    else looked_view log block read v
array_view layout log state me block k old next (Some _) read v = v

-- Add takes an array of the next class for a cell that the mutator claims, and knows the structure's word, and the next
-- one: that of the keys with one more.
pub record TakesArray (layout : Layout) (shapes : ShapeLists) (w : World) (me block k old next src key val : ℕ) : Type 0
  where
    pub is_block : cell_block_count layout ≤ block
    pub cell : ℕ
    pub claimed : Contains ((state_after layout w.log).claims me) cell
    pub source : (state_after layout w.log).registers me src ≡ Cell cell
    pub knows : Knows (w.part me) region.Structure cell old
    pub shape : ℕ
    pub is_shape : IsShapeWord shapes (((state_after layout w.log).cells cell).keys ++ key ∷ []) shape
    pub is_word : next ≡ whole_word shape (length ((state_after layout w.log).cells cell).keys + 1)
    pub may : MayCall layout shapes w me (Add src key val) Done (Some (array_at layout block k))

-- a free bit of a block of arrays is cleared by Add
abbrev pub MayTakeArray : Layout → ShapeLists → World → ℕ → ℕ → ℕ → ℕ → ℕ → ℕ → Option Op → Type 0
MayTakeArray layout shapes w me block k old next read (Some (Add src key val)) =
    RunsAsMutator layout w me × (k < 64)
    × (bit_at read k ≡ 1 → TakesArray layout shapes w me block k old next src key val)
MayTakeArray layout shapes w me block k old next read _ = ⊥
