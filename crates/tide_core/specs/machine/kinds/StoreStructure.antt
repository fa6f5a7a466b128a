-- Store structure: a growth stores its cell's new structure, or Add does where the array has room; the claimer of a
-- cell loads its structure's word.
use Rattle.std.specs.Prelude.{ℕ, ◌≡◌, ◌+◌, ◌∷◌, ◌++◌, [], length, Contains, Option, None, Some}
use Rattle.tide_call.specs.ShapeWord.{whole_word, IsShapeWord}
use Rattle.tide_words.specs.tide_layout.Slots.{index_of_element}
use Rattle.tide_core.specs.machine.May.{RunsAsMutator, MayCall, called, barrier_for}
use Rattle.tide_core.specs.machine.Owed.{Knows, owed_word, without_word}
use Rattle.tide_core.specs.machine.World.{World}
use Rattle.tide_core.specs.declared.machine.view.View.{View}
use Rattle.tide_model.specs.History.{state_after}
use Rattle.tide_model.specs.Layout.{Layout}
use Rattle.tide_model.specs.Refused.{ShapeLists}
use Rattle.tide_model.specs.State.{State}
use Rattle.tide_model.specs.declared.op.Op.{Op}
use Rattle.tide_model.specs.declared.op.Op.TheVariants.{Add}
use Rattle.tide_model.specs.declared.op.Reply.TheVariants.{Done}
use Rattle.tide_model.specs.declared.val.Val.TheVariants.{Cell}
use Rattle.tide_words.specs.forms.ValueWord.{val_word}
use Rattle.tide_words.specs.tide_layout.declared.region.Region.TheVariants as region
use Rattle.tide_core.specs.declared.machine.view.Growth.TheVariants as growth

-- the growth is over, or Add made a link whose barrier is owed
abbrev pub structured_view : State → ℕ → ℕ → Option Op → View → View
structured_view state me cell None v =
    record v { growth = growth.Nothing; owed = without_word region.Structure cell v.owed; known = [] }
structured_view state me cell (Some (Add src key val)) v =
    record (called [] v) { duty = barrier_for cell (val_word (state.registers me val)) }
structured_view state me cell (Some _) v = v

-- the structure's word is known
abbrev pub own_structure_view : ℕ → ℕ → View → View
own_structure_view cell read v = record v { known = owed_word region.Structure cell read ∷ v.known }

-- the growth has stored its array, and this is the structure's word that it owes
pub record PaysStructure (layout : Layout) (w : World) (me cell word : ℕ) : Type 0 where
  pub runner : RunsAsMutator layout w me
  pub array : ℕ
  pub old : ℕ
  pub stage : (w.part me).growth ≡ growth.Stored cell array old word

-- Add stores the structure with one key more, where its array has room and has the value by now
pub record AddsInPlace (layout : Layout) (shapes : ShapeLists) (w : World) (me cell word src key val : ℕ) : Type 0 where
  pub claimed : Contains ((state_after layout w.log).claims me) cell
  pub source : (state_after layout w.log).registers me src ≡ Cell cell
  pub array : ℕ
  pub is_array : ((state_after layout w.log).cells cell).array ≡ Some array
  pub stored : Knows (w.part me) region.Elements
      (index_of_element layout array (length ((state_after layout w.log).cells cell).keys))
      (val_word ((state_after layout w.log).registers me val))
  pub shape : ℕ
  pub is_shape : IsShapeWord shapes (((state_after layout w.log).cells cell).keys ++ key ∷ []) shape
  pub is_word : word ≡ whole_word shape (length ((state_after layout w.log).cells cell).keys + 1)
  pub may : MayCall layout shapes w me (Add src key val) Done None

-- a structure's word is stored by a growth or by Add
abbrev pub MayStoreStructure : Layout → ShapeLists → World → ℕ → ℕ → ℕ → Option Op → Type 0
MayStoreStructure layout shapes w me cell word None = PaysStructure layout w me cell word
MayStoreStructure layout shapes w me cell word (Some (Add src key val)) =
    AddsInPlace layout shapes w me cell word src key val
MayStoreStructure layout shapes w me cell word (Some _) = ⊥
