-- Store private array word: the claimer of a cell loads or stores an element of its array, or of one that was just
-- taken.
use Rattle.std.specs.Prelude.{ℕ, ◌≡◌, ◌≤◌, ◌<◌, ◌∷◌, [], if◌then◌else◌, length, ◌⊎◌, Contains, Option, None, Some, true}
use Rattle.tide_words.specs.tide_layout.Slots.{index_of_element, HasElement}
use Rattle.tide_core.specs.machine.Duties.{is_growing}
use Rattle.tide_core.specs.machine.May.{RunsAsMutator, MayCall, called, barrier_for}
use Rattle.tide_core.specs.machine.Owed.{Owes, owed_word, without_word, owed_register, filled_register}
use Rattle.tide_core.specs.machine.Words.{value_of, cell_named, count_of}
use Rattle.tide_core.specs.machine.World.{World}
use Rattle.tide_core.specs.declared.machine.view.View.{View}
use Rattle.tide_model.specs.Applied.{place_of}
use Rattle.tide_model.specs.History.{state_after}
use Rattle.tide_model.specs.Layout.{Layout}
use Rattle.tide_model.specs.Refused.{ShapeLists}
use Rattle.tide_model.specs.State.{State}
use Rattle.tide_model.specs.declared.op.Op.{Op}
use Rattle.tide_model.specs.declared.op.Op.TheVariants.{GetProp, SetProp}
use Rattle.tide_model.specs.declared.op.Reply.TheVariants.{Done, Seen}
use Rattle.tide_model.specs.declared.val.Val.TheVariants.{Cell}
use Rattle.tide_words.specs.forms.Reference.{array_word}
use Rattle.tide_words.specs.forms.ValueWord.{val_word}
use Rattle.tide_words.specs.tide_layout.declared.region.Region.TheVariants as region
use Rattle.tide_core.specs.declared.machine.view.Growth.TheVariants as growth

-- an element's word is known, but for one that a growth copies; or GetProp saw its value
abbrev pub element_view : Layout → ℕ → ℕ → ℕ → ℕ → Option Op → View → View
element_view layout me array place read None v =
    if is_growing v.growth then v
    else record v { known = owed_word region.Elements (index_of_element layout array place) read ∷ v.known }
element_view layout me array place read (Some op) v =
    called (owed_register layout me (filled_register op) (value_of read)) v

-- an element's word is owed no more and known, or SetProp made a link, whose barrier is owed
abbrev pub stored_element_view : Layout → State → ℕ → ℕ → ℕ → ℕ → Option Op → View → View
stored_element_view layout state me array place word None v = record v {
  owed = without_word region.Elements (index_of_element layout array place) v.owed;
  known = owed_word region.Elements (index_of_element layout array place) word
      ∷ without_word region.Elements (index_of_element layout array place) v.known;
}
stored_element_view layout state me array place word (Some (SetProp src key val)) v = record (called [] v) {
  duty = barrier_for (cell_named (state.registers me src)) word;
}
stored_element_view layout state me array place word (Some _) v = v

-- the element is of the array of a cell that the mutator claims
pub record IsOwnElement (layout : Layout) (w : World) (me array place : ℕ) : Type 0 where
  pub cell : ℕ
  pub claimed : Contains ((state_after layout w.log).claims me) cell
  pub is_array : ((state_after layout w.log).cells cell).array ≡ Some array
  pub has : HasElement layout array place

-- the word is that of one of the mutator's registers
pub record IsOwnValue (layout : Layout) (w : World) (me word : ℕ) : Type 0 where
  pub active : (state_after layout w.log).active me ≡ true
  pub register : ℕ
  pub is_word : word ≡ val_word ((state_after layout w.log).registers me register)

-- A growth that fills its array copies this element: it is one of the array that the cell's word names still, and of
-- the properties that the structure's word tells.
pub record CopiesElement (layout : Layout) (w : World) (me array place : ℕ) : Type 0 where
  pub cell : ℕ
  pub taken : ℕ
  pub old : ℕ
  pub next : ℕ
  pub stage : (w.part me).growth ≡ growth.Filling cell taken old next
  pub named : w.heap region.Array cell ≡ array_word (Some array)
  pub within : place < count_of old

-- GetProp sees the property of the key
pub record SeesProperty (layout : Layout) (shapes : ShapeLists) (w : World) (me array place read dst src key : ℕ)
    : Type 0 where
  pub own : IsOwnElement layout w me array place
  pub source : (state_after layout w.log).registers me src ≡ Cell own.cell
  pub is_place : place ≡ place_of ((state_after layout w.log).cells own.cell).keys key
  pub may : MayCall layout shapes w me (GetProp dst src key) (Seen (value_of read)) None

-- SetProp stores the property of the key
pub record SetsProperty (layout : Layout) (shapes : ShapeLists) (w : World) (me array place word src key val : ℕ)
    : Type 0 where
  pub own : IsOwnElement layout w me array place
  pub source : (state_after layout w.log).registers me src ≡ Cell own.cell
  pub is_place : place ≡ place_of ((state_after layout w.log).cells own.cell).keys key
  pub is_word : word ≡ val_word ((state_after layout w.log).registers me val)
  pub may : MayCall layout shapes w me (SetProp src key val) Done None

-- an element is loaded, and GetProp sees it
abbrev pub MayLoadElement : Layout → ShapeLists → World → ℕ → ℕ → ℕ → ℕ → Option Op → Type 0
MayLoadElement layout shapes w me array place read None =
    RunsAsMutator layout w me
    × ((IsOwnElement layout w me array place × ((w.part me).growth ≡ growth.Nothing) × ((w.part me).owed ≡ []))
    ⊎ CopiesElement layout w me array place)
MayLoadElement layout shapes w me array place read (Some (GetProp dst src key)) =
    SeesProperty layout shapes w me array place read dst src key
MayLoadElement layout shapes w me array place read (Some _) = ⊥

-- a growth stores an element that it owes, of a property of the cell
pub record PaysElement (layout : Layout) (w : World) (me array place word : ℕ) : Type 0 where
  pub runner : RunsAsMutator layout w me
  pub own : IsOwnElement layout w me array place
  pub owed : Owes (w.part me) region.Elements (index_of_element layout array place) word
  pub within : place < length ((state_after layout w.log).cells own.cell).keys

-- a mutator that owes nothing stores the value of a register past the cell's keys, where it says nothing yet
pub record StoresPastKeys (layout : Layout) (w : World) (me array place word : ℕ) : Type 0 where
  pub runner : RunsAsMutator layout w me
  pub own : IsOwnElement layout w me array place
  pub grows_not : (w.part me).growth ≡ growth.Nothing
  pub owes_not : (w.part me).owed ≡ []
  pub value : IsOwnValue layout w me word
  pub past : length ((state_after layout w.log).cells own.cell).keys ≤ place

-- an element is stored that is owed, past the keys, or by SetProp
abbrev pub MayStoreElement : Layout → ShapeLists → World → ℕ → ℕ → ℕ → ℕ → Option Op → Type 0
MayStoreElement layout shapes w me array place word None =
    PaysElement layout w me array place word ⊎ StoresPastKeys layout w me array place word
MayStoreElement layout shapes w me array place word (Some (SetProp src key val)) =
    SetsProperty layout shapes w me array place word src key val
MayStoreElement layout shapes w me array place word (Some _) = ⊥
