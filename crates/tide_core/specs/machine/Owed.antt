-- Words that one participant alone changes: those that it still owes, and those that it knows.
use Rattle.std.specs.Prelude.{ℕ, zero, suc, ◌≡◌, ◌<◌, Bool, true, List, [], ◌∷◌, ◌==◌, ◌&&◌, not, filter, Contains, Option, None, Some, if◌then◌else◌}
use Rattle.tide_words.specs.tide_layout.Region.{tag, index_of_register}
use Rattle.tide_words.specs.tide_layout.Slots.{index_of_slot, index_of_element, HasSlot, HasElement}
use Rattle.tide_words.specs.tide_layout.declared.region.Region.{Region}
use Rattle.tide_words.specs.tide_layout.declared.region.Region.TheVariants as region
use Rattle.tide_core.specs.declared.machine.view.Owed.{Owed}
use Rattle.tide_core.specs.declared.machine.view.Sweeping.{Sweeping}
use Rattle.tide_core.specs.declared.machine.view.View.{View}
use Rattle.tide_model.specs.Layout.{Layout}
use Rattle.tide_model.specs.Refused.{is_table}
use Rattle.tide_model.specs.State.{State}
use Rattle.tide_model.specs.declared.op.Op.{Op}
use Rattle.tide_model.specs.declared.op.Op.TheVariants as op
use Rattle.tide_model.specs.declared.val.Val.{Val}
use Rattle.tide_words.specs.forms.ValueWord.{val_word}

-- this word at this place
abbrev pub owed_word : Region → ℕ → ℕ → Owed
owed_word at index word = record { region = at; index = index; word = word }

-- the owed word is at this place
abbrev pub is_at : Region → ℕ → Owed → Bool
is_at at index owed = (tag owed.region == tag at) && (owed.index == index)

-- all words but those at this place
abbrev pub without_word : Region → ℕ → List Owed → List Owed
without_word at index owed = filter (λ o. not (is_at at index o)) owed

-- the view names a word that its call has still to store
abbrev pub Owes : View → Region → ℕ → ℕ → Type 0
Owes v at index word = Contains v.owed (owed_word at index word)

-- the view knows that this word stands there
abbrev pub Knows : View → Region → ℕ → ℕ → Type 0
Knows v at index word = Contains v.known (owed_word at index word)

-- The words that differ from what the store has there while a block is swept: those that were zeroed, until the block's
-- bits are given, and from then on the word of its dead bits.
abbrev pub unsettled : Option Sweeping → List Owed
unsettled None = []
unsettled (Some s) = if s.given then owed_word region.Dead s.block 0 ∷ [] else s.zeroed

-- the view's sweep has the word differ
abbrev pub Unsettles : View → Region → ℕ → ℕ → Type 0
Unsettles v at index word = Contains (unsettled v.sweeping) (owed_word at index word)

-- The word is one that this mutator alone may store: its register's, the structure's or the array's of a cell that it
-- claims, a pair's of a table that it claims, or an element's of such a cell's array.
pub data IsOwnWord (layout : Layout) (state : State) (p : ℕ) : Region → ℕ → Type 0 where
  own_register : (register : ℕ) → p < layout.mutators → register < layout.registers →
      IsOwnWord layout state p region.Registers (index_of_register layout p register)
  own_structure : (cell : ℕ) → Contains (state.claims p) cell → IsOwnWord layout state p region.Structure cell
  own_array : (cell : ℕ) → Contains (state.claims p) cell → IsOwnWord layout state p region.Array cell
  own_pair : (table place : ℕ) → Contains (state.claims p) table → is_table layout table ≡ true →
      HasSlot layout table place → IsOwnWord layout state p region.Slots (index_of_slot layout table place)
  own_element : (cell array place : ℕ) → Contains (state.claims p) cell → (state.cells cell).array ≡ Some array →
      HasElement layout array place → IsOwnWord layout state p region.Elements (index_of_element layout array place)

-- the register that an operation fills
abbrev pub filled_register : Op → Option ℕ
filled_register (op.Alloc dst class) = Some dst
filled_register (op.Table dst) = Some dst
filled_register (op.Get dst src slot) = Some dst
filled_register (op.GetProp dst src key) = Some dst
filled_register (op.StrongGet dst at) = Some dst
filled_register (op.WeakGet dst at) = Some dst
filled_register (op.PairGet dst src key) = Some dst
filled_register _ = None

-- the word of such a register, which is owed once the call was answered with this value
abbrev pub owed_register : Layout → ℕ → Option ℕ → Val → List Owed
owed_register layout who None value = []
owed_register layout who (Some register) value =
    owed_word region.Registers (index_of_register layout who register) (val_word value) ∷ []

-- the words of a new array that a growth has to store: those of the first properties, the last of them first
abbrev pub owed_elements : Layout → (ℕ → Val) → ℕ → ℕ → List Owed
owed_elements layout properties array zero = []
owed_elements layout properties array (suc n) =
    owed_word region.Elements (index_of_element layout array n) (val_word (properties n))
    ∷ owed_elements layout properties array n
