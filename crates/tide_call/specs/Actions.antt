-- What a call is to do.
use Rattle.std.specs.Prelude.{ℕ, ◌≡◌, ◌⊎◌, Bool, true, false, nat_le, List, [], ◌∷◌, ◌++◌, length, Option, None, Some}
use Rattle.tide_words.specs.tide_layout.Slots.{HasElement, HasSlot}
use Rattle.tide_model.specs.declared.op.Op.{Op}
use Rattle.tide_model.specs.declared.op.Op.TheVariants.{Alloc, Table, Get, Put, Move, Set, Drop, Claim, Release, Unclaim, Add, GetProp, SetProp, StrongSet, StrongGet, WeakSet, WeakGet, PairSet, PairGet, PairDel, Group, Collect, Retire}
use Rattle.tide_model.specs.declared.val.Val.{Val}
use Rattle.tide_model.specs.declared.val.Val.TheVariants.{Cell, Int, Empty}
use Rattle.tide_model.specs.Answer.{next_array_class}
use Rattle.tide_model.specs.Applied.{is_array_full, place_of}
use Rattle.tide_model.specs.Refused.{claims_most, refusal_of, table_class}
use Rattle.tide_model.specs.State.{State}
use Rattle.tide_words.specs.heap.Heap.{Heap}
use Rattle.tide_words.specs.heap.Reading.{IsPairOf, slot_word}
use Rattle.tide_call.specs.declared.action.Addition.{Addition}
use Rattle.tide_call.specs.declared.action.Action.{Action}
use Rattle.tide_call.specs.declared.action.Action.TheVariants as action
use Rattle.tide_call.specs.Callers.{Planner}
use Rattle.tide_call.specs.CallWords.{HasPairAt, IsPlaceFor}
use Rattle.tide_call.specs.ShapeWord.{IsShapeWord}

-- the addition of a key to a cell: from its shape to that with the key, beside so many properties that it has
pub record IsAddition (caller : Planner) (state : State) (key : ℕ) (addition : Addition) : Type 0 where
  pub before : IsShapeWord caller.shapes (state.cells addition.cell).keys addition.shape
  pub after : IsShapeWord caller.shapes ((state.cells addition.cell).keys ++ key ∷ []) addition.next
  pub is_count : addition.count ≡ length (state.cells addition.cell).keys

-- the cell's array has an element for one more property
pub record HasRoomIn (caller : Planner) (state : State) (cell array : ℕ) : Type 0 where
  pub is_its : (state.cells cell).array ≡ Some array
  pub has : HasElement caller.layout array (length (state.cells cell).keys)
  pub not_full : is_array_full (state.cells cell) ≡ false

-- the cell needs an array of this class for one more property, in place of the one that it has, if it has one
pub record NeedsArray (state : State) (cell class : ℕ) (array : Option ℕ) : Type 0 where
  pub is_its : (state.cells cell).array ≡ array
  pub full : is_array_full (state.cells cell) ≡ true
  pub is_class : class ≡ next_array_class state cell

-- what is to be done for an addition, by the room in the cell's array
abbrev pub DoesAdd : Planner → State → Addition → Val → Action → Type 0
DoesAdd caller state addition value does =
    ((array : ℕ) × HasRoomIn caller state addition.cell array × (does ≡ action.Append addition array value))
    ⊎ ((class : ℕ) × (array : Option ℕ) × NeedsArray state addition.cell class array
    × (does ≡ action.Grow addition array class value))

-- what an operation is to do that nothing refuses; of a claim it is said apart, since others' claims may refuse it
abbrev pub DoesSo : Planner → Heap → State → Op → Action → Type 0
DoesSo caller heap state (Alloc dst class) does = does ≡ action.Allocate dst class
DoesSo caller heap state (Table dst) does = does ≡ action.Allocate dst table_class
DoesSo caller heap state (Get dst src slot) does =
    (cell : ℕ) × (state.registers caller.who src ≡ Cell cell) × HasSlot caller.layout cell slot
    × (does ≡ action.LoadSlot dst cell slot)
DoesSo caller heap state (Put src slot val) does =
    (cell : ℕ) × (state.registers caller.who src ≡ Cell cell) × HasSlot caller.layout cell slot
    × (does ≡ action.StoreSlot cell slot (state.registers caller.who val))
DoesSo caller heap state (Move dst src) does = does ≡ action.Fill dst (state.registers caller.who src)
DoesSo caller heap state (Set dst n) does = does ≡ action.Fill dst (Int n)
DoesSo caller heap state (Drop dst) does = does ≡ action.Fill dst Empty
DoesSo caller heap state (Claim src) does = ⊥
DoesSo caller heap state (Release src) does =
    (cell : ℕ) × (state.registers caller.who src ≡ Cell cell) × (does ≡ action.Release cell)
DoesSo caller heap state Unclaim does =
    (cell : ℕ) × (others : List ℕ) × (caller.claims ≡ cell ∷ others) × (does ≡ action.Release cell)
DoesSo caller heap state (Add src key val) does =
    (addition : Addition) × (state.registers caller.who src ≡ Cell addition.cell)
    × IsAddition caller state key addition × DoesAdd caller state addition (state.registers caller.who val) does
DoesSo caller heap state (GetProp dst src key) does =
    (cell : ℕ) × (array : ℕ) × (state.registers caller.who src ≡ Cell cell) × ((state.cells cell).array ≡ Some array)
    × HasElement caller.layout array (place_of (state.cells cell).keys key)
    × (does ≡ action.LoadElement dst array (place_of (state.cells cell).keys key))
DoesSo caller heap state (SetProp src key val) does =
    (cell : ℕ) × (array : ℕ) × (state.registers caller.who src ≡ Cell cell) × ((state.cells cell).array ≡ Some array)
    × HasElement caller.layout array (place_of (state.cells cell).keys key)
    × (does ≡ action.StoreElement cell array (place_of (state.cells cell).keys key) (state.registers caller.who val))
DoesSo caller heap state (StrongSet at val) does = does ≡ action.StoreStrong at (state.registers caller.who val)
DoesSo caller heap state (StrongGet dst at) does = does ≡ action.LoadStrong dst at
DoesSo caller heap state (WeakSet at val) does = does ≡ action.StoreWeak at (state.registers caller.who val)
DoesSo caller heap state (WeakGet dst at) does = does ≡ action.LoadWeak dst at
DoesSo caller heap state (PairSet src key val) does =
    (table : ℕ) × (cell : ℕ) × (place : ℕ) × (state.registers caller.who src ≡ Cell table)
    × (state.registers caller.who key ≡ Cell cell) × HasSlot caller.layout table place
    × IsPlaceFor caller.layout heap state table place cell
    × (does ≡ action.StorePair table place cell (state.registers caller.who val))
DoesSo caller heap state (PairGet dst src key) does =
    (table : ℕ) × (cell : ℕ) × (place : ℕ) × (value : Val) × (state.registers caller.who src ≡ Cell table)
    × (state.registers caller.who key ≡ Cell cell) × HasSlot caller.layout table place
    × IsPairOf cell value (slot_word caller.layout heap table place) × ((state.cells table).pairs cell ≡ Some value)
    × (does ≡ action.Show dst table place value)
DoesSo caller heap state (PairDel src key) does =
    (table : ℕ) × (cell : ℕ) × (place : ℕ) × (state.registers caller.who src ≡ Cell table)
    × (state.registers caller.who key ≡ Cell cell) × HasSlot caller.layout table place
    × HasPairAt caller.layout heap table place cell × (does ≡ action.ClearPair table place)
DoesSo caller heap state (Group src n) does =
    (cell : ℕ) × (state.registers caller.who src ≡ Cell cell) × (does ≡ action.Join cell n)
DoesSo caller heap state Collect does = does ≡ action.Ask
DoesSo caller heap state Retire does = does ≡ action.Retire

-- the caller's registers and claims alone tell what a call of the operation is to do, as far as own words do
abbrev pub is_told_by_registers : Op → Bool
is_told_by_registers (Add src key val) = false
is_told_by_registers (GetProp dst src key) = false
is_told_by_registers (SetProp src key val) = false
is_told_by_registers (PairSet src key val) = false
is_told_by_registers (PairGet dst src key) = false
is_told_by_registers (PairDel src key) = false
is_told_by_registers _ = true

-- The action says what a call comes to: the first refusal that its mutator's own words tell, and else what it is to do.
-- A claim is refused by its register alone: whose claim the cell is, is no word of the caller's own.
abbrev pub IsAction : Planner → Heap → State → Op → Action → Type 0
IsAction caller heap state op (action.Refuse refusal) =
    refusal_of caller.layout caller.shapes state caller.who op ≡ Some refusal
IsAction caller heap state (Claim src) (action.Claim cell full) =
    (state.registers caller.who src ≡ Cell cell) × (full ≡ nat_le claims_most (length caller.claims))
IsAction caller heap state op does =
    (refusal_of caller.layout caller.shapes state caller.who op ≡ None) × DoesSo caller heap state op does
