-- The words that a granted call writes.
use Rattle.std.specs.Prelude.{ℕ, ◌≡◌, ◌≢◌, ◌+◌, ◌%◌, ◌<◌, ◌⊎◌, Bool, true, false, List, [], ◌∷◌, ◌++◌, length, Option, None, Some}
use Rattle.tide_words.specs.tide_layout.declared.region.Region.{Region}
use Rattle.tide_words.specs.tide_layout.declared.region.Region.TheVariants as region
use Rattle.tide_words.specs.tide_layout.Region.{index_of_register}
use Rattle.tide_words.specs.tide_layout.Slots.{HasSlot, index_of_element, index_of_slot}
use Rattle.tide_model.specs.declared.op.Op.{Op}
use Rattle.tide_model.specs.declared.op.Op.TheVariants.{Alloc, Table, Get, Put, Move, Set, Drop, Claim, Release, Unclaim, Add, GetProp, SetProp, StrongSet, StrongGet, WeakSet, WeakGet, PairSet, PairGet, PairDel, Group, Retire}
use Rattle.tide_model.specs.declared.op.Reply.{Reply}
use Rattle.tide_model.specs.declared.op.Reply.TheVariants.{Done, Born, Seen, Refused}
use Rattle.tide_model.specs.declared.val.Val.{Val}
use Rattle.tide_model.specs.declared.val.Val.TheVariants.{Empty, Int, Cell}
use Rattle.tide_model.specs.Applied.{place_of}
use Rattle.tide_model.specs.Layout.{Layout, block_of_cell}
use Rattle.tide_model.specs.Refused.{ShapeLists}
use Rattle.tide_model.specs.State.{State}
use Rattle.tide_words.specs.forms.PairWord.{pair_word}
use Rattle.tide_words.specs.forms.Reference.{claim_word}
use Rattle.tide_words.specs.forms.ValueWord.{val_word}
use Rattle.tide_words.specs.heap.Heap.{Heap, SameIn}
use Rattle.tide_words.specs.heap.Reading.{IsPairOf, slot_word}
use Rattle.tide_words.specs.heap.Written.{IsBitPut, IsWritten}
use Rattle.tide_call.specs.Grown.{IsGrown}
use Rattle.tide_call.specs.ShapeWord.{IsShapeWord, whole_word}

-- a region of which no granted call writes a word, but for colours, grey cells and the reply
abbrev pub is_kept_region : Region → Bool
is_kept_region region.Active = false
is_kept_region region.Registers = false
is_kept_region region.Strong = false
is_kept_region region.Weak = false
is_kept_region region.Structure = false
is_kept_region region.Array = false
is_kept_region region.Claim = false
is_kept_region region.Group = false
is_kept_region region.Slots = false
is_kept_region region.Elements = false
is_kept_region region.Free = false
is_kept_region _ = true

-- no word is written
abbrev pub IsUnwritten : Layout → Heap → Heap → Type 0
IsUnwritten layout old new = (other : Region) → SameIn layout other old new

-- a register is filled
abbrev pub Fills : Layout → Heap → ℕ → ℕ → Val → Heap → Type 0
Fills layout heap who dst value new =
    IsWritten layout heap new region.Registers (index_of_register layout who dst) (val_word value)

-- a cell's free bit is cleared, and a register filled with the cell
abbrev pub Bears : Layout → Heap → ℕ → ℕ → ℕ → Heap → Type 0
Bears layout heap who dst cell new =
    (taken : Heap) × IsBitPut layout heap taken region.Free (block_of_cell cell) (cell % 64) 0
    × Fills layout taken who dst (Cell cell) new

-- a cell has one more property, in its array or in one that was taken
abbrev pub Adds : Layout → ShapeLists → Heap → State → ℕ → ℕ → Val → Option ℕ → Heap → Type 0
Adds layout shapes heap state cell key value None new =
    (array : ℕ) × (shape : ℕ) × (stored : Heap) × ((state.cells cell).array ≡ Some array)
    × IsShapeWord shapes ((state.cells cell).keys ++ key ∷ []) shape
    × IsWritten layout heap stored region.Elements (index_of_element layout array (length (state.cells cell).keys))
    (val_word value)
    × IsWritten layout stored new region.Structure cell (whole_word shape (length (state.cells cell).keys + 1))
Adds layout shapes heap state cell key value (Some taken) new =
    (shape : ℕ) × IsShapeWord shapes ((state.cells cell).keys ++ key ∷ []) shape
    × IsGrown layout heap new cell taken (state.cells cell).array (length (state.cells cell).keys) shape value

-- the word at a place of a table is that of a pair of this key
abbrev pub HasPairAt : Layout → Heap → ℕ → ℕ → ℕ → Type 0
HasPairAt layout heap table place key = (value : Val) × IsPairOf key value (slot_word layout heap table place)

-- no pair stands at a place of a table, and one stands at each place before it
abbrev pub IsFirstEmpty : Layout → Heap → ℕ → ℕ → Type 0
IsFirstEmpty layout heap table place =
    (slot_word layout heap table place ≡ 0)
    × ((earlier : ℕ) → earlier < place → slot_word layout heap table earlier ≢ 0)

-- the place for a pair of a table: the one that its key has, and else the first empty one
abbrev pub IsPlaceFor : Layout → Heap → State → ℕ → ℕ → ℕ → Type 0
IsPlaceFor layout heap state table place key =
    (((state.cells table).pairs key ≡ None) × IsFirstEmpty layout heap table place)
    ⊎ HasPairAt layout heap table place key

-- the new heap is the old one with the words of a granted call, but for those of its colours, grey cells and reply
abbrev pub CallWords : Layout → ShapeLists → Heap → State → ℕ → Op → Reply → Option ℕ → Heap → Type 0
CallWords layout shapes heap state who op (Refused refusal) took new = IsUnwritten layout heap new
CallWords layout shapes heap state who (Alloc dst class) (Born cell) took new = Bears layout heap who dst cell new
CallWords layout shapes heap state who (Table dst) (Born cell) took new = Bears layout heap who dst cell new
CallWords layout shapes heap state who (Get dst src slot) (Seen value) took new = Fills layout heap who dst value new
CallWords layout shapes heap state who (Put src slot val) Done took new =
    (cell : ℕ) × (state.registers who src ≡ Cell cell)
    × IsWritten layout heap new region.Slots (index_of_slot layout cell slot) (val_word (state.registers who val))
CallWords layout shapes heap state who (Move dst src) Done took new =
    Fills layout heap who dst (state.registers who src) new
CallWords layout shapes heap state who (Set dst n) Done took new = Fills layout heap who dst (Int n) new
CallWords layout shapes heap state who (Drop dst) Done took new = Fills layout heap who dst Empty new
CallWords layout shapes heap state who (Claim src) Done took new =
    (cell : ℕ) × (state.registers who src ≡ Cell cell)
    × IsWritten layout heap new region.Claim cell (claim_word (Some who))
CallWords layout shapes heap state who (Release src) Done took new =
    (cell : ℕ) × (state.registers who src ≡ Cell cell)
    × IsWritten layout heap new region.Claim cell (claim_word None)
CallWords layout shapes heap state who Unclaim Done took new =
    (cell : ℕ) × (others : List ℕ) × (state.claims who ≡ cell ∷ others)
    × IsWritten layout heap new region.Claim cell (claim_word None)
CallWords layout shapes heap state who (Add src key val) Done took new =
    (cell : ℕ) × (state.registers who src ≡ Cell cell)
    × Adds layout shapes heap state cell key (state.registers who val) took new
CallWords layout shapes heap state who (GetProp dst src key) (Seen value) took new = Fills layout heap who dst value new
CallWords layout shapes heap state who (SetProp src key val) Done took new =
    (cell : ℕ) × (array : ℕ) × (state.registers who src ≡ Cell cell) × ((state.cells cell).array ≡ Some array)
    × IsWritten layout heap new region.Elements (index_of_element layout array (place_of (state.cells cell).keys key))
    (val_word (state.registers who val))
CallWords layout shapes heap state who (StrongSet at val) Done took new =
    IsWritten layout heap new region.Strong at (val_word (state.registers who val))
CallWords layout shapes heap state who (StrongGet dst at) (Seen value) took new = Fills layout heap who dst value new
CallWords layout shapes heap state who (WeakSet at val) Done took new =
    IsWritten layout heap new region.Weak at (val_word (state.registers who val))
CallWords layout shapes heap state who (WeakGet dst at) (Seen value) took new = Fills layout heap who dst value new
CallWords layout shapes heap state who (PairSet src key val) Done took new =
    (table : ℕ) × (cell : ℕ) × (place : ℕ) × (state.registers who src ≡ Cell table)
    × (state.registers who key ≡ Cell cell) × HasSlot layout table place × IsPlaceFor layout heap state table place cell
    × IsWritten layout heap new region.Slots (index_of_slot layout table place)
    (pair_word cell (state.registers who val))
CallWords layout shapes heap state who (PairGet dst src key) (Seen value) took new = Fills layout heap who dst value new
CallWords layout shapes heap state who (PairDel src key) Done took new =
    (table : ℕ) × (cell : ℕ) × (place : ℕ) × (state.registers who src ≡ Cell table)
    × (state.registers who key ≡ Cell cell) × HasSlot layout table place × HasPairAt layout heap table place cell
    × IsWritten layout heap new region.Slots (index_of_slot layout table place) 0
CallWords layout shapes heap state who (Group src n) Done took new =
    (cell : ℕ) × (state.registers who src ≡ Cell cell) × IsWritten layout heap new region.Group cell n
CallWords layout shapes heap state who Retire Done took new = IsWritten layout heap new region.Active who 0
CallWords layout shapes heap state who op reply took new = IsUnwritten layout heap new
