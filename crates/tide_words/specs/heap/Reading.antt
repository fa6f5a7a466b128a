-- What the words of a heap say of a store.
use Rattle.std.specs.Prelude.{ℕ, ◌≡◌, ◌↔◌, ◌⊎◌, ◌%◌, ◌^◌, ◌<◌, ◌≤◌, ◌==◌, Bool, true, false, List, [], length, slice_get, Contains, Option, Some, None, if◌then◌else◌}
use Rattle.std.specs.Int.{bit_at}
use Rattle.tide_model.specs.declared.val.Val.{Val}
use Rattle.tide_model.specs.declared.val.Val.TheVariants.{Empty}
use Rattle.tide_model.specs.Layout.{Layout, cell_count, array_count, block_of_cell, block_of_array, class_of, slots_of}
use Rattle.tide_model.specs.Refused.{ShapeLists, is_table}
use Rattle.tide_model.specs.State.{CellState, Phase as CyclePhase, State, Status, free, live, dead, spent, is_free, blank_cell}
use Rattle.tide_layout.specs.declared.region.Region.TheVariants.{Phase, Active, Registers, Strong, Weak, Structure, Array, Claim, Group, Slots, Elements, Free, Dead}
use Rattle.tide_words.specs.forms.ColourWord.{phase_of}
use Rattle.tide_words.specs.heap.Heap.{Heap}
use Rattle.tide_words.specs.forms.PairWord.{pair_word, max_cells, IsPairWord}
use Rattle.tide_words.specs.forms.Reference.{array_word, claim_word}
use Rattle.tide_layout.specs.Region.{block_count, index_of_register}
use Rattle.tide_layout.specs.Slots.{index_of_slot, index_of_element, HasSlot, HasElement}
use Rattle.tide_words.specs.forms.StructureWord.{structure_word}
use Rattle.tide_words.specs.forms.ValueWord.{val_word, HasU32}

-- the word is the value's, and the value's number a u32
pub record IsValueOf (value : Val) (word : ℕ) : Type 0 where
  pub number : HasU32 value
  pub is_word : val_word value ≡ word

-- the word is that of this pair
pub record IsPairOf (key : ℕ) (value : Val) (word : ℕ) : Type 0 where
  pub few : key < max_cells
  pub number : HasU32 value
  pub is_word : pair_word key value ≡ word

-- the word is that of a shape with these keys, all of them there, and no transition under way
pub record IsStructureOf (shapes : ShapeLists) (keys : List ℕ) (word : ℕ) : Type 0 where
  pub shape : ℕ
  pub is_shape : slice_get shapes shape ≡ Some keys
  pub few_shapes : shape < 2 ^ 32
  pub few_keys : length keys ≤ 64
  pub is_word : structure_word (record { shape = shape; count = length keys; nuked = false }) ≡ word

-- what the bits of a block's two words say of its k-th cell or array, and what it is where neither is set
abbrev pub status_by : ℕ → ℕ → ℕ → Status → Status
status_by free_word dead_word k otherwise =
    if bit_at free_word k == 1 then free else if bit_at dead_word k == 1 then dead else otherwise

-- what these bits say of a cell
abbrev pub cell_status : Heap → ℕ → Status
cell_status heap cell = status_by (heap Free (block_of_cell cell)) (heap Dead (block_of_cell cell)) (cell % 64) live

-- what these bits say of an array, and what it is where neither is set
abbrev pub array_status : Layout → Heap → ℕ → Status → Status
array_status layout heap array otherwise =
    status_by (heap Free (block_of_array layout array)) (heap Dead (block_of_array layout array)) (array % 64) otherwise

-- a slot's word, or that of a table's pair
abbrev pub slot_word : Layout → Heap → ℕ → ℕ → ℕ
slot_word layout heap cell slot = heap Slots (index_of_slot layout cell slot)

-- the word of an array's element
abbrev pub element_word : Layout → Heap → ℕ → ℕ → ℕ
element_word layout heap array element = heap Elements (index_of_element layout array element)

-- some live cell has the array
abbrev pub IsNamedAmong : (ℕ → CellState) → ℕ → Type 0
IsNamedAmong cells array = (cell : ℕ) × ((cells cell).status ≡ live) × ((cells cell).array ≡ Some array)

-- all words of a free cell are 0, its colour's apart
pub record IsZeroed (layout : Layout) (heap : Heap) (cell : ℕ) : Type 0 where
  pub structure : heap Structure cell ≡ 0
  pub array : heap Array cell ≡ 0
  pub claim : heap Claim cell ≡ 0
  pub group : heap Group cell ≡ 0
  pub slots : (slot : ℕ) → HasSlot layout cell slot → slot_word layout heap cell slot ≡ 0

-- a table has these pairs: just those that its words say, none twice
pub record IsTableOf (layout : Layout) (heap : Heap) (table : ℕ) (pairs : ℕ → Option Val) : Type 0 where
  pub forms : (place : ℕ) → HasSlot layout table place → (slot_word layout heap table place ≡ 0) ⊎ IsPairWord (slot_word layout heap table place)
  pub said : (place key : ℕ) (value : Val) → HasSlot layout table place → IsPairOf key value (slot_word layout heap table place) → pairs key ≡ Some value
  pub stands : (key : ℕ) (value : Val) → pairs key ≡ Some value → (place : ℕ) × HasSlot layout table place × IsPairOf key value (slot_word layout heap table place)
  pub once : (one other key : ℕ) (value another : Val) → HasSlot layout table one → HasSlot layout table other →
      IsPairOf key value (slot_word layout heap table one) → IsPairOf key another (slot_word layout heap table other) → one ≡ other

-- what the words say of a cell that isn't free: its keys, its array, its group, its slots and pairs; slots that its
-- class lacks are empty, a table has none, and other cells have no pairs
pub record TakenReads (layout : Layout) (shapes : ShapeLists) (heap : Heap) (cell : ℕ) (held : CellState) : Type 0 where
  pub keys : IsStructureOf shapes held.keys (heap Structure cell)
  pub array : heap Array cell ≡ array_word held.array
  pub group : heap Group cell ≡ held.group
  pub group_number : held.group < 2 ^ 32
  pub slots : (slot : ℕ) → slot < slots_of (class_of layout cell) → IsValueOf (held.slots slot) (slot_word layout heap cell slot)
  pub past_slots : (slot : ℕ) → slots_of (class_of layout cell) ≤ slot → held.slots slot ≡ Empty
  pub table : is_table layout cell ≡ true → IsTableOf layout heap cell held.pairs
  pub no_table : is_table layout cell ≡ false → (key : ℕ) → held.pairs key ≡ None

-- the property at a place of a cell's keys stands in that element of its array
abbrev pub PropertyReads : Layout → Heap → CellState → ℕ → Type 0
PropertyReads layout heap held place = (array : ℕ) × (held.array ≡ Some array) × HasElement layout array place
    × IsValueOf (held.properties place) (element_word layout heap array place)

-- what the words say of a cell: all words of a free one are 0, and of a dead one the properties aren't read, since its
-- array may be swept before it
pub record CellReads (layout : Layout) (shapes : ShapeLists) (heap : Heap) (cell : ℕ) (held : CellState) : Type 0 where
  pub status : held.status ≡ cell_status heap cell
  pub zeroed : held.status ≡ free → IsZeroed layout heap cell
  pub taken : is_free held.status ≡ false → TakenReads layout shapes heap cell held
  pub properties : held.status ≡ live → (place : ℕ) → place < length held.keys → PropertyReads layout heap held place

-- which arrays are free, live, spent and dead: no word tells the live ones from the spent ones but those of the cells
pub record AreArraysRead (layout : Layout) (heap : Heap) (cells : ℕ → CellState) (arrays : ℕ → Status) : Type 0 where
  pub named : (array : ℕ) → array < array_count layout → IsNamedAmong cells array → arrays array ≡ array_status layout heap array live
  pub unnamed : (array : ℕ) → array < array_count layout → (IsNamedAmong cells array → ⊥) → arrays array ≡ array_status layout heap array spent

-- whose claim a cell is, if it is one's: a mutator's claims are these cells, in an order that no word tells
pub record AreClaimsRead (layout : Layout) (heap : Heap) (claims : ℕ → List ℕ) : Type 0 where
  pub named : (cell who : ℕ) → cell < cell_count layout → (heap Claim cell ≡ claim_word (Some who)) ↔ Contains (claims who) cell
  pub unnamed : (cell : ℕ) → cell < cell_count layout → ((who : ℕ) → Contains (claims who) cell → ⊥) → heap Claim cell ≡ claim_word None

-- no cell or array is both free and dead by its two bits
abbrev pub BitsAreApart : Layout → Heap → Type 0
BitsAreApart layout heap = (block bit : ℕ) → block < block_count layout → bit < 64 → bit_at (heap Free block) bit ≡ 1 → bit_at (heap Dead block) bit ≡ 0

-- what the words say of the phase, of who is active, and of registers and handles; beyond the layout all is as in the
-- empty state
pub record AreRootsRead (layout : Layout) (heap : Heap) (active_of : ℕ → Bool) (registers_of : ℕ → ℕ → Val) (strong_of weak_of : ℕ → Val) (phase_is : CyclePhase) : Type 0 where
  pub phase : phase_of (heap Phase 0) ≡ phase_is
  pub active : (who : ℕ) → who < layout.mutators → heap Active who ≡ (if active_of who then 1 else 0)
  pub registers : (who register : ℕ) → who < layout.mutators → register < layout.registers →
      IsValueOf (registers_of who register) (heap Registers (index_of_register layout who register))
  pub strong : (handle : ℕ) → handle < layout.strong → IsValueOf (strong_of handle) (heap Strong handle)
  pub weak : (handle : ℕ) → handle < layout.weak → IsValueOf (weak_of handle) (heap Weak handle)
  pub past_active : (who : ℕ) → layout.mutators ≤ who → active_of who ≡ true
  pub past_registers : (who register : ℕ) → (layout.mutators ≤ who) ⊎ (layout.registers ≤ register) → registers_of who register ≡ Empty
  pub past_strong : (handle : ℕ) → layout.strong ≤ handle → strong_of handle ≡ Empty
  pub past_weak : (handle : ℕ) → layout.weak ≤ handle → weak_of handle ≡ Empty

-- what they say of a state's
abbrev pub RootsRead : Layout → Heap → State → Type 0
RootsRead layout heap state = AreRootsRead layout heap state.active state.registers state.strong state.weak state.phase

-- what the words say of cells, arrays and claims; beyond the layout all is as in the empty state
pub record ArePartsRead (layout : Layout) (shapes : ShapeLists) (heap : Heap) (cells_of : ℕ → CellState) (arrays_of : ℕ → Status) (claims_of : ℕ → List ℕ) : Type 0 where
  pub cells : (cell : ℕ) → cell < cell_count layout → CellReads layout shapes heap cell (cells_of cell)
  pub arrays : AreArraysRead layout heap cells_of arrays_of
  pub claims : AreClaimsRead layout heap claims_of
  pub apart : BitsAreApart layout heap
  pub past_cells : (cell : ℕ) → cell_count layout ≤ cell → cells_of cell ≡ blank_cell free
  pub past_arrays : (array : ℕ) → array_count layout ≤ array → arrays_of array ≡ free
  pub past_claims : (who : ℕ) → layout.mutators ≤ who → claims_of who ≡ []
  pub claimed : (who cell : ℕ) → Contains (claims_of who) cell → cell < cell_count layout

-- what they say of a state's
abbrev pub PartsRead : Layout → ShapeLists → Heap → State → Type 0
PartsRead layout shapes heap state = ArePartsRead layout shapes heap state.cells state.arrays state.claims

-- The words read as the state. They leave open only what no operation and no cycle looks at: what a free cell held, the
-- properties of a dead cell, and those that have no key; and they leave open the order of each mutator's claims, and
-- how often a cell stands among them.
pub record ReadsAs (layout : Layout) (shapes : ShapeLists) (heap : Heap) (state : State) : Type 0 where
  pub roots : RootsRead layout heap state
  pub parts : PartsRead layout shapes heap state
