-- When lists of what cells and roots hold are those of a state, and when its words say so.
use Rattle.std.specs.Prelude.{ℕ, ◌≡◌, ◌≢◌, ◌↔◌, ◌⊎◌, ◌<◌, ◌≤◌, ◌^◌, true, List, length, map, Contains, Option, None, Some, slice_index, slice_index_or}
use Rattle.tide_model.specs.declared.val.Val.{Val}
use Rattle.tide_model.specs.declared.val.Val.TheVariants.{Empty}
use Rattle.tide_model.specs.Layout.{Layout, cell_count, class_of, slots_of}
use Rattle.tide_model.specs.Refused.{ShapeLists}
use Rattle.tide_model.specs.State.{CellState, State, live}
use Rattle.tide_words.specs.tide_layout.declared.region.Region.TheVariants.{Structure as StructureWord}
use Rattle.tide_words.specs.declared.forms.structure.Structure.{Structure}
use Rattle.tide_words.specs.forms.StructureWord.{structure_word}
use Rattle.tide_words.specs.heap.Heap.{Heap}
use Rattle.tide_words.specs.heap.Live.{is_live_at}
use Rattle.tide_words.specs.heap.Reading.{CellReads, IsPairOf, IsTableOf, IsValueOf, PropertyReads, ReadsAs, TakenReads, slot_word}
use Rattle.tide_retained.specs.declared.contents.Contents.{Contents}
use Rattle.tide_retained.specs.declared.contents.Held.{Held}
use Rattle.tide_retained.specs.declared.contents.Keyed.{Keyed}
use Rattle.tide_retained.specs.declared.contents.Rooted.{Rooted}
use Rattle.tide_retained.specs.declared.root.Root.{Root}
use Rattle.tide_retained.specs.Contents.{held_at, pairs_of, properties_in, AreKeysOf}
use Rattle.tide_retained.specs.Index.{up_to}
use Rattle.tide_retained.specs.Path.{Holds}

-- a value under a key
abbrev pub keyed : ℕ → Val → Keyed
keyed key value = record { key = key; value = value }

-- the keys rise
abbrev pub AreRising : List Keyed → Type 0
AreRising list = (i j : ℕ) (d : Keyed) → i < j → j < length list → (slice_index_or list i d).key < (slice_index_or list j d).key

-- one of them has the key
abbrev pub HasKey : List Keyed → ℕ → Type 0
HasKey list key = (entry : Keyed) × Contains list entry × (entry.key ≡ key)

-- all keys are below a bound
abbrev pub AreKeysBelow : ℕ → List Keyed → Type 0
AreKeysBelow n list = (entry : Keyed) → Contains list entry → entry.key < n

-- the list has the pairs of a table and no others, with keys rising
pub record ArePairs (pairs : ℕ → Option Val) (list : List Keyed) : Type 0 where
  pub each : (key : ℕ) (value : Val) → Contains list (keyed key value) ↔ (pairs key ≡ Some value)
  pub rising : AreRising list

-- the properties of a cell, in the order of its keys
abbrev pub properties_of : CellState → List Keyed
properties_of held = map (λ place. keyed (slice_index held.keys place) (held.properties place)) (up_to (length held.keys))

-- this is what the cell holds
pub record HoldsSame (layout : Layout) (cell : ℕ) (state : CellState) (held : Held) : Type 0 where
  pub is_live : state.status ≡ live
  pub class : held.class ≡ class_of layout cell
  pub slots : held.slots.items ≡ map state.slots (up_to (slots_of (class_of layout cell)))
  pub past_slots : (slot : ℕ) → slots_of (class_of layout cell) ≤ slot → state.slots slot ≡ Empty
  pub properties : held.properties.items ≡ properties_of state
  pub pairs : ArePairs state.pairs held.pairs.items
  pub group : held.group ≡ state.group

-- this is what the cell holds, if it is live
abbrev pub IsHeldOf : Layout → ℕ → CellState → Option Held → Type 0
IsHeldOf layout cell state None = state.status ≢ live
IsHeldOf layout cell state (Some held) = HoldsSame layout cell state held

-- a root and the cell that it holds
abbrev pub rooted : Root → ℕ → Rooted
rooted root cell = record { root = root; cell = cell }

-- The snapshot has what each live cell of the state holds, and what its roots hold.
pub record IsSnapshotOf (layout : Layout) (state : State) (snapshot : Contents) : Type 0 where
  pub counted : length snapshot.cells.items ≡ cell_count layout
  pub cells : (cell : ℕ) → cell < cell_count layout → IsHeldOf layout cell (state.cells cell) (held_at snapshot cell)
  pub past : (cell : ℕ) → cell_count layout ≤ cell → (state.cells cell).status ≢ live
  pub roots : (root : Root) (cell : ℕ) → Contains snapshot.roots.items (rooted root cell) ↔ Holds state root cell

-- the words say of a live cell that it holds this
pub record LiveReads (layout : Layout) (shapes : ShapeLists) (heap : Heap) (cell : ℕ) (held : CellState) : Type 0 where
  pub taken : TakenReads layout shapes heap cell held
  pub properties : (place : ℕ) → place < length held.keys → PropertyReads layout heap held place

-- a structure's word names a shape of the table
abbrev pub NamesShape : ShapeLists → ℕ → Type 0
NamesShape shapes word = (structure : Structure) → structure.shape < 2 ^ 32 → structure.count ≤ 64 → structure_word structure ≡ word → structure.shape < length shapes

-- the words of the structures of live cells name shapes of the table
abbrev pub HasShapes : Layout → ShapeLists → Heap → Type 0
HasShapes layout shapes heap = (cell : ℕ) → cell < cell_count layout → is_live_at heap cell ≡ true → NamesShape shapes (heap StructureWord cell)

-- words that read as a state do
abbrev pub ReadsNameShapes : Type 0
ReadsNameShapes = (layout : Layout) (shapes : ShapeLists) (heap : Heap) (state : State) → ReadsAs layout shapes heap state → HasShapes layout shapes heap

-- the values of a cell's first so many slots, as its words say
abbrev pub AreSlotsRead : Layout → Heap → ℕ → ℕ → List Val → Type 0
AreSlotsRead layout heap cell count list = (values : ℕ → Val) → ((slot : ℕ) → slot < slots_of (class_of layout cell) → IsValueOf (values slot) (slot_word layout heap cell slot)) →
    list ≡ map values (up_to count)

-- the first so many of a cell's properties, as its words say
abbrev pub ArePropertiesRead : Layout → ShapeLists → Heap → ℕ → ℕ → List Keyed → Type 0
ArePropertiesRead layout shapes heap cell count list = (held : CellState) → LiveReads layout shapes heap cell held →
    list ≡ map (λ place. keyed (slice_index held.keys place) (held.properties place)) (up_to count)

-- the list has the pairs of a table's first so many places, with keys rising where none has two
pub record ArePairsBefore (layout : Layout) (heap : Heap) (table count : ℕ) (list : List Keyed) : Type 0 where
  pub each : (key : ℕ) (value : Val) → Contains list (keyed key value) ↔ ((place : ℕ) × (place < count) × IsPairOf key value (slot_word layout heap table place))
  pub rising : (pairs : ℕ → Option Val) → IsTableOf layout heap table pairs → AreRising list

-- the pair that a word is of, if it is one's, was put among others: their keys rise still, if none had its key
pub record PutsPair (word : ℕ) (old new : List Keyed) : Type 0 where
  pub each : (key : ℕ) (value : Val) → Contains new (keyed key value) ↔ (Contains old (keyed key value) ⊎ IsPairOf key value word)
  pub rising : AreRising old → ((key : ℕ) (value : Val) → IsPairOf key value word → HasKey old key → ⊥) → AreRising new

-- what each of the first so many cells holds, as the words say
pub record AreCellsRead (layout : Layout) (shapes : ShapeLists) (heap : Heap) (count : ℕ) (list : List (Option Held)) : Type 0 where
  pub counted : length list ≡ count
  pub each : (cell : ℕ) (held : CellState) → cell < count → CellReads layout shapes heap cell held → IsHeldOf layout cell held (slice_index_or list cell None)
  pub few : (cell : ℕ) → AreKeysBelow 83886080 (pairs_of (slice_index_or list cell None))
  pub keys : (cell : ℕ) → AreKeysOf shapes (properties_in (slice_index_or list cell None))
