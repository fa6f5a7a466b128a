-- Why an operation is refused, want of room apart.
use Rattle.std.specs.Prelude.{ℕ, ◌==◌, Bool, nat_lt, nat_le, List, [], ◌∷◌, ◌++◌, ◌&&◌, length, not, if◌then◌else◌, Option, None, Some, is_some}
use Rattle.std.specs.List.{list_any}
use Rattle.std.specs.Str.{bytes_eq}
use Rattle.tide_model.specs.declared.op.Op.{Op}
use Rattle.tide_model.specs.declared.op.Op.TheVariants.{Alloc, Table, Get, Put, Move, Set, Drop, Claim, Release, Unclaim, Add, GetProp, SetProp, StrongSet, StrongGet, WeakSet, WeakGet, PairSet, PairGet, PairDel, Group, Collect, Retire}
use Rattle.tide_model.specs.declared.op.Refusal.{Refusal}
use Rattle.tide_model.specs.declared.op.Refusal.TheVariants.{NotCell, IsTable, NotTable, NoSlot, Held, NotHeld, Present, Absent, NoShape, PairsFull, ClaimsFull}
use Rattle.tide_model.specs.declared.val.Val.{Val}
use Rattle.tide_model.specs.declared.val.Val.TheVariants.{Empty, Int, Cell}
use Rattle.tide_model.specs.Layout.{Layout, cell_count, class_of, slots_of}
use Rattle.tide_model.specs.Numbers.{is_among, numbers_where, count_where}
use Rattle.tide_model.specs.State.{State}

-- a shape table: the list of property keys of each shape, by its number
abbrev pub ShapeLists : Type 0
ShapeLists = List (List ℕ)

-- the shape table where no path is declared: the empty shape alone
abbrev pub no_shapes : ShapeLists
no_shapes = [] ∷ []

-- one of the shapes has these keys, in this order
abbrev pub is_shape : ShapeLists → List ℕ → Bool
is_shape shapes keys = list_any (λ shape. bytes_eq shape keys) shapes

-- how many cells a mutator may claim
abbrev pub claims_most : ℕ
claims_most = 8

-- how many pairs a table may have
abbrev pub pairs_most : ℕ
pairs_most = 8

-- the class of the tables
abbrev pub table_class : ℕ
table_class = 4

-- this refusal, where the test says so
abbrev pub refuse_if : Bool → Refusal → Option Refusal
refuse_if test refusal = if test then Some refusal else None

-- the first of some refusals, each of which may be there or not
abbrev pub first_of : List (Option Refusal) → Option Refusal
first_of [] = None
first_of (Some refusal ∷ others) = Some refusal
first_of (None ∷ others) = first_of others

-- what refuses an operation on the cell that a register holds: that there is none, and else what refuses that cell
abbrev pub refusal_at : Val → ℕ → (ℕ → Option Refusal) → Option Refusal
refusal_at (Cell cell) register refusal = refusal cell
refusal_at Empty register refusal = Some (NotCell register)
refusal_at (Int n) register refusal = Some (NotCell register)

-- the cell is a table
abbrev pub is_table : Layout → ℕ → Bool
is_table layout cell = class_of layout cell == table_class

-- why a slot of what a register holds can't be read or written, if it can't: there is no cell, the cell is a table, or
-- its class has no such slot, in this order
abbrev pub slot_refusal : Layout → Val → ℕ → ℕ → Option Refusal
slot_refusal layout (Cell cell) register slot =
    if is_table layout cell then Some IsTable
    else if nat_lt slot (slots_of (class_of layout cell)) then None
    else Some (NoSlot slot)
slot_refusal layout Empty register slot = Some (NotCell register)
slot_refusal layout (Int n) register slot = Some (NotCell register)

-- the mutators that claim a cell, of which a lawful history leaves one at most
abbrev pub holders_of : Layout → State → ℕ → List ℕ
holders_of layout state cell = numbers_where (λ who. is_among (state.claims who) cell) layout.mutators

-- the refusal of a cell that others hold: that the first of these mutators holds it; none where there is none
abbrev pub held_by : List ℕ → Option Refusal
held_by [] = None
held_by (who ∷ others) = Some (Held who)

-- the mutator claims the cell
abbrev pub holds : State → ℕ → ℕ → Bool
holds state who cell = is_among (state.claims who) cell

-- the cell has a property of this key
abbrev pub has_key : State → ℕ → ℕ → Bool
has_key state cell key = is_among (state.cells cell).keys key

-- a declared path continues the cell's shape with the key
abbrev pub may_add : ShapeLists → State → ℕ → ℕ → Bool
may_add shapes state cell key = is_shape shapes ((state.cells cell).keys ++ key ∷ [])

-- the table has a pair of this key cell
abbrev pub has_pair : State → ℕ → ℕ → Bool
has_pair state table key = is_some ((state.cells table).pairs key)

-- how many pairs a table has
abbrev pub pair_count : Layout → State → ℕ → ℕ
pair_count layout state table = count_where (λ key. has_pair state table key) (cell_count layout)

-- what refuses an operation on the properties of the cell that a register holds, where these are the further refusals:
-- there is no cell, the cell is a table, it isn't claimed, and then those
abbrev pub holder_refusal : Layout → State → ℕ → ℕ → (ℕ → List (Option Refusal)) → Option Refusal
holder_refusal layout state who register further =
    refusal_at (state.registers who register) register (λ cell. first_of (
    refuse_if (is_table layout cell) IsTable
    ∷ refuse_if (not (holds state who cell)) NotHeld
    ∷ further cell))

-- why a property of what a register holds can't be read or written, if it can't: there is no cell, the cell is a
-- table, it isn't claimed, or it has no such key, in this order
abbrev pub property_refusal : Layout → State → ℕ → ℕ → ℕ → Option Refusal
property_refusal layout state who register key =
    refusal_at (state.registers who register) register (λ cell. first_of (
    refuse_if (is_table layout cell) IsTable
    ∷ refuse_if (not (holds state who cell)) NotHeld
    ∷ refuse_if (not (has_key state cell key)) Absent ∷ []))

-- what refuses an operation on the pair of a table and a key cell: a register without a cell, the table's first; no
-- table; not claimed; and then what else refuses the pair
abbrev pub pair_refusal : Layout → State → ℕ → ℕ → ℕ → (ℕ → ℕ → Option Refusal) → Option Refusal
pair_refusal layout state who table_register key_register refusal =
    refusal_at (state.registers who table_register) table_register (λ table.
    refusal_at (state.registers who key_register) key_register (λ key. first_of (
    refuse_if (not (is_table layout table)) NotTable
    ∷ refuse_if (not (holds state who table)) NotHeld
    ∷ refusal table key ∷ [])))

-- the first refusal that the operation meets, want of room apart
abbrev pub refusal_of : Layout → ShapeLists → State → ℕ → Op → Option Refusal
refusal_of layout shapes state who (Alloc dst class) = None
refusal_of layout shapes state who (Table dst) = None
refusal_of layout shapes state who (Get dst src slot) = slot_refusal layout (state.registers who src) src slot
refusal_of layout shapes state who (Put src slot val) = slot_refusal layout (state.registers who src) src slot
refusal_of layout shapes state who (Move dst src) = None
refusal_of layout shapes state who (Set dst n) = None
refusal_of layout shapes state who (Drop dst) = None
refusal_of layout shapes state who (Claim src) =
    refusal_at (state.registers who src) src (λ cell. first_of (
    held_by (holders_of layout state cell)
    ∷ refuse_if (nat_le claims_most (length (state.claims who))) ClaimsFull ∷ []))
refusal_of layout shapes state who (Release src) =
    refusal_at (state.registers who src) src (λ cell. refuse_if (not (holds state who cell)) NotHeld)
refusal_of layout shapes state who Unclaim = refuse_if (length (state.claims who) == 0) NotHeld
refusal_of layout shapes state who (Add src key val) =
    refusal_at (state.registers who src) src (λ cell. first_of (
    refuse_if (is_table layout cell) IsTable
    ∷ refuse_if (not (holds state who cell)) NotHeld
    ∷ refuse_if (has_key state cell key) Present
    ∷ refuse_if (not (may_add shapes state cell key)) NoShape ∷ []))
refusal_of layout shapes state who (GetProp dst src key) = property_refusal layout state who src key
refusal_of layout shapes state who (SetProp src key val) = property_refusal layout state who src key
refusal_of layout shapes state who (StrongSet at val) = None
refusal_of layout shapes state who (StrongGet dst at) = None
refusal_of layout shapes state who (WeakSet at val) = None
refusal_of layout shapes state who (WeakGet dst at) = None
refusal_of layout shapes state who (PairSet src key val) =
    pair_refusal layout state who src key (λ table cell.
    refuse_if (not (has_pair state table cell) && nat_le pairs_most (pair_count layout state table)) PairsFull)
refusal_of layout shapes state who (PairGet dst src key) =
    pair_refusal layout state who src key (λ table cell. refuse_if (not (has_pair state table cell)) Absent)
refusal_of layout shapes state who (PairDel src key) =
    pair_refusal layout state who src key (λ table cell. refuse_if (not (has_pair state table cell)) Absent)
refusal_of layout shapes state who (Group src n) = refusal_at (state.registers who src) src (λ cell. None)
refusal_of layout shapes state who Collect = None
refusal_of layout shapes state who Retire = None
