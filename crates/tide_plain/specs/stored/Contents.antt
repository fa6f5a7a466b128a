-- What the contents of the plain store mean, and how they agree.
use Rattle.std.specs.Prelude.{ℕ, ◌≡◌, ◌≢◌, ◌<◌, ◌≤◌, [], length, IsSome}
use Rattle.std.specs.List.{slice_index_or}
use Rattle.tide_model.specs.declared.val.Val.TheVariants.{Empty}
use Rattle.tide_model.specs.Layout.{Layout, cell_count, array_count}
use Rattle.tide_model.specs.State.{State, free, dead, idle}
use Rattle.tide_model.specs.References.{IsLive, RefsAreLive}
use Rattle.tide_layout.specs.Limits.{IsWithinLimits}
use Rattle.tide_shape.specs.ShapeTable.{keys_of, IsShapeTable}
use Rattle.tide_plain.specs.declared.parts.stored_cell.StoredCell.{StoredCell}
use Rattle.tide_plain.specs.parts.Pairs.{IsDistinctPairs}
use Rattle.tide_plain.specs.statuses.Statuses.{arrays_of}
use Rattle.tide_plain.specs.parts.PartLists.{blank_stored, mutator_at}
use Rattle.tide_plain.specs.stored.Stored.{Stored, cells_of}

-- the state for which the contents stand, in which no cycle marks
abbrev pub state_of : Stored → State
state_of contents = record {
  active = λ who. (mutator_at contents.mutators who).is_active;
  registers = λ who register. slice_index_or (mutator_at contents.mutators who).registers register Empty;
  claims = λ who. (mutator_at contents.mutators who).claims.items;
  strong = λ handle. slice_index_or contents.strong handle Empty;
  weak = λ handle. slice_index_or contents.weak handle Empty;
  cells = cells_of contents.shapes contents.elements contents.are_live contents.cells;
  arrays = arrays_of contents.statuses;
  phase = idle;
}

-- the stored cell of this number
abbrev pub stored_at : Stored → ℕ → StoredCell
stored_at contents cell = slice_index_or contents.cells cell blank_stored

-- the lists are as long as the layout says, each live cell's shape and array are there, and no key stands twice in a
-- table
pub record IsStored (contents : Stored) : Type 0 where
  pub limits : IsWithinLimits contents.layout
  pub table : IsShapeTable contents.shapes
  pub all_mutators : length contents.mutators ≡ contents.layout.mutators
  pub all_strong : length contents.strong ≡ contents.layout.strong
  pub all_weak : length contents.weak ≡ contents.layout.weak
  pub all_flags : length contents.are_live ≡ cell_count contents.layout
  pub all_cells : length contents.cells ≡ cell_count contents.layout
  pub all_statuses : length contents.statuses ≡ array_count contents.layout
  pub all_elements : length contents.elements ≡ array_count contents.layout
  pub shapes : (cell : ℕ) → IsLive (state_of contents) cell → (stored_at contents cell).shape < length contents.shapes
  -- where a cell has properties, it has an array
  pub arrays : (cell : ℕ) → IsLive (state_of contents) cell → keys_of contents.shapes (stored_at contents cell).shape ≢ [] →
      IsSome (stored_at contents cell).array
  -- a table has no key twice
  pub pairs : (cell : ℕ) → IsLive (state_of contents) cell → IsDistinctPairs (stored_at contents cell).pairs

-- the contents are stored as they should be, and no reference names a cell that isn't live
pub record IsSound (contents : Stored) : Type 0 where
  pub stored : IsStored contents
  pub references : RefsAreLive (state_of contents)

-- what lies outside of the layout is free and empty, and nothing is dead
pub record IsWithinLayout (layout : Layout) (state : State) : Type 0 where
  pub limits : IsWithinLimits layout
  pub cells : (cell : ℕ) → IsLive state cell → cell < cell_count layout
  pub few_keys : (cell : ℕ) → IsLive state cell → length (state.cells cell).keys ≤ 64
  pub arrays : (array : ℕ) → state.arrays array ≢ free → array < array_count layout
  pub registers : (who register : ℕ) → layout.mutators ≤ who → state.registers who register ≡ Empty
  pub claims : (who : ℕ) → layout.mutators ≤ who → state.claims who ≡ []
  pub no_dead_cell : (cell : ℕ) → (state.cells cell).status ≢ dead
  pub no_dead_array : (array : ℕ) → state.arrays array ≢ dead

-- the contents have this state now, and the layout and the shapes that they had
pub record Leaves (old new : Stored) (after : State) : Type 0 where
  pub state : state_of new ≡ after
  pub layout : new.layout ≡ old.layout
  pub shapes : new.shapes ≡ old.shapes
