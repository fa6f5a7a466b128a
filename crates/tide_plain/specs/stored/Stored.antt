-- What is stored of a whole store, and the cells for which it stands.
use Rattle.std.specs.Prelude.{ℕ, Bool, false, List, Option, None, Some, if◌then◌else◌}
use Rattle.std.specs.List.{slice_index_or}
use Rattle.tide_model.specs.declared.val.Val.{Val}
use Rattle.tide_model.specs.declared.val.Val.TheVariants.{Empty}
use Rattle.tide_model.specs.Layout.{Layout}
use Rattle.tide_model.specs.Refused.{ShapeLists}
use Rattle.tide_model.specs.State.{CellState, blank_cell, free, live}
use Rattle.tide_shape.specs.ShapeTable.{keys_of}
use Rattle.tide_plain.specs.declared.parts.mutators.StoredMutator.{StoredMutator}
use Rattle.tide_plain.specs.declared.parts.stored_cell.StoredCell.{StoredCell}
use Rattle.tide_plain.specs.declared.statuses.ArrayStatus.{ArrayStatus}
use Rattle.tide_plain.specs.parts.Pairs.{pairs_of}
use Rattle.tide_plain.specs.parts.PartLists.{blank_stored, no_elements}

-- all that is stored, part by part, and the layout and the shapes that it is of
pub record Stored : Type 0 where
  pub layout : Layout
  pub shapes : ShapeLists
  pub mutators : List StoredMutator
  pub strong : List Val
  pub weak : List Val
  pub are_live : List Bool
  pub cells : List StoredCell
  pub statuses : List ArrayStatus
  pub elements : List (List Val)

-- the properties of a cell with this array, by their places
abbrev pub properties_of : List (List Val) → Option ℕ → ℕ → Val
properties_of elements None place = Empty
properties_of elements (Some array) place = slice_index_or (slice_index_or elements array no_elements) place Empty

-- a live cell
abbrev pub live_cell : ShapeLists → List (List Val) → StoredCell → CellState
live_cell shapes elements stored = record {
  status = live;
  keys = keys_of shapes stored.shape;
  slots = λ slot. slice_index_or stored.slots slot Empty;
  properties = properties_of elements stored.array;
  pairs = pairs_of stored.pairs;
  group = stored.group;
  array = stored.array;
}

-- the cells, of which those that aren't live are free and hold nothing
abbrev pub cells_of : ShapeLists → List (List Val) → List Bool → List StoredCell → ℕ → CellState
cells_of shapes elements are_live cells cell =
    if slice_index_or are_live cell false then live_cell shapes elements (slice_index_or cells cell blank_stored) else blank_cell free
