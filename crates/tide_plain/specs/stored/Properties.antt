-- Where properties stand, and what a cell that gets one more goes through.
use Rattle.std.specs.Prelude.{ℕ, ◌≡◌, List, length, Option, Some}
use Rattle.std.specs.List.{slice_index_or}
use Rattle.tide_model.specs.declared.val.Val.{Val}
use Rattle.tide_model.specs.declared.val.Val.TheVariants.{Empty}
use Rattle.tide_model.specs.Applied.{array_after, exchange_array, put_cell}
use Rattle.tide_model.specs.Numbers.{put_at}
use Rattle.tide_model.specs.References.{IsLive}
use Rattle.tide_model.specs.State.{State}

-- the array is that of this live cell, and of no other
pub record IsOwnArray (state : State) (cell array : ℕ) : Type 0 where
  pub is_live : IsLive state cell
  pub has : (state.cells cell).array ≡ Some array
  pub alone : (other : ℕ) → IsLive state other → (state.cells other).array ≡ Some array → other ≡ cell

-- the elements of an array with a value put at a place
abbrev pub IsPut : List Val → List Val → ℕ → Val → Type 0
IsPut old new place value = (k : ℕ) → slice_index_or new k Empty ≡ put_at (λ j. slice_index_or old j Empty) place value k

-- a cell has the array that was taken, if one was, with what its old one held
abbrev pub with_array : State → ℕ → Option ℕ → State
with_array state cell took = record state {
  cells = put_at state.cells cell (record (state.cells cell) { array = array_after (state.cells cell).array took });
  arrays = exchange_array state.arrays (state.cells cell).array took;
}

-- a cell has other keys, and a value behind its properties
abbrev pub with_property : State → ℕ → List ℕ → Val → State
with_property state cell keys value = put_cell state cell (record (state.cells cell) {
  keys = keys;
  properties = put_at (state.cells cell).properties (length (state.cells cell).keys) value;
})
