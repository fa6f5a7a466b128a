-- The lists that the parts hold, and what they say of one thing.
use Rattle.std.specs.Prelude.{ℕ, Bool, true, List, [], replicate, None}
use Rattle.std.specs.List.{slice_index_or}
use Rattle.tide_model.specs.declared.val.Val.{Val}
use Rattle.tide_model.specs.declared.val.Val.TheVariants.{Empty}
use Rattle.tide_plain.specs.declared.statuses.ArrayStatus.{ArrayStatus}
use Rattle.tide_plain.specs.declared.parts.mutators.StoredMutator.{StoredMutator}
use Rattle.tide_plain.specs.declared.parts.stored_cell.StoredCell.{StoredCell}

-- what the handles hold, the strong ones and the weak ones
pub record HandleLists : Type 0 where
  pub strong : List Val
  pub weak : List Val

-- which cells are live, and what is stored of each
pub record CellLists : Type 0 where
  pub are_live : List Bool
  pub cells : List StoredCell

-- what became of each array, and what it holds
pub record ArrayLists : Type 0 where
  pub statuses : List ArrayStatus
  pub elements : List (List Val)

-- an active mutator whose registers are empty and that claims nothing
abbrev pub blank_mutator : StoredMutator
blank_mutator = record { is_active = true; registers = replicate 250 Empty; claims = record { items = [] } }

-- a stored cell that holds nothing
abbrev pub blank_stored : StoredCell
blank_stored = record { shape = 0; array = None; group = 0; slots = replicate 16 Empty; pairs = replicate 8 None }

-- the elements of an array in which nothing stands
abbrev pub no_elements : List Val
no_elements = replicate 64 Empty

-- the mutator of this number
abbrev pub mutator_at : List StoredMutator → ℕ → StoredMutator
mutator_at mutators who = slice_index_or mutators who blank_mutator
