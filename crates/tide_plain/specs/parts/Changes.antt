-- What is stored of one mutator, one cell or one array where something has changed.
use Rattle.std.specs.Prelude.{ℕ, List, Option, None, Some, slice_set}
use Rattle.std.specs.List.{slice_index_or}
use Rattle.tide_model.specs.declared.val.Val.{Val}
use Rattle.tide_plain.specs.declared.parts.stored_cell.StoredCell.{StoredCell}
use Rattle.tide_plain.specs.declared.parts.mutators.StoredMutator.{StoredMutator}
use Rattle.tide_plain.specs.parts.PartLists.{no_elements}

-- a mutator with another value in a register
abbrev pub filled : StoredMutator → ℕ → Val → StoredMutator
filled mutator register value = record mutator { registers = slice_set mutator.registers register value }

-- a cell with another value in a slot
abbrev pub with_slot : StoredCell → ℕ → Val → StoredCell
with_slot stored slot value = record stored { slots = slice_set stored.slots slot value }

-- a mutator with other claims
abbrev pub with_claims : StoredMutator → List ℕ → StoredMutator
with_claims mutator claims = record mutator { claims = record { items = claims } }

-- what an array holds, or nothing but empty elements where there is none
abbrev pub elements_of : List (List Val) → Option ℕ → List Val
elements_of elements None = no_elements
elements_of elements (Some array) = slice_index_or elements array no_elements
