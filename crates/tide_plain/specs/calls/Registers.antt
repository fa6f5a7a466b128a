-- What a register without a cell refuses.
use Rattle.std.specs.Prelude.{ℕ, Option, None, Some}
use Rattle.tide_model.specs.declared.op.Refusal.{Refusal}
use Rattle.tide_model.specs.declared.op.Refusal.TheVariants.{NotCell}
use Rattle.tide_model.specs.declared.val.Val.{Val}
use Rattle.tide_model.specs.declared.val.Val.TheVariants.{Empty, Int, Cell}

-- the refusal of a register that holds no cell
abbrev pub not_cell : Val → ℕ → Option Refusal
not_cell (Cell cell) register = None
not_cell Empty register = Some (NotCell register)
not_cell (Int n) register = Some (NotCell register)
