-- Where a property of a cell stands.
use Rattle.std.specs.Prelude.{ℕ, ◌≡◌, None, Some}
use Rattle.tide_words.specs.tide_layout.Slots.{HasElement}
use Rattle.tide_model.specs.declared.val.Val.TheVariants.{Cell}
use Rattle.tide_model.specs.Applied.{place_of}
use Rattle.tide_model.specs.Refused.{property_refusal}
use Rattle.tide_model.specs.State.{State}
use Rattle.tide_call.specs.Callers.{Planner}

-- nothing refuses an operation on the property of this key of the cell in a register, and it stands in this element
pub record IsPropertyOf (caller : Planner) (state : State) (src key cell array place : ℕ) : Type 0 where
  pub granted : property_refusal caller.layout state caller.who src key ≡ None
  pub holder : state.registers caller.who src ≡ Cell cell
  pub is_array : (state.cells cell).array ≡ Some array
  pub is_place : place ≡ place_of (state.cells cell).keys key
  pub has : HasElement caller.layout array place
