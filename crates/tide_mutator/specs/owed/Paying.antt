-- What a call owes to a register, and what is left when it has paid.
use Rattle.std.specs.Prelude.{ℕ, ◌≡◌, ◌<◌, true, [], length, Some}
use Rattle.tide_heap.specs.tide_core.machine.Owed.{owed_register}
use Rattle.tide_heap.specs.tide_core.declared.machine.view.Duty.TheVariants.{Nothing}
use Rattle.tide_heap.specs.tide_core.declared.machine.view.View.{View}
use Rattle.tide_model.specs.Layout.{Layout}
use Rattle.tide_model.specs.declared.val.Val.{Val}
use Rattle.tide_mutator.specs.owed.Made.{shown}

-- a mutator with this view runs, and owes this value to this register, and nothing else
pub record OwesRegister (layout : Layout) (v : View) (dst : ℕ) (value : Val) : Type 0 where
  pub is_mutator : v.who < layout.mutators
  pub runs : v.runs ≡ true
  pub owed : v.owed ≡ owed_register layout v.who (Some dst) value
  pub duty : v.duty ≡ Nothing

-- The mutator owes nothing more, its call word tells all its calls, and of its view nothing else changed that a call
-- shows.
pub record HasPaid (v u : View) : Type 0 where
  pub shown : shown u ≡ shown v
  pub owed : u.owed ≡ []
  pub duty : u.duty ≡ Nothing
  pub calls : u.calls ≡ length u.mine
