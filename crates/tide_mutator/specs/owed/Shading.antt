-- What a mutator owes between its steps, and what its barrier leaves.
use Rattle.std.specs.Prelude.{◌≡◌, ◌<◌, true}
use Rattle.tide_heap.specs.tide_core.declared.machine.view.Duty.{Duty}
use Rattle.tide_heap.specs.tide_core.declared.machine.view.Duty.TheVariants.{Nothing as NoDuty}
use Rattle.tide_heap.specs.tide_core.declared.machine.view.Growth.TheVariants.{Nothing}
use Rattle.tide_heap.specs.tide_core.declared.machine.view.View.{View}
use Rattle.tide_model.specs.Layout.{Layout}
use Rattle.tide_mutator.specs.owed.Made.{shown}

-- a mutator with this view runs, grows no array, and owes this
pub record Owing (layout : Layout) (v : View) (due : Duty) : Type 0 where
  pub is_mutator : v.who < layout.mutators
  pub runs : v.runs ≡ true
  pub growth : v.growth ≡ Nothing
  pub duty : v.duty ≡ due

-- the mutator owes its barrier no more, and of its view nothing else changed that a call shows
pub record HasShaded (v u : View) : Type 0 where
  pub shown : shown u ≡ shown v
  pub owed : u.owed ≡ v.owed
  pub duty : u.duty ≡ NoDuty
