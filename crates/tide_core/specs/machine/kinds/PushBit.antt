-- Push bit: a barrier sets the bit of the cell that it made grey, in the grey word of its block.
use Rattle.std.specs.Prelude.{ℕ, ◌≡◌}
use Rattle.tide_core.specs.machine.May.{RunsAsMutator}
use Rattle.tide_core.specs.machine.World.{World}
use Rattle.tide_core.specs.declared.machine.view.Duty.TheVariants as duty
use Rattle.tide_core.specs.declared.machine.view.View.{View}
use Rattle.tide_model.specs.Layout.{Layout}

-- nothing more is owed
abbrev pub free_of_duty : View → View
free_of_duty v = record v { duty = duty.Nothing }

-- the push of the cell is owed
pub record MayPushBit (layout : Layout) (w : World) (me cell : ℕ) : Type 0 where
  pub runner : RunsAsMutator layout w me
  pub owed : (w.part me).duty ≡ duty.Push cell
