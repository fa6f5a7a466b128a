-- Push race bit: a visitor sets the bit of a raced cell, which waits for the next pause.
use Rattle.std.specs.Prelude.{ℕ, ◌≡◌, true}
use Rattle.tide_core.specs.machine.World.{World}
use Rattle.tide_core.specs.declared.machine.view.Duty.TheVariants as duty

-- the visitor runs, and owes the push of the cell
pub record MayPushRace (w : World) (me cell : ℕ) : Type 0 where
  pub runs : (w.part me).runs ≡ true
  pub owed : (w.part me).duty ≡ duty.PushRace cell
