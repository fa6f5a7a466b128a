-- Split: a participant that has stopped copies its view for its note.
use Rattle.std.specs.Prelude.{ℕ, ◌≡◌, false}
use Rattle.tide_core.specs.machine.World.{World}
use Rattle.tide_core.specs.declared.machine.view.View.{View}
use Rattle.tide_core.specs.machine.kinds.StoreStopped.{resting_view}

-- the participant has stopped in the part whose ticket it heard, and still doesn't run
abbrev pub split_view : View → View
split_view v = record (resting_view v) { period = v.ticket }

-- the participant stepped in that part, and has stopped
pub record MaySplit (w : World) (me : ℕ) : Type 0 where
  pub stopped : (w.part me).runs ≡ false
  pub began : (w.part me).begun ≡ (w.part me).ticket
