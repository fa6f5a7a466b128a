-- Store stopped: a participant that owes nothing more stores the number of the part in which it stops.
use Rattle.std.specs.Prelude.{ℕ, ◌≡◌, true, false, [], None}
use Rattle.tide_core.specs.machine.May.{Rests}
use Rattle.tide_core.specs.machine.World.{World, IsParty}
use Rattle.tide_core.specs.declared.machine.view.View.{View}
use Rattle.tide_model.specs.Layout.{Layout}

-- the participant doesn't run, and forgets what it knew of words and of blocks
abbrev pub resting_view : View → View
resting_view v = record v { runs = false; known = []; full = []; saw = None; cleared = [] }

-- the participant has stopped in the part whose ticket it heard, doesn't run, and forgets what it knew of words and of
-- blocks
abbrev pub stopped_view : View → View
stopped_view v = record (resting_view v) { stopped = v.ticket }

-- the participant has a word of its own, runs, and holds, scans and owes nothing
pub record MayStoreStopped (layout : Layout) (w : World) (me period : ℕ) : Type 0 where
  pub party : IsParty layout me
  pub runs : (w.part me).runs ≡ true
  pub rests : Rests (w.part me)
  pub of_part : period ≡ (w.part me).ticket
