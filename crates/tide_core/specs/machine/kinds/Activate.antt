-- Activate: a participant that has heard the ticket of the open part begins, with a load of the Period word.
use Rattle.std.specs.Prelude.{ℕ, ◌≡◌, ◌<◌, false, true, [], ◌==◌, if◌then◌else◌}
use Rattle.tide_core.specs.machine.World.{World}
use Rattle.tide_core.specs.declared.machine.view.View.{View}
use Rattle.tide_words.specs.marking.Colours.{is_marking, running_cycle}
use Rattle.tide_words.specs.marking.Marked.{base_cycle}
use Rattle.tide_words.specs.tide_layout.declared.region.Region.TheVariants as region

-- the participant runs, and at its first beginning in the part counts nothing yet
abbrev pub begun_view : View → View
begun_view v =
    if v.begun == v.ticket then record v { runs = true; round = []; full = []; known = [] }
    else record v {
      runs = true;
      begun = v.ticket;
      born = 0;
      visits = 0;
      races = 0;
      round = [];
      full = [];
      known = [];
    }

-- the participant doesn't run, hasn't left, and its ticket is of the open part, whose phase and base it tells, and for
-- which it has handed out no note yet
pub record MayActivate (w : World) (me : ℕ) : Type 0 where
  pub rests : (w.part me).runs ≡ false
  pub stays : (w.part me).left ≡ false
  pub later : (w.part me).period < (w.part me).ticket
  pub of_part : (w.part me).ticket ≡ w.heap region.Period 0
  pub marks : (w.part me).marks ≡ is_marking w.heap
  pub cycle : (w.part me).cycle ≡ running_cycle w.heap
  pub based : (w.part me).mark_version ≡ base_cycle w.heap
