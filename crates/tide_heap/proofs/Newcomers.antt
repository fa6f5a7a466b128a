-- Who knows nothing yet, and who begins a part for the first time.
use Rattle.std.proofs.Common.{◌≡◌, ◌<◌, refl, ap, arith, Bool, true, []}
use Rattle.std.proofs.lemmas.Bool.{ne_eqb}
use Rattle.std.specs.Prelude.{ℕ, if◌then◌else◌}
use Rattle.tide_core.specs.declared.machine.view.View.{View}
use Rattle.tide_core.specs.machine.Frozen.{newcomer}
use Rattle.tide_core.specs.machine.May.{Rests}
use Rattle.tide_core.specs.machine.Visiting.{FitsIn}
use Rattle.tide_core.specs.machine.kinds.Activate.{begun_view}
use Rattle.tide_heap.specs.Turns.{heard_view}
use Rattle.tide_model.specs.Layout.{Layout}

-- the view of one that begins the part of a ticket, in which it hadn't begun before
abbrev pub begun_first : View → View → View
begun_first v t = record (heard_view v t) {
  runs = true;
  begun = t.period;
  born = 0;
  visits = 0;
  races = 0;
  round = [];
  full = [];
  known = [];
}

pub begun_view-first : (v t : View) → v.begun < t.period → begun_view (heard_view v t) ≡ begun_first v t
begun_view-first v t later =
    ap (λ (b : Bool). if b then record (heard_view v t) { runs = true; round = []; full = []; known = [] } else begun_first v t)
    (ne_eqb v.begun t.period (λ e. omega (arith, e, later)))

-- a newcomer holds, scans and owes nothing
pub Rests-newcomer : (who : ℕ) → Rests (newcomer who)
Rests-newcomer who = record {
  held = refl;
  scan = refl;
  between = record { owed = refl; duty = refl; growth = refl; sweeping = refl; calls = refl };
}

-- where nothing is held it fits in
pub FitsIn-none : (layout : Layout) → FitsIn layout []
FitsIn-none layout = record {
  within = λ cell a. absurd (let below = a.1 in omega (arith, below));
  once = λ cell. omega arith;
  room = omega arith;
}
