-- What the loop of periods::run_periods keeps.
use Rattle.std.proofs.Common.{◌≡◌, ◌+◌, ◌<◌, ◌≤◌}
use Rattle.tide_model.specs.Periods.{ArePeriods, next_run}
use Rattle.tide_periods.specs.Asking.{scripts_of}
use Rattle.tide_periods.specs.Left.{total_left}
use Rattle.tide_periods.specs.Part.{AreCursors}
use Rattle.tide_sched.specs.Paces.{pace_of}
use Rattle.tide_periods.specs.Recorded.{IsSettled}
use Rattle.tide_periods.proofs.periods.run_periods.Given as goal

abbrev pub invariant-loop-pacing : goal.invariant-loop-pacing
invariant-loop-pacing g l =
    let now = g.T.Parts.recorded l.parts in
    let these = g.T.Parts.cursors l.parts in
    let first = g.T.Parts.cursors l.initial.parts in
    record {
      settled : IsSettled now;
      stands : g.T.Parts.stands l.parts;
      same : now.setting ≡ (g.T.Parts.recorded l.initial.parts).setting;
      scripts : scripts_of these ≡ scripts_of first;
      cursors : AreCursors now these;
      periods : ArePeriods (pace_of l.pacing) now.setting.layout now.history;
      cycles : now.cycles ≤ now.parts;
      left : now.parts + total_left now these ≤ total_left (g.T.Parts.recorded l.initial.parts) first;
      run : l.run ≡ next_run (pace_of l.pacing) now.setting.layout now.history;
      some : 0 < l.run;
    }

abbrev pub decreases-loop-pacing : goal.decreases-loop-pacing
decreases-loop-pacing g l = total_left (g.T.Parts.recorded l.parts) (g.T.Parts.cursors l.parts)
