-- What the loop of periods::run_periods keeps.
use Rattle.std.proofs.Common.{◌≡◌, ◌+◌, ◌<◌, ◌≤◌}
use Rattle.tide_model.specs.Periods.{ArePeriods, next_run}
use Rattle.tide_periods.specs.Asking.{scripts_of}
use Rattle.tide_periods.specs.Left.{total_left}
use Rattle.tide_periods.specs.Part.{AreCursors}
use Rattle.tide_periods.specs.Recorded.{IsSettled}
use Rattle.tide_table.specs.tide_statistics.Few.{AreFew}
use Rattle.tide_table.specs.tide_statistics.Statistics.{HasLogged}
use Rattle.tide_threads.specs.OnThreads.{MayOpenOn, Stands, cursors_on, pace_on, recorded_in, setting_in}
use Rattle.tide_threads.proofs.periods.run_periods.Given as goal

abbrev pub invariant-loop-on : goal.invariant-loop-on
invariant-loop-on g l =
    let now = recorded_in l.on in
    let these = cursors_on l.on in
    record {
      settled : IsSettled now;
      stands : Stands l.on;
      same : setting_in l.on ≡ setting_in l.initial.on;
      pacing : l.on.books.pacing ≡ l.initial.on.books.pacing;
      scripts : scripts_of these ≡ scripts_of (cursors_on l.initial.on);
      cursors : AreCursors now these;
      periods : ArePeriods (pace_on l.initial.on) now.setting.layout now.history;
      cycles : now.cycles ≤ now.parts;
      left : now.parts + total_left now these ≤ total_left (recorded_in l.initial.on) (cursors_on l.initial.on);
      run : l.run ≡ next_run (pace_on l.initial.on) now.setting.layout now.history;
      some : 0 < l.run;
      opens : MayOpenOn l.on l.run;
      logged : HasLogged now.history l.log;
      told_few : AreFew now.parts l.log;
    }

abbrev pub decreases-loop-on : goal.decreases-loop-on
decreases-loop-on g l = total_left (recorded_in l.on) (cursors_on l.on)
