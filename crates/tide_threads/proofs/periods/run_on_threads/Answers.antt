-- Why a run on threads is one of the scripts.
use Rattle.std.proofs.Common.{◌∙◌, sym, ap, arith, subst, map, List}
use Rattle.tide_model.specs.Cycle.{begin_count}
use Rattle.tide_model.specs.Periods.{open_count}
use Rattle.tide_model.specs.declared.entry.Event.{Event}
use Rattle.tide_periods.proofs.Running.{HasRun-over}
use Rattle.tide_periods.proofs.Starting.{total-few}
use Rattle.tide_periods.specs.Asking.{scripts_of}
use Rattle.tide_periods.specs.Recorded.{Recorded}
use Rattle.tide_periods.specs.Store.{Setting}
use Rattle.tide_report.specs.Ends.{TellsEnds}
use Rattle.tide_table.specs.tide_statistics.Statistics.{Logged, statistics_in}
use Rattle.tide_threads.specs.OnThreads.{cursors_on, pace_on, recorded_in, setting_in}
use Rattle.tide_threads.proofs.Fresh.{IsSettled-fresh}
use Rattle.tide_threads.proofs.periods.run_on_threads.Goals as goal

pub run_periods-requires-clause-settled : goal.run_periods-requires-clause-settled
run_periods-requires-clause-settled g c κs within = IsSettled-fresh (setting_in c.args.on) (recorded_in c.args.on).history c.requires.nothing

pub run_periods-requires-clause-cycles : goal.run_periods-requires-clause-cycles
run_periods-requires-clause-cycles g c κs within = ap begin_count c.requires.nothing

pub run_periods-requires-clause-parts : goal.run_periods-requires-clause-parts
run_periods-requires-clause-parts g c κs within = ap open_count c.requires.nothing

pub run_periods-requires-clause-room : goal.run_periods-requires-clause-room
run_periods-requires-clause-room g c κs within =
    let settled = IsSettled-fresh (setting_in c.args.on) (recorded_in c.args.on).history c.requires.nothing in
    let total = total-few (recorded_in c.args.on).state.claims (cursors_on c.args.on) settled.few c.requires.short in
    let few = c.requires.few in
    omega (arith, total, few)

pub returns : goal.returns
returns g c =
    let recorded : Recorded = recorded_in c.run_periods.new.on in
    let ran = c.in_ok-run_periods.ensures in
    let made = c.in_ok-left in
    let left = made.left.finished in
    record {
      ran = HasRun-over (setting_in c.args.on) (pace_on c.args.on) (scripts_of (cursors_on c.args.on)) recorded
          (cursors_on c.run_periods.new.on) left.kept.seat.me.0.seen left.report (map (λ own. own.items) left.calls.items)
          left.live ran.ran ran.same ran.scripts made.ensures.history
          (subst (λ (h : List Event). TellsEnds recorded.setting.layout h left.report) (sym made.ensures.history) made.ensures.report)
          made.ensures.calls made.ensures.live;
      heap = made.ensures.heap ∙ ran.same;
      told = ap (λ (l : Logged). l.ended) made.ensures.log ∙ ran.logged.ended ∙ ap statistics_in (sym made.ensures.history);
      none_met = λ none. made.ensures.none_met (ap (λ (s : Setting). s.layout.visitors) ran.same ∙ none);
    }
