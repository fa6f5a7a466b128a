-- Why a run that ends with a snapshot is one of the scripts, and of which state the snapshot is.
use Rattle.std.proofs.Common.{◌≡◌, ◌∙◌, sym, ap, arith, subst, map, List}
use Rattle.tide_model.specs.Cycle.{begin_count, live_count}
use Rattle.tide_model.specs.Periods.{open_count}
use Rattle.tide_model.specs.declared.entry.Event.{Event}
use Rattle.tide_periods.proofs.Running.{HasRun-over}
use Rattle.tide_periods.proofs.Starting.{total-few}
use Rattle.tide_periods.specs.Asking.{scripts_of}
use Rattle.tide_periods.specs.Recorded.{Recorded}
use Rattle.tide_periods.specs.Store.{Setting}
use Rattle.tide_periods.specs.declared.cursor.ScriptCursor.{ScriptCursor}
use Rattle.tide_report.specs.Ends.{TellsEnds}
use Rattle.tide_model.specs.History.{state_after}
use Rattle.tide_retained.specs.Contents.{HasKeysOf}
use Rattle.tide_retained.specs.Holding.{IsSnapshotOf}
use Rattle.tide_table.specs.tide_statistics.Statistics.{Logged, statistics_in}
use Rattle.tide_threads.specs.OnThreads.{cursors_on, pace_on, recorded_in, setting_in}
use Rattle.tide_threads.proofs.Fresh.{IsSettled-fresh}
use Rattle.tide_threads.proofs.with_snapshot.run_with_snapshot.Goals as goal

pub run_periods-requires-clause-settled : goal.run_periods-requires-clause-settled
run_periods-requires-clause-settled g c κs within = IsSettled-fresh (setting_in c.args.on) (recorded_in c.args.on).history c.requires.nothing

pub run_periods-requires-clause-cycles : goal.run_periods-requires-clause-cycles
run_periods-requires-clause-cycles g c κs within = ap begin_count c.requires.nothing

pub run_periods-requires-clause-parts : goal.run_periods-requires-clause-parts
run_periods-requires-clause-parts g c κs within = ap open_count c.requires.nothing

pub run_periods-requires-clause-room : goal.run_periods-requires-clause-room
run_periods-requires-clause-room g c κs within =
    let settled = IsSettled-fresh (setting_in c.args.on) (recorded_in c.args.on).history c.requires.nothing in
    let total = total-few (recorded_in c.args.on).state.claims (cursors_on c.args.on) settled.few c.requires.short in
    let few = c.requires.few in
    omega (arith, total, few)

pub close_run-requires-clause-retired : goal.close_run-requires-clause-retired
close_run-requires-clause-retired g c =
    ap (Rattle.std.specs.List.list_all (λ (x : ScriptCursor). x.retired)) c.in_ok-snapshot.ensures.cursors
    ∙ c.in_ok-run_periods.ensures.retired

pub returns : goal.returns
returns g c =
    let recorded : Recorded = recorded_in c.run_periods.new.on in
    let ran = c.in_ok-run_periods.ensures in
    let shown = c.in_ok-snapshot in
    let same = shown.ensures.same in
    let made = c.in_ok-left in
    let left = made.left.finished in
    let history : left.kept.seat.me.0.seen ≡ recorded.history = made.ensures.history ∙ ap (λ (r : Recorded). r.history) same in
    record {
      ran = HasRun-over (setting_in c.args.on) (pace_on c.args.on) (scripts_of (cursors_on c.args.on)) recorded
          (cursors_on c.run_periods.new.on) left.kept.seat.me.0.seen left.report (map (λ own. own.items) left.calls.items)
          left.live ran.ran ran.same ran.scripts history
          (subst (λ (h : List Event). TellsEnds recorded.setting.layout h left.report) (sym history)
          (subst (λ (r : Recorded). TellsEnds r.setting.layout r.history left.report) same made.ensures.report))
          (made.ensures.calls ∙ ap (map (λ (x : ScriptCursor). x.calls.items)) shown.ensures.cursors)
          (made.ensures.live ∙ ap (λ (r : Recorded). live_count r.setting.layout r.state) same);
      heap = made.ensures.heap ∙ ap (λ (r : Recorded). r.setting) same ∙ ran.same;
      told = ap (λ (l : Logged). l.ended) made.ensures.log ∙ ran.logged.ended ∙ ap statistics_in (sym history);
      none_met = λ none. made.ensures.none_met (ap (λ (r : Recorded). r.setting.layout.visitors) same ∙ ap (λ (s : Setting). s.layout.visitors) ran.same ∙ none);
      snapshot = subst (λ (h : List Event). IsSnapshotOf (setting_in c.args.on).layout (state_after (setting_in c.args.on).layout h) shown.snapshot) (sym history)
          (subst (λ (s : Setting). IsSnapshotOf s.layout (state_after s.layout recorded.history) shown.snapshot) ran.same shown.ensures.snapshot);
      keys = subst (λ (s : Setting). HasKeysOf s.shapes shown.snapshot) ran.same shown.ensures.keys;
    }
