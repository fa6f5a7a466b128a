-- Why a workload's scripts may run on a heap that threads share, and of which state the snapshot at the end is.
use Rattle.std.proofs.Common.{ℕ, ◌≡◌, ◌≤◌, ◌∙◌, Some, sym, ap, arith, subst, length, map, List}
use Rattle.std.proofs.lemmas.List.{length-map}
use Rattle.tide_model.specs.History.{state_after}
use Rattle.tide_model.specs.Layout.{Layout}
use Rattle.tide_model.specs.declared.entry.Event.{Event}
use Rattle.tide_periods.specs.Asking.{scripts_of}
use Rattle.tide_periods.specs.declared.cursor.ScriptCursor.{ScriptCursor}
use Rattle.tide_periods.specs.declared.run.Finished.{Finished}
use Rattle.tide_retained.specs.Contents.{HasKeysOf}
use Rattle.tide_retained.specs.Holding.{IsSnapshotOf}
use Rattle.tide_threads.specs.OnThreads.{cursors_on, setting_in}
use Rattle.tide_threads.specs.tide_statistics.Statistics.{statistics_in}
use Rattle.tide_workload.specs.Words.{Settings}
use Rattle.tide_run.specs.running.Outcome.{HasLeft, heap_of_kept, history_of}
use Rattle.tide_run.specs.running.Runs.{layout_of_work}
use Rattle.tide_run.specs.declared.running.outcome.Kept.{Kept}
use Rattle.tide_run.specs.declared.running.outcome.Kept.TheVariants.{Heap}
use Rattle.tide_periods.specs.Run.{HasRun}
use Rattle.tide_periods.specs.Store.{Setting}
use Rattle.tide_sched.specs.Paces.{pace_of}
use Rattle.tide_sched.specs.declared.pacing.Pacing.{Pacing}
use Rattle.tide_run.proofs.running_laws.RunLaws.{HasLeft-ran}
use Rattle.tide_run.proofs.running.with_snapshot.run_with_snapshot.Goals as goal

pub run_with_snapshot-requires-clause-few : goal.run_with_snapshot-requires-clause-few
run_with_snapshot-requires-clause-few g c κs within =
    let cursors = cursors_on c.in_ok-on.on in
    let are = c.in_ok-on.ensures.scripts in
    let count : length cursors ≡ length c.args.load.now.scripts = sym (length-map cursors (λ (x : ScriptCursor). x.ops.items)) ∙ ap length are.are in
    let few : length c.args.load.now.scripts ≤ 16 = are.few in
    omega (arith, count, few)

pub run_with_snapshot-requires-clause-short : goal.run_with_snapshot-requires-clause-short
run_with_snapshot-requires-clause-short g c κs within = c.in_ok-on.ensures.scripts.short

pub run_with_snapshot-requires-clause-opens : goal.run_with_snapshot-requires-clause-opens
run_with_snapshot-requires-clause-opens g c κs within = c.in_ok-on.ensures.opens

pub outcome_of-outcome-requires-clause-logged : goal.outcome_of-outcome-requires-clause-logged
outcome_of-outcome-requires-clause-logged g c = λ _.
    c.in_ok-left.ensures.told ∙ ap (λ (x : Finished Kept). statistics_in (history_of x.kept)) (sym c.kept_by_heap-kept.ensures)

pub outcome_of-outcome-requires-clause-none_met : goal.outcome_of-outcome-requires-clause-none_met
outcome_of-outcome-requires-clause-none_met g c = λ none.
    c.in_ok-left.ensures.none_met (ap (λ (s : Setting). s.layout.visitors) c.in_ok-on.ensures.setting ∙ none)

pub outcome_of-outcome-requires-clause-left : goal.outcome_of-outcome-requires-clause-left
outcome_of-outcome-requires-clause-left g c =
    let work = c.args.load.now in
    let ran = c.in_ok-left.left.finished in
    let on = c.in_ok-on in
    let pacing = c.pacing_with-pacing in
    let value = c.settings-settings.ensures.value in (
      pacing.result.trigger,
      subst (HasLeft work pacing.result.trigger c.args.visitors) (sym c.kept_by_heap-kept.ensures)
          (HasLeft-ran work pacing.result c.args.visitors (record { kept = Heap ran.kept; report = ran.report; calls = ran.calls; live = ran.live })
          (setting_in on.on) (scripts_of (cursors_on on.on))
          (subst (λ (p : Pacing). HasRun (setting_in on.on) (pace_of p) (scripts_of (cursors_on on.on)) ran.kept.seat.me.0.seen
          ran.report (map (λ own. own.items) ran.calls.items) ran.live) on.ensures.pacing c.in_ok-left.ensures.ran)
          on.ensures.setting on.ensures.scripts
          (pacing.ensures.calls ∙ ap (λ (s : Settings). s.period) value) (pacing.ensures.visits ∙ ap (λ (s : Settings). s.period) value)
          (pacing.ensures.headroom ∙ ap (λ (s : Settings). s.headroom) value)),
    )

pub returns-clause-run : goal.returns-clause-run
unfolding outcome_of-outcome-requires-clause-left
returns-clause-run g c =
    let work = c.args.load.now in
    let trigger : c.pacing_with-pacing.result.trigger ≡ work.settings.trigger =
    c.pacing_with-pacing.ensures.trigger ∙ ap (λ (s : Settings). s.trigger) c.settings-settings.ensures.value in
    c.outcome_of-outcome.ensures.run work.settings.trigger
    (subst (λ (n : ℕ). HasLeft work n c.args.visitors c.kept_by_heap-kept.result) trigger (outcome_of-outcome-requires-clause-left g c.before).1)

pub returns-clause-heap : goal.returns-clause-heap
returns-clause-heap g c =
    c.outcome_of-outcome.ensures.heap ∙ ap (λ (x : Finished Kept). heap_of_kept x.kept) c.kept_by_heap-kept.ensures
    ∙ ap Some (c.in_ok-left.ensures.heap ∙ c.in_ok-on.ensures.setting)

pub returns-clause-snapshot : goal.returns-clause-snapshot
returns-clause-snapshot g c =
    let layout = layout_of_work c.args.load.now c.args.visitors in
    let ran = c.outcome_of-outcome.result in
    let is_layout : ran.layout ≡ layout = (returns-clause-run g c).layout in
    let history : ran.history ≡ c.in_ok-left.left.finished.kept.seat.me.0.seen =
    c.outcome_of-outcome.ensures.history ∙ ap (λ (x : Finished Kept). history_of x.kept) c.kept_by_heap-kept.ensures in
    subst (λ (l : Layout). IsSnapshotOf l (state_after l ran.history) c.in_ok-left.snapshot) (sym is_layout)
    (subst (λ (h : List Event). IsSnapshotOf layout (state_after layout h) c.in_ok-left.snapshot) (sym history)
    (subst (λ (s : Setting). IsSnapshotOf s.layout (state_after s.layout c.in_ok-left.left.finished.kept.seat.me.0.seen) c.in_ok-left.snapshot) c.in_ok-on.ensures.setting
    c.in_ok-left.ensures.snapshot))

pub returns-clause-keys : goal.returns-clause-keys
returns-clause-keys g c = subst (λ (s : Setting). HasKeysOf s.shapes c.in_ok-left.snapshot) c.in_ok-on.ensures.setting c.in_ok-left.ensures.keys
