-- Why a workload's scripts may run in turn on a store that the workload asks for, and what that leaves.
use Rattle.std.proofs.Common.{◌≡◌, ◌≤◌, ◌∙◌, sym, ap, arith, subst, length, map, All, List, Vec, Global}
use Rattle.std.proofs.lemmas.List.{length-map}
use Rattle.std.specs.Prelude.{false, is_some, true}
use Rattle.tide_model.specs.declared.op.Op.{Op}
use Rattle.tide_periods.specs.Asking.{IsAskable, scripts_of}
use Rattle.tide_sched.specs.Paces.{pace_of}
use Rattle.tide_periods.specs.Recorded.{IsSettled, Recorded}
use Rattle.tide_periods.specs.Run.{HasRun}
use Rattle.tide_periods.specs.Store.{Setting}
use Rattle.tide_periods.specs.declared.cursor.ScriptCursor.{ScriptCursor}
use Rattle.tide_periods.specs.declared.run.Finished.{Finished}
use Rattle.tide_run.specs.running.Outcome.{HasLeft, heap_of_kept}
use Rattle.tide_run.specs.running.Runs.{AreScripts}
use Rattle.tide_run.specs.declared.running.outcome.Kept.{Kept}
use Rattle.tide_run.specs.declared.running.outcome.Kept.TheVariants.{Own}
use Rattle.tide_run.proofs.running_laws.RunLaws.{AreAskable, HasLeft-ran, few_of}
use Rattle.tide_run.proofs.running.on_plain.run_with.Goals as goal

pub new-requires-clause-nothing : goal.new-requires-clause-nothing
new-requires-clause-nothing g c = c.requires.new.nothing

pub new-requires-clause-mutators : goal.new-requires-clause-mutators
new-requires-clause-mutators g c =
    sym (length-map c.args.scripts.items (λ (ops : Vec Op Global). ops.items)) ∙ ap length c.requires.scripts.are
    ∙ ap (λ (s : Setting). s.layout.mutators) (sym c.requires.new.setting)

pub new-requires-clause-few : goal.new-requires-clause-few
new-requires-clause-few g c = few_of c.args.load.now c.args.scripts.items c.requires.scripts

pub new-requires-clause-askable : goal.new-requires-clause-askable
new-requires-clause-askable g c =
    let work = c.args.load.now in
    let scripts = map (λ (ops : Vec Op Global). ops.items) c.args.scripts.items in
    subst (λ (s : Setting). All (All (IsAskable s.layout)) scripts) (sym c.requires.new.setting)
    (AreAskable work (length work.scripts) 0 scripts c.requires.scripts.within)

pub run_on-requires-clause-settled : goal.run_on-requires-clause-settled
run_on-requires-clause-settled g c = subst IsSettled (sym c.in_ok-parts.ensures.recorded) c.requires.new.settled

pub run_on-requires-clause-nothing : goal.run_on-requires-clause-nothing
run_on-requires-clause-nothing g c = ap (λ (r : Recorded). r.history) c.in_ok-parts.ensures.recorded ∙ c.requires.new.nothing

pub run_on-requires-clause-some : goal.run_on-requires-clause-some
run_on-requires-clause-some g c =
    let cursors = c.in_ok-parts.parts.cursors.items in
    let count : length cursors ≡ length c.args.load.now.scripts =
    sym (length-map cursors (λ (x : ScriptCursor). x.ops.items)) ∙ ap length c.in_ok-parts.ensures.scripts ∙ ap length c.requires.scripts.are in
    let some = c.requires.scripts.some in
    omega (arith, count, some)

pub run_on-requires-clause-few : goal.run_on-requires-clause-few
run_on-requires-clause-few g c =
    let cursors = c.in_ok-parts.parts.cursors.items in
    let count : length cursors ≡ length c.args.load.now.scripts =
    sym (length-map cursors (λ (x : ScriptCursor). x.ops.items)) ∙ ap length c.in_ok-parts.ensures.scripts ∙ ap length c.requires.scripts.are in
    let few : length c.args.load.now.scripts ≤ 16 = c.requires.scripts.few in
    omega (arith, count, few)

pub run_on-requires-clause-short : goal.run_on-requires-clause-short
run_on-requires-clause-short g c =
    subst (All (λ (ops : List Op). length ops ≤ 65536)) (sym c.in_ok-parts.ensures.scripts) c.requires.scripts.short

pub outcome_of-requires-clause-logged : goal.outcome_of-requires-clause-logged
outcome_of-requires-clause-logged g c = λ kept.
    absurd (let clash : false ≡ true = sym (ap (λ (x : Finished Kept). is_some (heap_of_kept x.kept)) c.kept_itself.ensures) ∙ kept in cc)

pub outcome_of-requires-clause-left : goal.outcome_of-requires-clause-left
outcome_of-requires-clause-left g c =
    let load = c.args.load.now in
    let pacing = c.args.pacing in
    let ran = c.in_ok-ran.ran in
    let parts = c.in_ok-parts in (
      pacing.trigger,
      subst (HasLeft load pacing.trigger 0) (sym c.kept_itself.ensures)
          (HasLeft-ran load pacing 0 (record { kept = Own (record { events = ran.kept }); report = ran.report; calls = ran.calls; live = ran.live })
          (g.T.Recorder.recorded c.args.recorder).setting (scripts_of parts.parts.cursors.items)
          (subst (λ (r : Recorded). HasRun r.setting (pace_of pacing) (scripts_of parts.parts.cursors.items) ran.kept.items ran.report (map (λ own. own.items) ran.calls.items) ran.live)
          parts.ensures.recorded c.in_ok-ran.ensures)
          c.requires.new.setting (subst (AreScripts load) (sym parts.ensures.scripts) c.requires.scripts) c.requires.calls c.requires.visits c.requires.headroom),
    )

pub returns-clause-run : goal.returns-clause-run
unfolding outcome_of-requires-clause-left
returns-clause-run g c = c.outcome_of.ensures.run c.args.pacing.trigger (outcome_of-requires-clause-left g c.before).1

pub returns-clause-own : goal.returns-clause-own
returns-clause-own g c = c.outcome_of.ensures.heap ∙ ap (λ (x : Finished Kept). heap_of_kept x.kept) c.kept_itself.ensures
