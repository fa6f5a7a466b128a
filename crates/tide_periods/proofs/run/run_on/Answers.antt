-- Answers to the goals of run::run_on.
use Rattle.std.proofs.Common.{◌≡◌, ◌∙◌, sym, ap, arith, subst, map, List}
use Rattle.tide_model.specs.declared.entry.Event.{Event}
use Rattle.tide_model.specs.Cycle.{begin_count}
use Rattle.tide_model.specs.Periods.{open_count}
use Rattle.tide_report.specs.Ends.{TellsEnds}
use Rattle.tide_periods.specs.declared.cursor.ScriptCursor.{ScriptCursor}
use Rattle.tide_periods.specs.Asking.{scripts_of}
use Rattle.tide_sched.specs.Paces.{pace_of}
use Rattle.tide_periods.specs.Recorded.{Recorded}
use Rattle.tide_periods.proofs.Running.{HasRun-over}
use Rattle.tide_periods.proofs.Starting.{total-few}
use Rattle.tide_periods.proofs.run.run_on.Goals as goal

pub run_periods-requires-clause-cycles : goal.run_periods-requires-clause-cycles
run_periods-requires-clause-cycles g c = sym c.requires.settled.begun ∙ ap begin_count c.requires.nothing

pub run_periods-requires-clause-parts : goal.run_periods-requires-clause-parts
run_periods-requires-clause-parts g c = sym c.requires.settled.opens ∙ ap open_count c.requires.nothing

pub run_periods-requires-clause-room : goal.run_periods-requires-clause-room
run_periods-requires-clause-room g c =
    let total = total-few (g.T.Parts.recorded c.args.parts).state.claims (g.T.Parts.cursors c.args.parts) c.requires.settled.few c.requires.short in
    let few = c.requires.few in
    omega (arith, total, few)

pub returns : goal.returns
returns g c =
    let recorded : Recorded = g.T.Parts.recorded c.run_periods.new.parts in
    let ran = c.in_ok-run_periods.ensures in
    let left = c.in_ok-kept in
    let history : g.T.Parts.history_of left.kept ≡ recorded.history = left.ensures.history ∙ ap (λ (r : Recorded). r.history) c.live-live.ensures.same in
    HasRun-over (g.T.Parts.recorded c.args.parts).setting (pace_of c.args.pacing) (scripts_of (g.T.Parts.cursors c.args.parts)) recorded (g.T.Parts.cursors c.run_periods.new.parts)
    (g.T.Parts.history_of left.kept) left.report (map (λ own. own.items) left.calls.items) c.live-live.result ran.ran ran.same ran.scripts history
    (subst (λ (h : List Event). TellsEnds recorded.setting.layout h left.report) (sym history)
    (subst (λ (r : Recorded). TellsEnds r.setting.layout r.history left.report) c.live-live.ensures.same left.ensures.report))
    (left.ensures.calls ∙ ap (map (λ (x : ScriptCursor). x.calls.items)) c.live-live.ensures.cursors) c.live-live.ensures.live
