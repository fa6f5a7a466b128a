-- Answers to the goals of periods::run_periods.
use Rattle.std.proofs.Common.{◌∙◌, refl, sym, arith, subst}
use Rattle.tide_model.specs.Periods.{ArePeriods, no_period}
use Rattle.tide_sched.specs.Paces.{pace_of}
use Rattle.tide_periods.proofs.Freezing.{is_over-cursors}
use Rattle.tide_periods.proofs.Running.{ArePeriods-ran, RanAll-over, run_of_nothing}
use Rattle.tide_periods.proofs.periods.run_periods.Goals as goal

pub loop-pacing-init : goal.loop-pacing-init
loop-pacing-init g c = record {
  settled = c.requires.settled;
  stands = c.requires.stands;
  same = refl;
  scripts = refl;
  cursors = c.requires.cursors;
  periods = subst (ArePeriods (pace_of c.args.pacing) (g.T.Parts.recorded c.args.parts.now).setting.layout) (sym c.requires.nothing) no_period;
  cycles = omega arith;
  left = omega arith;
  run = run_of_nothing (pace_of c.args.pacing) (g.T.Parts.recorded c.args.parts.now) c.requires.nothing;
  some = (let least = c.args.pacing.calls_least in omega (arith, least));
}

pub run_period-requires-clause-goes_on : goal.run_period-requires-clause-goes_on
run_period-requires-clause-goes_on g c =
    sym (is_over-cursors (g.T.Parts.recorded c.loop-pacing.parts) (g.T.Parts.cursors c.loop-pacing.parts) c.loop-pacing.invariant.cursors) ∙ sym c.are_all_retired.ensures ∙ c.loop-pacing-test.true

pub loop-pacing-preserved : goal.loop-pacing-preserved
loop-pacing-preserved g c =
    let old = g.T.Parts.recorded c.loop-pacing.parts in
    let new = g.T.Parts.recorded c.run_period.new.parts in
    let ran = c.in_ok-run.ensures.ran in
    let fewer = c.in_ok-run.ensures.left in
    let cycles = ran.cycles in
    let parts = ran.parts in
    let had = c.loop-pacing.invariant.cycles in
    let left = c.loop-pacing.invariant.left in
    record {
      settled = ran.settled;
      stands = c.in_ok-run.ensures.stands;
      same = ran.same ∙ c.loop-pacing.invariant.same;
      scripts = c.in_ok-run.ensures.scripts ∙ c.loop-pacing.invariant.scripts;
      cursors = c.in_ok-run.ensures.cursors;
      periods = ArePeriods-ran old new (pace_of c.args.pacing) c.in_ok-run.run' ran c.loop-pacing.invariant.periods;
      cycles = omega (arith, cycles, parts, had);
      left = omega (arith, parts, left, fewer);
      run = ran.next;
      some = ran.some;
    }

pub returns : goal.returns
returns g c = record {
  stands = c.loop-pacing.invariant.stands;
  same = c.loop-pacing.invariant.same;
  scripts = c.loop-pacing.invariant.scripts;
  ran = RanAll-over (g.T.Parts.recorded c.loop-pacing.parts) (pace_of c.args.pacing) (g.T.Parts.cursors c.loop-pacing.parts) c.loop-pacing.invariant.settled c.loop-pacing.invariant.cursors
      c.loop-pacing.invariant.periods (sym c.are_all_retired.ensures ∙ c.loop-pacing-test.false);
}
