-- Why periods follow one another until all have retired.
use Rattle.std.proofs.Common.{ℕ, ◌∙◌, refl, sym, arith, subst, List}
use Rattle.tide_model.specs.Periods.{ArePeriods, no_period}
use Rattle.tide_periods.proofs.Freezing.{is_over-cursors}
use Rattle.tide_periods.proofs.Running.{ArePeriods-ran, RanAll-over, run_of_nothing}
use Rattle.tide_periods.specs.Periods.{RanPeriod}
use Rattle.tide_model.specs.declared.entry.Event.{Event}
use Rattle.tide_sched.specs.Paces.{pace_of}
use Rattle.tide_sched.specs.declared.pacing.Pacing.{Pacing}
use Rattle.tide_table.proofs.tide_statistics.FewLaws.{AreFew-nothing}
use Rattle.tide_table.proofs.tide_statistics.LogLaws.{HasLogged-nothing}
use Rattle.tide_table.specs.tide_statistics.Few.{AreFew}
use Rattle.tide_table.specs.tide_statistics.Statistics.{HasLogged, nothing}
use Rattle.tide_threads.specs.OnThreads.{cursors_on, pace_on, recorded_in, setting_in}
use Rattle.tide_threads.proofs.periods.run_periods.Goals as goal

pub loop-on-init : goal.loop-on-init
loop-on-init g c = record {
  settled = c.requires.settled;
  stands = c.requires.stands;
  same = refl;
  pacing = refl;
  scripts = refl;
  cursors = c.requires.cursors;
  periods = subst (ArePeriods (pace_on c.args.on.now) (setting_in c.args.on.now).layout) (sym c.requires.nothing) no_period;
  cycles = (let none = c.requires.cycles in omega (arith, none));
  left = (let none = c.requires.parts in omega (arith, none));
  run = run_of_nothing (pace_on c.args.on.now) (recorded_in c.args.on.now) c.requires.nothing;
  some = (let least = c.args.on.now.books.pacing.calls_least in omega (arith, least));
  opens = c.requires.opens;
  logged = subst (HasLogged (recorded_in c.args.on.now).history) (sym c.requires.logged)
      (subst (λ (h : List Event). HasLogged h nothing) (sym c.requires.nothing) HasLogged-nothing);
  told_few = subst (AreFew (recorded_in c.args.on.now).parts) (sym c.requires.logged)
      (subst (λ (n : ℕ). AreFew n nothing) (sym c.requires.parts) AreFew-nothing);
}

pub run_period-requires-clause-goes_on : goal.run_period-requires-clause-goes_on
run_period-requires-clause-goes_on g c κs within =
    sym (is_over-cursors (recorded_in c.loop-on.on) (cursors_on c.loop-on.on) c.loop-on.invariant.cursors)
    ∙ sym c.are_all_retired.ensures ∙ c.loop-on-test.true

pub run_period-requires-clause-room : goal.run_period-requires-clause-room
run_period-requires-clause-room g c κs within =
    let had = c.loop-on.invariant.cycles in
    let left = c.loop-on.invariant.left in
    let few = c.requires.room in
    omega (arith, had, left, few)

pub run_period-requires-clause-few : goal.run_period-requires-clause-few
run_period-requires-clause-few g c κs within =
    (let left = c.loop-on.invariant.left in let few = c.requires.room in omega (arith, left, few))

pub loop-on-preserved : goal.loop-on-preserved
loop-on-preserved g c =
    let old = recorded_in c.loop-on.on in
    let new = recorded_in c.run_period.new.on in
    let ran : RanPeriod old new (pace_on c.args.on.now) c.in_ok-run.run' =
    subst (λ (p : Pacing). RanPeriod old new (pace_of p) c.in_ok-run.run') c.loop-on.invariant.pacing c.in_ok-run.ensures.ran in
    let fewer = c.in_ok-run.ensures.left in
    let cycles = ran.cycles in
    let parts = ran.parts in
    let had = c.loop-on.invariant.cycles in
    let left = c.loop-on.invariant.left in
    record {
      settled = ran.settled;
      stands = c.in_ok-run.ensures.stands;
      same = ran.same ∙ c.loop-on.invariant.same;
      pacing = c.in_ok-run.ensures.pacing ∙ c.loop-on.invariant.pacing;
      scripts = c.in_ok-run.ensures.scripts ∙ c.loop-on.invariant.scripts;
      cursors = c.in_ok-run.ensures.cursors;
      periods = ArePeriods-ran old new (pace_on c.args.on.now) c.in_ok-run.run' ran c.loop-on.invariant.periods;
      cycles = omega (arith, cycles, parts, had);
      left = omega (arith, parts, left, fewer);
      run = ran.next;
      some = ran.some;
      opens = c.in_ok-run.ensures.opens;
      logged = c.in_ok-run.ensures.logged;
      told_few = c.in_ok-run.ensures.told_few;
    }

pub returns : goal.returns
returns g c = record {
  stands = c.loop-on.invariant.stands;
  logged = c.loop-on.invariant.logged;
  same = c.loop-on.invariant.same;
  scripts = c.loop-on.invariant.scripts;
  retired = sym c.are_all_retired.ensures ∙ c.loop-on-test.false;
  ran = RanAll-over (recorded_in c.loop-on.on) (pace_on c.args.on.now) (cursors_on c.loop-on.on)
      c.loop-on.invariant.settled c.loop-on.invariant.cursors c.loop-on.invariant.periods
      (sym c.are_all_retired.ensures ∙ c.loop-on-test.false);
}
