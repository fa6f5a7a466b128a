-- Why a part and its freeze make a period.
use Rattle.std.proofs.Common.{ℕ, ◌≡◌, ◌+◌, ◌∙◌, sym, ap, arith, subst, Bool, List}
use Rattle.std.proofs.lemmas.Result.{err_from_is_err_and}
use Rattle.std.specs.Prelude.{◌||◌}
use Rattle.tide_model.specs.Periods.{is_over}
use Rattle.tide_periods.proofs.Freezing.{RanPeriod-by, is_over-cursors}
use Rattle.tide_periods.proofs.Parting.{AreCursors-same}
use Rattle.tide_periods.specs.Asking.{scripts_of}
use Rattle.tide_periods.specs.Left.{total_by, total_left}
use Rattle.tide_periods.specs.Part.{AreCursors}
use Rattle.tide_periods.specs.Periods.{RanFreeze}
use Rattle.tide_sched.specs.Paces.{pace_of}
use Rattle.tide_sched.specs.declared.pacing.Pacing.{Pacing}
use Rattle.tide_table.proofs.tide_statistics.FewLaws.{AreFew-opened}
use Rattle.tide_table.specs.tide_statistics.Few.{AreFewIn}
use Rattle.tide_table.specs.tide_statistics.Statistics.{HasLogged}
use Rattle.tide_threads.proofs.Logs.{HasLogged-parted, last_run-parted, next_run-most}
use Rattle.tide_threads.specs.OnThreads.{cursors_on, pace_on, recorded_in}
use Rattle.tide_threads.proofs.periods.run_period.Goals as goal
use Rattle.tide_threads.proofs.periods.run_period.Goals.{then-stopped, else-stopped}

pub run_part-requires-clause-settled : goal.run_part-requires-clause-settled
run_part-requires-clause-settled g c κs within = c.requires.settled

pub run_part-requires-clause-stands : goal.run_part-requires-clause-stands
run_part-requires-clause-stands g c κs within = c.requires.stands

pub run_part-requires-clause-cursors : goal.run_part-requires-clause-cursors
run_part-requires-clause-cursors g c κs within = c.requires.cursors

pub run_part-requires-clause-opens : goal.run_part-requires-clause-opens
run_part-requires-clause-opens g c κs within = c.requires.opens

pub run_part-requires-clause-few : goal.run_part-requires-clause-few
run_part-requires-clause-few g c κs within = c.requires.few

pub open-requires : goal.open-requires
open-requires g c =
    let few = c.requires.few in
    let most = c.requires.told_few.parts in record { few = omega (arith, few, most) }

pub freeze_and_tell-requires : goal.freeze_and_tell-requires
freeze_and_tell-requires g c =
    let part = c.in_ok-stopped.ensures.ran.ran in
    let old = recorded_in c.args.on.now in
    let ran = recorded_in c.run_part.new.self in
    let log = c.args.log.now in
    let stopped = c.in_ok-stopped.stopped in
    let told = sym c.open.ensures in
    let count : old.parts + 1 ≡ ran.parts = sym (part.ran.counts.parts ∙ part.opened.parts) in
    let last = last_run-parted old ran c.args.run stopped part in
    let most = next_run-most (pace_on c.args.on.now) old.setting.layout old.history in
    let is = c.requires.run in
    let period = c.args.on.now.books.pacing.calls_most in
    let few = c.requires.few in
    let opened = part.opened.parts in
    let parts = part.ran.counts.parts in
    let began = part.opened.cycles in
    let cycles = part.ran.counts.cycles in
    let room = c.requires.room in record {
      settled = part.ran.settled;
      stands = c.in_ok-stopped.ensures.stands;
      opened = omega (arith, opened, parts);
      visits = c.in_ok-stopped.ensures.visits;
      room = omega (arith, room, began, cycles);
      run = omega (arith, last, most, is, period);
      logged = subst (HasLogged ran.history) told (HasLogged-parted old ran c.args.run stopped part log c.requires.logged);
      few = subst (λ (n : ℕ). AreFewIn n c.open.new.self) count
          (subst (AreFewIn (old.parts + 1)) told (AreFew-opened old.parts log c.requires.told_few));
      parts = omega (arith, few, opened, parts);
    }

pub returns-in_err-stopped : goal.returns-in_err-stopped
returns-in_err-stopped g c =
    let failed = err_from_is_err_and c.from_residual.result c.from_residual.ensures.1 in
    rw failed.1 (record { ran = tt; pacing = tt; stands = tt; left = tt; cursors = tt; scripts = tt; opens = tt; logged = tt; told_few = tt })

pub returns-in_err-next : goal.returns-in_err-next
returns-in_err-next g c =
    let failed = err_from_is_err_and c.from_residual-in_err-next.result c.from_residual-in_err-next.ensures.1 in
    rw failed.1 (record { ran = tt; pacing = tt; stands = tt; left = tt; cursors = tt; scripts = tt; opens = tt; logged = tt; told_few = tt })

pub returns : goal.returns
returns g c =
    let old = recorded_in c.args.on.now in
    let ran = recorded_in c.run_part.new.self in
    let new = recorded_in c.freeze_and_tell.new.self in
    let part = c.in_ok-stopped.ensures.ran in
    let stopped = c.in_ok-stopped.stopped in
    let cursors = cursors_on c.args.on.now in
    let cursors_ran = cursors_on c.run_part.new.self in
    let froze : RanFreeze ran new (pace_on c.args.on.now) c.if-stopped.freeze_and_tell c.in_ok-next.next =
    subst (λ (p : Pacing). RanFreeze ran new (pace_of p) c.if-stopped.freeze_and_tell c.in_ok-next.next) c.in_ok-stopped.ensures.pacing c.in_ok-next.ensures.ran in
    let over = c.are_all_retired-is_over.ensures ∙ is_over-cursors ran cursors_ran part.cursors in
    let must : c.if-stopped.freeze_and_tell ≡ (stopped || is_over ran.setting.layout ran.history) = elim c.if-stopped.branch [
      | then-stopped w ↦ w.freeze_and_tell-is ∙ w.if-stopped.true
          ∙ sym (ap (λ (b : Bool). b || is_over ran.setting.layout ran.history) w.if-stopped.true)
      | else-stopped w ↦ w.freeze_and_tell-is ∙ over
          ∙ sym (ap (λ (b : Bool). b || is_over ran.setting.layout ran.history) w.if-stopped.false)
    ] in
    let at_last : total_left new (cursors_on c.freeze_and_tell.new.self) ≡ total_left ran cursors_ran =
    ap (total_left new) c.in_ok-next.ensures.cursors ∙ ap (λ (claims : ℕ → List ℕ). total_by claims cursors_ran) froze.claims in
    let fewer = part.fewer c.requires.calls (is_over-cursors old cursors c.requires.cursors ∙ c.requires.goes_on) in record {
      ran = RanPeriod-by old part.ran.begun ran new (pace_on c.args.on.now) c.args.run c.in_ok-next.next stopped
          c.if-stopped.freeze_and_tell c.requires.goes_on c.requires.run part.ran.opened part.ran.ran froze must;
      pacing = c.in_ok-next.ensures.pacing ∙ c.in_ok-stopped.ensures.pacing;
      stands = c.in_ok-next.ensures.stands;
      left = omega (arith, at_last, fewer);
      cursors = subst (AreCursors new) (sym c.in_ok-next.ensures.cursors)
          (AreCursors-same ran new cursors_ran froze.freeze froze.same froze.history froze.quiet part.cursors);
      scripts = ap scripts_of c.in_ok-next.ensures.cursors ∙ part.scripts;
      opens = c.in_ok-next.ensures.opens;
      logged = c.in_ok-next.ensures.logged;
      told_few = c.in_ok-next.ensures.few;
    }
