-- Answers to the goals of periods::run_period.
use Rattle.std.proofs.Common.{ℕ, ◌≡◌, ◌∙◌, sym, ap, arith, subst, Bool, List}
use Rattle.std.specs.Prelude.{◌||◌}
use Rattle.tide_model.specs.Periods.{is_over}
use Rattle.tide_periods.specs.Asking.{scripts_of}
use Rattle.tide_periods.specs.Left.{total_by, total_left}
use Rattle.tide_periods.specs.Part.{AreCursors}
use Rattle.tide_periods.specs.Periods.{RanFreeze}
use Rattle.tide_sched.specs.Paces.{pace_of}
use Rattle.tide_periods.proofs.Freezing.{RanPeriod-by, is_over-cursors}
use Rattle.tide_periods.proofs.Parting.{AreCursors-same}
use Rattle.tide_periods.proofs.periods.run_period.Goals as goal
use Rattle.tide_periods.proofs.periods.run_period.Goals.{then-stopped, else-stopped}

pub returns-clause-ran : goal.returns-clause-ran
returns-clause-ran g c =
    let old = g.T.Parts.recorded c.args.parts.now in
    let ran = g.T.Parts.recorded c.run_part.new.self in
    let part = c.in_ok-stopped.ensures.ran in
    let stopped = c.in_ok-stopped.stopped in
    let over = c.are_all_retired-is_over.ensures ∙ is_over-cursors ran (g.T.Parts.cursors c.run_part.new.self) part.cursors in
    let must : c.if-stopped.freeze ≡ (stopped || is_over ran.setting.layout ran.history) = elim c.if-stopped.branch [
      | then-stopped w ↦ w.freeze-is ∙ w.if-stopped.true ∙ sym (ap (λ (b : Bool). b || is_over ran.setting.layout ran.history) w.if-stopped.true)
      | else-stopped w ↦ w.freeze-is ∙ over ∙ sym (ap (λ (b : Bool). b || is_over ran.setting.layout ran.history) w.if-stopped.false)
    ] in
    RanPeriod-by old part.ran.begun ran (g.T.Parts.recorded c.freeze.new.self) (pace_of c.args.pacing) c.args.run c.in_ok-next.next stopped c.if-stopped.freeze
    c.requires.goes_on c.requires.run part.ran.opened part.ran.ran c.in_ok-next.ensures.ran must

pub returns-clause-cursors : goal.returns-clause-cursors
returns-clause-cursors g c =
    let ran = g.T.Parts.recorded c.run_part.new.self in
    let new = g.T.Parts.recorded c.freeze.new.self in
    let froze : RanFreeze ran new (pace_of c.args.pacing) c.if-stopped.freeze c.in_ok-next.next = c.in_ok-next.ensures.ran in
    subst (AreCursors new) (sym c.in_ok-next.ensures.cursors)
    (AreCursors-same ran new (g.T.Parts.cursors c.run_part.new.self) froze.freeze froze.same froze.history froze.quiet c.in_ok-stopped.ensures.ran.cursors)

pub returns-clause-scripts : goal.returns-clause-scripts
returns-clause-scripts g c = ap scripts_of c.in_ok-next.ensures.cursors ∙ c.in_ok-stopped.ensures.ran.scripts

pub returns-clause-left : goal.returns-clause-left
returns-clause-left g c =
    let old = g.T.Parts.recorded c.args.parts.now in
    let ran = g.T.Parts.recorded c.run_part.new.self in
    let new = g.T.Parts.recorded c.freeze.new.self in
    let cursors = g.T.Parts.cursors c.args.parts.now in
    let cursors_ran = g.T.Parts.cursors c.run_part.new.self in
    let froze : RanFreeze ran new (pace_of c.args.pacing) c.if-stopped.freeze c.in_ok-next.next = c.in_ok-next.ensures.ran in
    let at_last : total_left new (g.T.Parts.cursors c.freeze.new.self) ≡ total_left ran cursors_ran =
    ap (total_left new) c.in_ok-next.ensures.cursors ∙ ap (λ (claims : ℕ → List ℕ). total_by claims cursors_ran) froze.claims in
    let fewer = c.in_ok-stopped.ensures.ran.fewer c.requires.calls (is_over-cursors old cursors c.requires.cursors ∙ c.requires.goes_on) in
    omega (arith, at_last, fewer)
