-- Answers to the goals of recording::RecordingRecorder::freeze.
use Rattle.std.proofs.Common.{sym, subst, arith, Bool}
use Rattle.tide_periods.specs.Periods.{RanFreeze}
use Rattle.tide_sched.specs.Paces.{pace_of}
use Rattle.tide_periods.specs.Recorded.{Recorded}
use Rattle.tide_periods.proofs.Freezing.{RanFreeze-cycle, RanFreeze-rest}
use Rattle.tide_periods.proofs.RecordedLaws.{recorded_of}
use Rattle.tide_periods.proofs.recording.RecordingRecorder.freeze.Goals as goal

pub returns-in_ok-cycle-clause-ran : goal.returns-in_ok-cycle-clause-ran
returns-in_ok-cycle-clause-ran g c =
    let self = c.args.self.now in
    let now = c.cycle.new.self in
    let old : Recorded = recorded_of (g.S.Store.setting self.store) (g.S.Store.state self.store) self.events.items self.cycles self.parts self.blocks in
    let new : Recorded = recorded_of (g.S.Store.setting now.store) (g.S.Store.state now.store) now.events.items now.cycles now.parts now.blocks in
    let pace = pace_of c.args.pacing in
    subst (λ (must : Bool). RanFreeze old new pace must c.args.pacing.calls) (sym c.if-is_forced.true)
    (RanFreeze-cycle old new pace c.requires.settled c.requires.stands.rests (let least = c.args.pacing.calls_least in omega (arith, least)) c.in_ok-cycle.ensures.ran)

pub returns-else-is_forced-clause-ran : goal.returns-else-is_forced-clause-ran
returns-else-is_forced-clause-ran g c =
    let self = c.args.self.now in
    let old : Recorded = recorded_of (g.S.Store.setting self.store) (g.S.Store.state self.store) self.events.items self.cycles self.parts self.blocks in
    let pace = pace_of c.args.pacing in
    subst (λ (must : Bool). RanFreeze old old pace must c.args.pacing.calls) (sym c.if-is_forced.false)
    (RanFreeze-rest old pace c.requires.settled c.requires.stands.rests (let least = c.args.pacing.calls_least in omega (arith, least)) c.requires.paces)
