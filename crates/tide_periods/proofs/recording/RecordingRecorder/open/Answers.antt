-- Answers to the goals of recording::RecordingRecorder::open.
use Rattle.std.proofs.Common.{◌+◌, refl}
use Rattle.tide_periods.specs.Recorded.{Recorded}
use Rattle.tide_periods.proofs.RecordedLaws.{OpenedPart-did, StandsIdle-opened, recorded_of}
use Rattle.tide_periods.proofs.recording.RecordingRecorder.open.Goals as goal

pub returns-clause-opened : goal.returns-clause-opened
returns-clause-opened g c =
    let self = c.args.self.now in
    let old : Recorded = recorded_of (g.S.Store.setting self.store) (g.S.Store.state self.store) self.events.items self.cycles self.parts self.blocks in
    let new : Recorded = recorded_of (g.S.Store.setting self.store) (g.S.Store.state self.store) c.enter.new.events.items self.cycles (self.parts + 1) self.blocks in
    OpenedPart-did old new c.args.run (self.parts + 1) c.requires.settled refl refl refl c.in_ok-enter.ensures refl refl refl

pub returns-clause-stands : goal.returns-clause-stands
returns-clause-stands g c =
    let self = c.args.self.now in
    StandsIdle-opened (g.S.Store.setting self.store).layout (g.S.Store.state self.store) self.events.items c.enter.new.events.items self.report
    (self.parts + 1) c.args.run c.requires.stands c.in_ok-enter.ensures
