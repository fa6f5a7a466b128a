-- Answers to the goals of recording::RecordingRecorder::call.
use Rattle.std.proofs.Common.{◌∙◌, ap, sym, subst, refl}
use Rattle.tide_model.specs.Answer.{IsAnswer}
use Rattle.tide_model.specs.Applied.{after_call}
use Rattle.tide_periods.specs.Recorded.{Recorded}
use Rattle.tide_periods.specs.Store.{Setting}
use Rattle.tide_periods.proofs.RecordedLaws.{MadeCall-did, StandsIdle-called, recorded_of}
use Rattle.tide_periods.proofs.recording.RecordingRecorder.call.Goals as goal

pub returns-clause-made : goal.returns-clause-made
returns-clause-made g c =
    let self = c.args.self.now in
    let store = c.call-reply.new.self in
    let old : Recorded = recorded_of (g.S.Store.setting self.store) (g.S.Store.state self.store) self.events.items self.cycles self.parts self.blocks in
    let new : Recorded = recorded_of (g.S.Store.setting store) (g.S.Store.state store) c.append.new.list.items self.cycles self.parts self.blocks in
    let did = c.call-reply.ensures in
    MadeCall-did old new c.args.who c.args.op c.call-reply.result c.taken-took.result c.requires.settled
    c.requires.stands.clean c.requires.stands.untaken c.requires.asks
    (subst (IsAnswer old.setting.layout old.setting.shapes old.state c.args.who c.args.op c.call-reply.result) (sym c.taken-took.ensures) did.answers)
    (did.leaves ∙ ap (after_call old.state c.args.who c.args.op c.call-reply.result) (sym c.taken-took.ensures))
    did.room did.setting
    c.in_ok-append.ensures refl refl refl

pub returns-clause-stands : goal.returns-clause-stands
returns-clause-stands g c =
    let self = c.args.self.now in
    let store = c.call-reply.new.self in
    StandsIdle-called (g.S.Store.setting self.store).layout (g.S.Store.setting store).layout (g.S.Store.state self.store) (g.S.Store.state store)
    self.events.items c.append.new.list.items self.report c.args.who c.args.op c.call-reply.result c.taken-took.result c.requires.stands
    (ap (λ (s : Setting). s.layout) c.call-reply.ensures.setting)
    (c.call-reply.ensures.leaves ∙ ap (after_call (g.S.Store.state self.store) c.args.who c.args.op c.call-reply.result) (sym c.taken-took.ensures))
    c.in_ok-append.ensures
