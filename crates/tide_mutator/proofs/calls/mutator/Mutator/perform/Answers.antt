-- Why a call that is done stands in its caller's order, and its mutator rests again with the claims that it has.
use Rattle.std.proofs.Common.{◌≡◌, sym, ◌∙◌, ap, subst, false, List, length, ℕ}
use Rattle.std.specs.Prelude.{nat_le}
use Rattle.tide_model.specs.Refused.{claims_most}
use Rattle.tide_mutator.proofs.calls_laws.Ended.{called_by, claims_then, has_room, rests_after}
use Rattle.tide_mutator.proofs.calls_laws.Unread.{called_unread, claims_unread, rests_unread}
use Rattle.tide_heap.specs.tide_call.Claims.{claims_by_action}
use Rattle.tide_mutator.proofs.calls.mutator.Mutator.perform.Goals as goal

pub returns-clause-called : goal.returns-clause-called
returns-clause-called g c =
    let h = c.args.heap.now in
    let layout = h.key.layout in
    let shapes = g.S.ShapeTable.lists h.key.shapes in
    let v = c.args.self.now.own.pass.seat.me.0 in
    let w = c.decide-action.new.own.pass.seat.me.0 in
    let d = c.decide-action.ensures in
    let u = c.act-reply.new.pass.seat.me.0 in
    called_unread v w d.same_view.2 layout shapes c.args.op c.act-reply.result u
    (called_by layout shapes c.args.op c.decide-action.result c.act-reply.result w u d.may.calling d.may.planned
    c.act-reply.ensures.answered.done)

pub invariant_of-self-clause-rests : goal.invariant_of-self-clause-rests
invariant_of-self-clause-rests g c =
    let h = c.args.heap.now in
    let layout = h.key.layout in
    let shapes = g.S.ShapeTable.lists h.key.shapes in
    let v = c.args.self.now.own.pass.seat.me.0 in
    let w = c.decide-action.new.own.pass.seat.me.0 in
    let d = c.decide-action.ensures in
    let u = c.act-reply.new.pass.seat.me.0 in
    rests_after layout shapes c.args.op c.decide-action.result c.act-reply.result w u d.may.calling d.may.planned
    c.act-reply.ensures.answered.done (rests_unread v w d.same_view.2 c.args.self.now.rests)

pub invariant_of-self-clause-claimed : goal.invariant_of-self-clause-claimed
invariant_of-self-clause-claimed g c =
    let h = c.args.heap.now in
    let layout = h.key.layout in
    let shapes = g.S.ShapeTable.lists h.key.shapes in
    let v = c.args.self.now.own.pass.seat.me.0 in
    let w = c.decide-action.new.own.pass.seat.me.0 in
    let d = c.decide-action.ensures in
    let u = c.act-reply.new.pass.seat.me.0 in
    c.keep_claims.ensures
    ∙ ap (claims_by_action c.act-reply.result c.args.op c.decide-action.result)
    (c.args.self.now.claimed ∙ sym (claims_unread v w d.same_view.2))
    ∙ sym (claims_then layout shapes c.args.op c.decide-action.result c.act-reply.result w u d.may.calling d.may.planned
    c.act-reply.ensures.answered.done)

pub keep_claims-requires-clause-room : goal.keep_claims-requires-clause-room
keep_claims-requires-clause-room g c = λ src cell full same_op same_action same_reply.
    let h = c.args.heap.now in
    let layout = h.key.layout in
    let shapes = g.S.ShapeTable.lists h.key.shapes in
    let v = c.args.self.now.own.pass.seat.me.0 in
    let w = c.decide-action.new.own.pass.seat.me.0 in
    let d = c.decide-action.ensures in
    let u = c.act-reply.new.pass.seat.me.0 in
    subst (λ (l : List ℕ). nat_le claims_most (length l) ≡ false)
    (claims_unread v w d.same_view.2 ∙ sym c.args.self.now.claimed)
    (has_room layout shapes c.args.op c.decide-action.result c.act-reply.result w u d.may.calling d.may.planned
    c.act-reply.ensures.answered.done src cell full same_op same_action same_reply)
