-- Answers to the goals of part::run_share.
use Rattle.std.proofs.Common.{◌∙◌, arith, ap, sym, subst, ◌≡◌, ◌+◌, length}
use Rattle.std.specs.Prelude.{map}
use Rattle.tide_periods.specs.Answered.{pair_of}
use Rattle.tide_periods.specs.Asking.{next_of, standing_of, IsMutatorAt}
use Rattle.tide_periods.proofs.PartLoops.{IsSharing}
use Rattle.tide_periods.specs.Recorded.{MadeCall, MayAsk}
use Rattle.tide_periods.proofs.CursorLaws.{MayAsk-next}
use Rattle.tide_periods.proofs.LeftLaws.{left-none, left-some, left-took}
use Rattle.tide_periods.proofs.Sharing.{IsCursor-took, IsSharing-called, RanShare-stops}
use Rattle.tide_periods.proofs.part.run_share.Goals as goal

pub call-requires-clause-asks : goal.call-requires-clause-asks
call-requires-clause-asks g c =
    let now = g.T.Recorder.recorded c.loop-made.recorder in
    let cursor = c.loop-made.cursor in
    let is : c.next-op.result ≡ next_of cursor.ops.items (standing_of cursor) (length (now.state.claims cursor.who)) =
    c.next-op.ensures ∙ ap (next_of cursor.ops.items (standing_of cursor)) c.claims.ensures in
    subst (MayAsk now cursor.who) (sym is)
    (MayAsk-next now cursor.who cursor.ops.items (standing_of cursor) (map pair_of cursor.calls.items) c.loop-made.invariant.sharing.settled c.loop-made.invariant.cursor c.if-cursor.false)

pub returns-then-branch-clause-ran : goal.returns-then-branch-clause-ran
returns-then-branch-clause-ran g c =
    let old = g.T.Recorder.recorded c.args.recorder.now in
    let now = g.T.Recorder.recorded c.loop-made.recorder in
    let new = g.T.Recorder.recorded c.call.new.self in
    let cursor = c.loop-made.cursor in
    let who = c.args.cursor.now.who in
    let at = subst (λ w. IsMutatorAt now.setting now.history w cursor.ops.items (standing_of cursor) (map pair_of cursor.calls.items)) c.loop-made.invariant.who c.loop-made.invariant.cursor in
    let made = subst (λ w. MadeCall now new w c.next-op.result c.in_ok-reply.reply) c.loop-made.invariant.who c.in_ok-reply.ensures.made in
    let sharing = IsSharing-called old now new c.args.run who c.loop-made._made cursor.ops.items (standing_of cursor) (map pair_of cursor.calls.items) c.claims.result
    c.next-op.result c.in_ok-reply.reply c.loop-made.invariant.sharing c.loop-made-test.true at c.next-op.ensures made in
    RanShare-stops old new c.args.run who (c.loop-made._made + 1)
    (subst (IsSharing old new c.args.run who (c.loop-made._made + 1)) (sym c.in_ok-take.ensures.stops ∙ c.if-branch.true) sharing)

pub returns-then-branch-clause-cursor : goal.returns-then-branch-clause-cursor
returns-then-branch-clause-cursor g c =
    let now = g.T.Recorder.recorded c.loop-made.recorder in
    let cursor = c.loop-made.cursor in
    IsCursor-took now (g.T.Recorder.recorded c.call.new.self) cursor c.take.new.self c.next-op.result c.in_ok-reply.reply c.loop-made.invariant.sharing.settled c.loop-made.invariant.cursor
    c.if-cursor.false (c.next-op.ensures ∙ ap (next_of cursor.ops.items (standing_of cursor)) c.claims.ensures) c.in_ok-reply.ensures.made c.in_ok-take.ensures.took

pub loop-made-preserved : goal.loop-made-preserved
loop-made-preserved g c =
    let old = g.T.Recorder.recorded c.args.recorder.now in
    let now = g.T.Recorder.recorded c.loop-made.recorder in
    let new = g.T.Recorder.recorded c.call.new.self in
    let cursor = c.loop-made.cursor in
    let who = c.args.cursor.now.who in
    let at = subst (λ w. IsMutatorAt now.setting now.history w cursor.ops.items (standing_of cursor) (map pair_of cursor.calls.items)) c.loop-made.invariant.who c.loop-made.invariant.cursor in
    let made = subst (λ w. MadeCall now new w c.next-op.result c.in_ok-reply.reply) c.loop-made.invariant.who c.in_ok-reply.ensures.made in
    let sharing = IsSharing-called old now new c.args.run who c.loop-made._made cursor.ops.items (standing_of cursor) (map pair_of cursor.calls.items) c.claims.result
    c.next-op.result c.in_ok-reply.reply c.loop-made.invariant.sharing c.loop-made-test.true at c.next-op.ensures made in
    record {
      sharing = subst (IsSharing old new c.args.run who (c.loop-made._made + 1)) (sym c.in_ok-take.ensures.stops ∙ c.if-branch.false) sharing;
      cursor = IsCursor-took now new cursor c.take.new.self c.next-op.result c.in_ok-reply.reply c.loop-made.invariant.sharing.settled c.loop-made.invariant.cursor
          c.if-cursor.false (c.next-op.ensures ∙ ap (next_of cursor.ops.items (standing_of cursor)) c.claims.ensures) c.in_ok-reply.ensures.made c.in_ok-take.ensures.took;
      left = (let fewer = left-took now new cursor c.take.new.self c.next-op.result c.in_ok-reply.reply c.loop-made.invariant.sharing.settled c.loop-made.invariant.cursor
          c.if-cursor.false (c.next-op.ensures ∙ ap (next_of cursor.ops.items (standing_of cursor)) c.claims.ensures) c.in_ok-reply.ensures.made c.in_ok-take.ensures.took in
          let before = c.loop-made.invariant.left in omega (arith, fewer, before));
      stands = c.in_ok-reply.ensures.stands;
      ops = c.in_ok-take.ensures.took.ops ∙ c.loop-made.invariant.ops;
      who = c.in_ok-take.ensures.took.who ∙ c.loop-made.invariant.who;
    }

pub returns-then-branch-clause-left : goal.returns-then-branch-clause-left
returns-then-branch-clause-left g c =
    let now = g.T.Recorder.recorded c.loop-made.recorder in
    let new = g.T.Recorder.recorded c.call.new.self in
    let cursor = c.loop-made.cursor in
    let fewer = left-took now new cursor c.take.new.self c.next-op.result c.in_ok-reply.reply c.loop-made.invariant.sharing.settled c.loop-made.invariant.cursor
    c.if-cursor.false (c.next-op.ensures ∙ ap (next_of cursor.ops.items (standing_of cursor)) c.claims.ensures) c.in_ok-reply.ensures.made c.in_ok-take.ensures.took in
    let before = c.loop-made.invariant.left in
    omega (arith, fewer, before)

pub returns-then-branch-clause-fewer : goal.returns-then-branch-clause-fewer
returns-then-branch-clause-fewer g c some stays =
    let now = g.T.Recorder.recorded c.loop-made.recorder in
    let new = g.T.Recorder.recorded c.call.new.self in
    let cursor = c.loop-made.cursor in
    let fewer = left-took now new cursor c.take.new.self c.next-op.result c.in_ok-reply.reply c.loop-made.invariant.sharing.settled c.loop-made.invariant.cursor
    c.if-cursor.false (c.next-op.ensures ∙ ap (next_of cursor.ops.items (standing_of cursor)) c.claims.ensures) c.in_ok-reply.ensures.made c.in_ok-take.ensures.took in
    let before = c.loop-made.invariant.left in
    omega (arith, fewer, before)

pub returns-then-cursor-clause-fewer : goal.returns-then-cursor-clause-fewer
returns-then-cursor-clause-fewer g c some stays =
    let old = g.T.Recorder.recorded c.args.recorder.now in
    let first = c.args.cursor.now in
    let none = left-none (g.T.Recorder.recorded c.loop-made.recorder).state.claims c.loop-made.cursor c.if-cursor.true in
    let had = left-some first.ops.items (standing_of first) (length (old.state.claims first.who)) stays in
    omega (arith, none, had)
