-- Answers to the goals of share::make_share.
use Rattle.std.proofs.Common.{◌+◌, ◌∙◌, refl, sym, ap, arith, subst}
use Rattle.tide_mutator.specs.owed.Standing.{claims_of}
use Rattle.tide_model.proofs.CallLaws.{nothing_of_no_length}
use Rattle.tide_model.specs.Lawful.{FitsLayout}
use Rattle.tide_mutator.specs.calls.Viewed.{view_of}
use Rattle.tide_periods.proofs.CursorLaws.{bare-next, fits-next}
use Rattle.tide_periods.proofs.OwnShares.{IsSharingOwn-nothing, RanOwnShare-over, RanOwnShare-stops}
use Rattle.tide_periods.proofs.PartLoops.{IsSharingOwn}
use Rattle.tide_periods.specs.Asking.{Standing, standing_of}
use Rattle.tide_periods.specs.Store.{Setting}
use Rattle.tide_shape.specs.Lists.{lists_of}
use Rattle.tide_threads.proofs.Grown.{IsSharingOwn-made}
use Rattle.tide_threads.specs.Works.{IsWorking, Same}
use Rattle.tide_threads.proofs.share.make_share.Goals as goal

pub loop-made-init : goal.loop-made-init
loop-made-init g c =
    let v = view_of c.args.mutator.now in
    let key = c.args.heap.now.key in
    let setting : Setting = record { layout = key.layout; shapes = lists_of key.shapes } in
    record {
      sharing = IsSharingOwn-nothing setting c.args.run v.seen v.mine c.args.cursor.now c.requires.knows;
      table = c.requires.own;
      number = c.requires.number;
      works = c.requires.works;
      room = (let room = c.requires.room in omega (arith, room));
      same = refl;
    }

pub make_call-reply-requires-clause-fits : goal.make_call-reply-requires-clause-fits
make_call-reply-requires-clause-fits g c κs within =
    let cursor = c.loop-made.cursor in
    let layout = c.args.heap.now.key.layout in
    subst (FitsLayout layout) (sym c.next-op.ensures)
    (fits-next layout cursor.ops.items (standing_of cursor) c.claims.result c.loop-made.invariant.sharing.after.at.askable)

pub make_call-reply-requires-clause-released : goal.make_call-reply-requires-clause-released
make_call-reply-requires-clause-released g c κs within retire =
    let cursor = c.loop-made.cursor in
    nothing_of_no_length (claims_of (view_of c.loop-made.mutator))
    (sym c.claims.ensures
    ∙ bare-next c.args.heap.now.key.layout cursor.ops.items (standing_of cursor) c.claims.result
    c.loop-made.invariant.sharing.after.at.askable (sym c.next-op.ensures ∙ retire))

pub returns-then-branch-clause-ran : goal.returns-then-branch-clause-ran
returns-then-branch-clause-ran g c =
    let key = c.args.heap.now.key in
    let setting : Setting = record { layout = key.layout; shapes = lists_of key.shapes } in
    let first = view_of c.args.mutator.now in
    let v = view_of c.loop-made.mutator in
    let w = view_of c.make_call-reply.new.mutator in
    let cursor = c.loop-made.cursor in
    let so = c.loop-made.invariant in
    let sharing = IsSharingOwn-made key.layout (lists_of key.shapes) c.args.run c.loop-made._made first v w c.args.cursor.now
    cursor c.take.new.self c.claims.result c.next-op.result c.make_call-reply.result so.sharing c.loop-made-test.true
    (sym c.has_retired.ensures ∙ c.if-has_retired.false) so.number c.claims.ensures c.next-op.ensures
    c.make_call-reply.ensures.makes c.in_ok-take.ensures.took in
    RanOwnShare-stops setting c.args.run c.loop-made._made first.seen w.seen first.mine w.mine c.args.cursor.now c.take.new.self
    (subst (IsSharingOwn setting c.args.run first.seen w.seen first.mine w.mine c.args.cursor.now c.take.new.self
    (c.loop-made._made + 1)) (sym c.in_ok-take.ensures.stops ∙ c.if-branch.true) sharing)

pub loop-made-preserved : goal.loop-made-preserved
loop-made-preserved g c =
    let key = c.args.heap.now.key in
    let setting : Setting = record { layout = key.layout; shapes = lists_of key.shapes } in
    let first = view_of c.args.mutator.now in
    let v = view_of c.loop-made.mutator in
    let w = view_of c.make_call-reply.new.mutator in
    let cursor = c.loop-made.cursor in
    let so = c.loop-made.invariant in
    let call = c.make_call-reply.ensures in
    let took = c.in_ok-take.ensures.took in
    let sharing = IsSharingOwn-made key.layout (lists_of key.shapes) c.args.run c.loop-made._made first v w c.args.cursor.now
    cursor c.take.new.self c.claims.result c.next-op.result c.make_call-reply.result so.sharing c.loop-made-test.true
    (sym c.has_retired.ensures ∙ c.if-has_retired.false) so.number c.claims.ensures c.next-op.ensures call.makes took in
    record {
      sharing = subst (IsSharingOwn setting c.args.run first.seen w.seen first.mine w.mine c.args.cursor.now c.take.new.self
          (c.loop-made._made + 1)) (sym c.in_ok-take.ensures.stops ∙ c.if-branch.false) sharing;
      table = ap (λ (s : Same). s.table_id) call.same ∙ so.table;
      number = took.who ∙ so.number ∙ sym (ap (λ (s : Same). s.kept.who) call.same);
      works = subst (IsWorking key.layout w) (sym (ap (λ (s : Standing). s.retired) took.standing)) call.works;
      room = (let room = so.room in let one = call.room in omega (arith, room, one));
      same = call.same ∙ so.same;
    }

pub returns-clause-ran : goal.returns-clause-ran
returns-clause-ran g c =
    let key = c.args.heap.now.key in
    let setting : Setting = record { layout = key.layout; shapes = lists_of key.shapes } in
    let first = view_of c.args.mutator.now in
    let v = view_of c.loop-made.mutator in
    RanOwnShare-over setting c.args.run c.loop-made._made first.seen v.seen first.mine v.mine c.args.cursor.now
    c.loop-made.cursor c.loop-made.invariant.sharing
    (λ below. (let past = c.loop-made-test.false in absurd (omega (arith, past, below))))
