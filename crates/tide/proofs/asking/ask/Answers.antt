-- What is to be tried again after each call.
use Rattle.std.proofs.Common.{ℕ, ◌∙◌, ap, inl, inr, sym, subst}
use Rattle.std.specs.Prelude.{None, Option, is_some}
use Rattle.tide.proofs.Retrying.{asked_stops, full_is_tried, none_is_tried, one_is_tried, retry_before, retry_called, settled_has_room, tried_is_settled, tried_stops, who_stays}
use Rattle.tide.specs.Asking.{past_of}
use Rattle.tide_server.proofs.FullCycles.{OpensLater-more, full_cycle_between, later_number}
use Rattle.tide_server.proofs.Working.{begins_where_over}
use Rattle.tide_server.specs.tide_model.Caller.{MakesCall}
use Rattle.tide_server.specs.tide_model.Script.{retry_after, retry_of}
use Rattle.tide_server.specs.tide_model.Share.{ends_share}
use Rattle.tide_server.specs.tide_model.declared.op.Op.{Op}
use Rattle.tide_server.specs.tide_mutator.calls.Viewed.{view_of}
use Rattle.tide_server.specs.tide_shape.Lists.{lists_of}
use Rattle.tide.proofs.asking.ask.Goals as goal

pub make-reply-requires-clause-retries : goal.make-reply-requires-clause-retries
make-reply-requires-clause-retries g c other pending =
    let v = view_of c.args.member.now.mutator in
    none_is_tried (retry_of v.who v.mine) c.args.op other c.requires.may.settled pending

pub returns-then-not-retries : goal.returns-then-not-retries
returns-then-not-retries g c =
    let k = c.args.standing.now in
    let old = c.args.member.now in
    let new = c.make-reply.new.member in
    let called = retry_called k.heap.key.layout k.heap.table.shared.table_id k.hands.shared.table_id
    (lists_of k.heap.key.shapes) c.args.op c.make-reply.result old new c.make-reply.ensures.of c.make-reply.ensures.makes
    ∙ ap (λ (r : Option Op). retry_after r (c.args.op, c.make-reply.result)) c.requires.may.settled in
    record {
      may = record {
        of = c.make-reply.ensures.of;
        stays = c.make-reply.ensures.stays;
        settled = c.retries.ensures.settled c.if-not-retries.true;
      };
      asks = inl (
        c.make-reply.ensures.makes,
        settled_has_room c.args.op c.make-reply.result
            (sym (ap is_some called) ∙ sym c.retries.ensures.is ∙ c.if-not-retries.true),
      );
      later = c.make-reply.ensures.later;
      over = λ asked. c.make-reply.ensures.over (asked_stops c.make-reply.result
          (is_some (retry_of (view_of new.mutator).who (view_of new.mutator).mine)) asked);
      who = sym (who_stays k.heap.key.layout k.heap.table.shared.table_id k.hands.shared.table_id
          (lists_of k.heap.key.shapes) c.args.op c.make-reply.result old new c.make-reply.ensures.of
          c.make-reply.ensures.makes);
      claims = c.make-reply.ensures.claims;
    }

pub make-requires-clause-retries : goal.make-requires-clause-retries
make-requires-clause-retries g c other pending =
    let k = c.args.standing.now in
    let old = c.args.member.now in
    let new = c.make-reply.new.member in
    let called = retry_called k.heap.key.layout k.heap.table.shared.table_id k.hands.shared.table_id
    (lists_of k.heap.key.shapes) c.args.op c.make-reply.result old new c.make-reply.ensures.of c.make-reply.ensures.makes
    ∙ ap (λ (r : Option Op). retry_after r (c.args.op, c.make-reply.result)) c.requires.may.settled in
    let tried = full_is_tried c.args.op c.make-reply.result
    (sym (ap is_some called) ∙ sym c.retries.ensures.is ∙ c.if-not-retries.false) in
    one_is_tried (retry_of (view_of new.mutator).who (view_of new.mutator).mine) c.args.op other (called ∙ tried.1) pending

pub returns : goal.returns
returns g c =
    let k = c.args.standing.now in
    let layout = k.heap.key.layout in
    let heap = k.heap.table.shared.table_id in
    let hands = k.hands.shared.table_id in
    let shapes = lists_of k.heap.key.shapes in
    let old = c.args.member.now in
    let mid = c.make-reply.new.member in
    let new = c.make.new.member in
    let called = retry_called layout heap hands shapes c.args.op c.make-reply.result old mid c.make-reply.ensures.of
    c.make-reply.ensures.makes
    ∙ ap (λ (r : Option Op). retry_after r (c.args.op, c.make-reply.result)) c.requires.may.settled in
    let tried = full_is_tried c.args.op c.make-reply.result
    (sym (ap is_some called) ∙ sym c.retries.ensures.is ∙ c.if-not-retries.false) in
    let first = who_stays layout heap hands shapes c.args.op c.make-reply.result old mid c.make-reply.ensures.of
    c.make-reply.ensures.makes in
    let second = who_stays layout heap hands shapes c.args.op c.make.result mid new c.make.ensures.of
    c.make.ensures.makes in
    let again = c.make.ensures.later (begins_where_over mid (c.make-reply.ensures.over
    (tried_stops c.make-reply.result (is_some (retry_of (view_of mid.mutator).who (view_of mid.mutator).mine))
    (sym c.retries.ensures.is ∙ c.if-not-retries.false)))) in
    record {
      may = record {
        of = c.make.ensures.of;
        stays = c.make.ensures.stays;
        settled = retry_called layout heap hands shapes c.args.op c.make.result mid new c.make.ensures.of
            c.make.ensures.makes
            ∙ tried_is_settled (retry_of (view_of mid.mutator).who (view_of mid.mutator).mine) c.args.op c.args.op
            c.make.result (called ∙ tried.1);
      };
      asks = inr (record {
        first = c.make-reply.result;
        between = past_of mid;
        full = tried.0;
        makes = c.make-reply.ensures.makes;
        again = subst (λ (who : ℕ). MakesCall layout shapes who c.args.op c.make.result (view_of mid.mutator).seen
            (view_of new.mutator).seen (view_of mid.mutator).mine (view_of new.mutator).mine) (sym first)
            c.make.ensures.makes;
        later = later_number layout (view_of mid.mutator).seen (view_of new.mutator).seen again;
        cycle = full_cycle_between layout (view_of mid.mutator).seen (view_of new.mutator).seen again
            c.make-reply.ensures.makes.between (view_of old.mutator).who c.args.op c.make-reply.result
            c.make-reply.ensures.makes.took c.requires.may.of.is_mutator
            (ap (λ (r : Option Op). ends_share r (c.args.op, c.make-reply.result))
            (retry_before layout shapes (view_of old.mutator).who c.args.op c.make-reply.result (view_of old.mutator).seen
            (view_of mid.mutator).seen (view_of old.mutator).mine (view_of mid.mutator).mine c.make-reply.ensures.makes
            ∙ c.requires.may.settled)
            ∙ tried_stops c.make-reply.result (is_some (retry_after None (c.args.op, c.make-reply.result)))
            (ap is_some tried.1)) c.make-reply.ensures.makes.ends;
      });
      later = λ begins. OpensLater-more layout (view_of old.mutator).seen (view_of mid.mutator).seen
          (c.make-reply.ensures.later begins) (view_of new.mutator).seen c.make.ensures.makes.seen;
      over = λ asked. c.make.ensures.over (asked_stops c.make.result
          (is_some (retry_of (view_of new.mutator).who (view_of new.mutator).mine)) asked);
      who = sym (first ∙ second);
      claims = λ isnt. c.make.ensures.claims isnt ∙ c.make-reply.ensures.claims isnt;
    }
