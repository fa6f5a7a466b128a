-- What is to be tried again after each call.
use Rattle.std.proofs.Common.{◌∙◌}
use Rattle.tide.specs.tide_model.Script.{retry_of}
use Rattle.tide.specs.tide_mutator.calls.Viewed.{view_of}
use Rattle.tide.specs.tide_shape.Lists.{lists_of}
use Rattle.embed_standing.proofs.Calling.{full_is_tried, one_is_tried, other_is_settled, retry_called, tried_is_settled}
use Rattle.embed_standing.proofs.playing.ask.Goals as goal

pub call-requires-then-is_full-clause-retries : goal.call-requires-then-is_full-clause-retries
call-requires-then-is_full-clause-retries g c κs within = λ other is.
    let k = c.args.standing.now in
    let old = c.args.member.now in
    let new = c.call.new.member in
    one_is_tried (retry_of (view_of new.mutator).who (view_of new.mutator).mine) c.args.op other
    (retry_called k.heap.key.layout k.heap.table.shared.table_id k.hands.shared.table_id (lists_of k.heap.key.shapes)
    c.args.op c.in_ok-reply.reply old new c.in_ok-reply.ensures.of c.in_ok-reply.ensures.makes
    ∙ full_is_tried (retry_of (view_of old.mutator).who (view_of old.mutator).mine) c.args.op c.in_ok-reply.reply
    c.is_full.result c.requires.may.settled c.is_full.ensures c.if-is_full.true)
    is

pub returns-then-is_full : goal.returns-then-is_full
returns-then-is_full g c =
    let k = c.args.standing.now in
    let old = c.args.member.now in
    let mid = c.call.new.member in
    let new = c.call-then-is_full.new.member in
    record {
      may = record {
        of = c.in_ok-again.ensures.of;
        stays = c.in_ok-again.ensures.stays;
        bare = c.in_ok-again.ensures.claims c.requires.fits.claims ∙ c.in_ok-reply.ensures.claims c.requires.fits.claims
            ∙ c.requires.may.bare;
        settled = retry_called k.heap.key.layout k.heap.table.shared.table_id k.hands.shared.table_id
            (lists_of k.heap.key.shapes) c.args.op c.in_ok-again.again mid new c.in_ok-again.ensures.of
            c.in_ok-again.ensures.makes
            ∙ tried_is_settled (retry_of (view_of mid.mutator).who (view_of mid.mutator).mine) c.args.op c.args.op
            c.in_ok-again.again
            (retry_called k.heap.key.layout k.heap.table.shared.table_id k.hands.shared.table_id
            (lists_of k.heap.key.shapes) c.args.op c.in_ok-reply.reply old mid c.in_ok-reply.ensures.of
            c.in_ok-reply.ensures.makes
            ∙ full_is_tried (retry_of (view_of old.mutator).who (view_of old.mutator).mine) c.args.op c.in_ok-reply.reply
            c.is_full.result c.requires.may.settled c.is_full.ensures c.if-is_full.true);
      };
    }

pub returns : goal.returns
returns g c =
    let k = c.args.standing.now in
    let old = c.args.member.now in
    let new = c.call.new.member in
    record {
      may = record {
        of = c.in_ok-reply.ensures.of;
        stays = c.in_ok-reply.ensures.stays;
        bare = c.in_ok-reply.ensures.claims c.requires.fits.claims ∙ c.requires.may.bare;
        settled = retry_called k.heap.key.layout k.heap.table.shared.table_id k.hands.shared.table_id
            (lists_of k.heap.key.shapes) c.args.op c.in_ok-reply.reply old new c.in_ok-reply.ensures.of
            c.in_ok-reply.ensures.makes
            ∙ other_is_settled (retry_of (view_of old.mutator).who (view_of old.mutator).mine) c.args.op
            c.in_ok-reply.reply c.is_full.result c.requires.may.settled c.is_full.ensures c.if-is_full.false;
      };
    }
