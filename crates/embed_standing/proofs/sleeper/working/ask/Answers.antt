-- What is to be tried again after each call.
use Rattle.std.proofs.Common.{◌∙◌, sym}
use Rattle.tide.specs.tide_model.Caller.{MakesCall}
use Rattle.tide.specs.tide_model.Script.{retry_of}
use Rattle.tide.specs.tide_model.declared.op.Reply.{Reply}
use Rattle.tide.specs.tide_mutator.calls.Viewed.{view_of}
use Rattle.tide.specs.tide_shape.Lists.{lists_of}
use Rattle.embed_standing.proofs.Answered.{answered}
use Rattle.embed_standing.proofs.Calling.{call_is_tried, retry_called, tried_is_settled, what_is_tried}
use Rattle.embed_standing.proofs.sleeper.working.ask.Goals as goal

pub call-requires-2-clause-retries : goal.call-requires-2-clause-retries
call-requires-2-clause-retries g c κs within = λ other is.
    let k = c.args.standing.now in
    let old = c.args.member.now in
    let new = c.call.new.self in
    let v = view_of old.mutator in
    let w = view_of new.mutator in
    let first = answered c.call.result (λ (reply : Reply). MakesCall k.heap.key.layout (lists_of k.heap.key.shapes)
    v.who c.args.op reply v.seen w.seen v.mine w.mine) c.call.ensures.served c.call.ensures.makes in
    call_is_tried (retry_of v.who v.mine) c.args.op other first.0 c.requires.may.settled
    (sym (retry_called k.heap.key.layout k.heap.table.shared.table_id k.hands.shared.table_id
    (lists_of k.heap.key.shapes) c.args.op first.0 old new c.call.ensures.of first.1) ∙ is)

pub returns : goal.returns
returns g c =
    let k = c.args.standing.now in
    let mid = c.call.new.self in
    let new = c.call-2.new.self in
    let v = view_of mid.mutator in
    let w = view_of new.mutator in
    let again = answered c.call-2.result (λ (reply : Reply). MakesCall k.heap.key.layout (lists_of k.heap.key.shapes)
    v.who c.args.op reply v.seen w.seen v.mine w.mine) c.call-2.ensures.served c.call-2.ensures.makes in
    let tried = what_is_tried (retry_of v.who v.mine) (sym c.retries.ensures.is ∙ c.if-not-retries.false) in
    record {
      may = record {
        of = c.call-2.ensures.of;
        stays = c.call-2.ensures.stays;
        bare = c.call-2.ensures.claims c.requires.claims ∙ c.call.ensures.claims c.requires.claims ∙ c.requires.may.bare;
        settled = retry_called k.heap.key.layout k.heap.table.shared.table_id k.hands.shared.table_id
            (lists_of k.heap.key.shapes) c.args.op again.0 mid new c.call-2.ensures.of again.1
            ∙ tried_is_settled (retry_of v.who v.mine) c.args.op tried.0 again.0 tried.1;
      };
    }
