-- It may rest, as its fields tell, and has nothing to try again then.
use Rattle.std.proofs.Common.{ap, ◌∙◌}
use Rattle.std.specs.Prelude.{is_some}
use Rattle.tide.proofs.ByFields.{may_call}
use Rattle.tide.proofs.Retrying.{not_some}
use Rattle.tide_server.specs.Members.{Calling}
use Rattle.tide_server.specs.tide_model.Script.{retry_of}
use Rattle.tide_server.specs.tide_mutator.calls.Viewed.{view_of}
use Rattle.tide.proofs.own.Own.rest.Goals as goal

pub rest-requires-clause-of : goal.rest-requires-clause-of
rest-requires-clause-of c =
    let own = c.args.self in
    (may_call own.standing.now.heap.key.layout own.standing.now.heap.table.shared.table_id
    own.standing.now.hands.shared.table_id own.member own.of own.stands).of

pub returns-clause-who : goal.returns-clause-who
returns-clause-who c = ap (λ (k : Calling). k.who) c.rest.ensures.same

pub returns-clause-settled : goal.returns-clause-settled
returns-clause-settled c =
    let v = view_of c.rest.result.member.mutator in
    not_some (retry_of v.who v.mine)
    (ap (λ (k : Calling). is_some (retry_of k.who k.mine)) c.rest.ensures.same ∙ c.args.self.of.settled)
