-- It may make any call, as its fields tell.
use Rattle.tide.proofs.ByFields.{may_call}
use Rattle.tide.proofs.own.Own.ask.Goals as goal

pub ask-requires-clause-may : goal.ask-requires-clause-may
ask-requires-clause-may g c =
    let own = c.args.self.now in
    may_call own.standing.now.heap.key.layout own.standing.now.heap.table.shared.table_id
    own.standing.now.hands.shared.table_id own.member own.of own.stands
