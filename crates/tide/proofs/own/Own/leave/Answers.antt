-- It may make any call, as its fields tell.
use Rattle.tide.proofs.ByFields.{may_call}
use Rattle.tide.proofs.own.Own.leave.Goals as goal

pub leave-requires : goal.leave-requires
leave-requires g c =
    let own = c.args.self in
    record {
      may = may_call own.standing.now.heap.key.layout own.standing.now.heap.table.shared.table_id
          own.standing.now.hands.shared.table_id own.member own.of own.stands;
    }
