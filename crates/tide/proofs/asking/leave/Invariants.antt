use Rattle.tide.specs.Asking.{MayCall}
use Rattle.tide.proofs.asking.leave.Given as goal

abbrev pub invariant-loop : goal.invariant-loop
invariant-loop g l = MayCall l.standing.heap.key.layout l.standing.heap.table.shared.table_id
    l.standing.hands.shared.table_id l.member
