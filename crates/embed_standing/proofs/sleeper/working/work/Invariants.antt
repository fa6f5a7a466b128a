use Rattle.embed_standing.specs.Playing.{MayCall}
use Rattle.embed_standing.proofs.sleeper.working.work.Given as goal

abbrev pub invariant-loop : goal.invariant-loop
invariant-loop g l = MayCall l.standing.heap.key.layout l.standing.heap.table.shared.table_id
    l.standing.hands.shared.table_id l.member
