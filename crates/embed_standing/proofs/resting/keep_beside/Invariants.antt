-- The part is open, and who rests may wake.
use Rattle.embed_standing.specs.Playing.{MayWake}
use Rattle.tide.specs.tide_server.Keepers.{KeeperStands}
use Rattle.embed_standing.proofs.resting.keep_beside.Given as goal

abbrev pub invariant-loop : goal.invariant-loop
invariant-loop g l = record {
  stands : KeeperStands l.standing.heap.key.layout l.standing.heap.table.shared.table_id
      l.standing.hands.shared.table_id l.keeper;
  may : MayWake l.standing.heap.key.layout l.standing.heap.table.shared.table_id l.standing.hands.shared.table_id
      l.resting;
}
