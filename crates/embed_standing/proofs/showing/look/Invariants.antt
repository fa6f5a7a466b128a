-- Some note isn't in yet.
use Rattle.tide.specs.tide_report.Ends.{HasRoomForEnds}
use Rattle.tide.specs.tide_server.Keepers.{KeeperStands}
use Rattle.embed_standing.proofs.showing.look.Given as goal

abbrev pub invariant-loop : goal.invariant-loop
invariant-loop g l = record {
  stands : KeeperStands l.standing.heap.key.layout l.standing.heap.table.shared.table_id
      l.standing.hands.shared.table_id l.keeper;
  ends : HasRoomForEnds l.standing.heap.key.layout l.report 2;
}
