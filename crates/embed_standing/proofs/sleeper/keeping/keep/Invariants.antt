use Rattle.tide.specs.tide_server.Keepers.{KeeperStands}
use Rattle.embed_standing.proofs.sleeper.keeping.keep.Given as goal

abbrev pub invariant-loop : goal.invariant-loop
invariant-loop g l = KeeperStands l.standing.heap.key.layout l.standing.heap.table.shared.table_id
    l.standing.hands.shared.table_id l.keeper
