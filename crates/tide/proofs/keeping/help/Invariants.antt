use Rattle.tide_server.specs.Helpers.{IsHelperOf}
use Rattle.tide.proofs.keeping.help.Given as goal

abbrev pub invariant-loop : goal.invariant-loop
invariant-loop g l = IsHelperOf l.standing.heap.key.layout l.standing.heap.table.shared.table_id
    l.standing.hands.shared.table_id l.helper
