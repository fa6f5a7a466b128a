-- No ticket was found yet.
use Rattle.std.proofs.Common.{◌≡◌}
use Rattle.tide_server.specs.Helpers.{IsHelperOf}
use Rattle.tide_server.proofs.helper.Helper.work.Given as goal

abbrev pub invariant-loop : goal.invariant-loop
invariant-loop g l = record {
  of : IsHelperOf l.standing.heap.key.layout l.standing.heap.table.shared.table_id l.standing.hands.shared.table_id l.self;
  given : l.self.seat.seat.me.0.given ≡ l.initial.self.seat.seat.me.0.given;
  taken : l.self.seat.seat.me.0.taken ≡ l.initial.self.seat.seat.me.0.taken;
}
