-- The notes of the places so far are in.
use Rattle.std.proofs.Common.{◌≡◌}
use Rattle.tide_server.specs.Turned.{IsWaiting}
use Rattle.tide_server.proofs.keeper.Keeper.take_notes.Given as goal

abbrev pub invariant-loop-place : goal.invariant-loop-place
invariant-loop-place g l = record {
  waits : IsWaiting l.standing.heap.key.layout l.standing.heap.table.shared.table_id l.standing.hands.shared.table_id
      l.initial.self l.self;
  next : l.self.next ≡ l.place;
}
