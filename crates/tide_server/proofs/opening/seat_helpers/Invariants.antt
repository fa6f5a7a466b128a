-- Some visitors have a seat, and the passes of the others are left.
use Rattle.std.proofs.Common.{◌≡◌, ◌+◌, length}
use Rattle.std.specs.Vec.Iter.{into_iter_items}
use Rattle.tide_server.specs.Opened.{AreHelpers}
use Rattle.tide_table.specs.Started.{ArePasses}
use Rattle.tide_server.proofs.opening.seat_helpers.Given as goal

abbrev pub invariant-loop-pass : goal.invariant-loop-pass
invariant-loop-pass g l = record {
  own : l.seat.seat.table_id ≡ l.initial.seat.seat.table_id;
  named : l.seat.seat.me.0.name ≡ l.initial.seat.seat.me.0.name;
  kept : record l.seat.seat.me.0 { next = 0 } ≡ record l.initial.seat.seat.me.0 { next = 0 };
  next : l.seat.seat.me.0.next ≡ l.standing.heap.key.layout.mutators + length l.yielded;
  seated : length l.helpers.items ≡ length l.yielded;
  all : length l.yielded + length (into_iter_items l.pass-iterator) ≡ l.standing.heap.key.layout.visitors;
  left : ArePasses l.standing.heap.table.shared.table_id (16 + length l.yielded) (into_iter_items l.pass-iterator);
  are : AreHelpers l.standing.heap.key.layout l.standing.heap.table.shared.table_id l.standing.hands.shared.table_id 16
      l.helpers.items;
}
