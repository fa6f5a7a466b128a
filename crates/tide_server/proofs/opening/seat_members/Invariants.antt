-- Some mutators have a seat, and the passes of the others are left.
use Rattle.std.proofs.Common.{◌≡◌, ◌+◌, length}
use Rattle.std.specs.Vec.Iter.{into_iter_items}
use Rattle.tide_server.specs.Opened.{AreMembers}
use Rattle.tide_table.specs.Started.{ArePasses}
use Rattle.tide_server.proofs.opening.seat_members.Given as goal

abbrev pub invariant-loop-pass : goal.invariant-loop-pass
invariant-loop-pass g l = record {
  own : l.seat.seat.table_id ≡ l.initial.seat.seat.table_id;
  named : l.seat.seat.me.0.name ≡ l.initial.seat.seat.me.0.name;
  kept : record l.seat.seat.me.0 { next = 0 } ≡ record l.initial.seat.seat.me.0 { next = 0 };
  next : l.seat.seat.me.0.next ≡ length l.yielded;
  seated : length l.members.items ≡ length l.yielded;
  all : length l.yielded + length (into_iter_items l.pass-iterator) ≡ l.standing.heap.key.layout.mutators;
  left : ArePasses l.standing.heap.table.shared.table_id (length l.yielded) (into_iter_items l.pass-iterator);
  are : AreMembers l.standing.heap.key.layout l.standing.heap.table.shared.table_id l.standing.hands.shared.table_id 0
      l.members.items;
}
