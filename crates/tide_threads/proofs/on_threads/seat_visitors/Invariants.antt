-- What the loop of on_threads::seat_visitors keeps.
use Rattle.std.proofs.Common.{◌≡◌, ◌+◌, length}
use Rattle.std.specs.Vec.Iter.{into_iter_items}
use Rattle.atomic_table.specs.Seated.{TableId}
use Rattle.tide_table.specs.Started.{ArePasses}
use Rattle.tide_threads.specs.Acting.{cursors_in}
use Rattle.tide_threads.specs.Fresh.{AreFresh}
use Rattle.tide_threads.proofs.on_threads.seat_visitors.Given as goal

abbrev pub invariant-loop-pass : goal.invariant-loop-pass
invariant-loop-pass l = record {
  cursors : cursors_in l.participants.items ≡ cursors_in l.initial.participants.items;
  seated : length l.participants.items ≡ length l.initial.participants.items + length l.yielded;
  left : (id : TableId) → ArePasses id 16 l.fn.passes.items → ArePasses id (16 + length l.yielded) (into_iter_items l.pass-iterator);
  fresh : (id : TableId) → ArePasses id 16 l.fn.passes.items →
      AreFresh id (length l.initial.participants.items) l.cells l.initial.participants.items →
      AreFresh id (length l.initial.participants.items) l.cells l.participants.items;
}
