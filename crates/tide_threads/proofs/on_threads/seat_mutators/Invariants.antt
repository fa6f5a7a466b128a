-- What the loop of on_threads::seat_mutators keeps.
use Rattle.std.proofs.Common.{ℕ, ◌≡◌, ◌++◌, length}
use Rattle.std.specs.Vec.Iter.{into_iter_items, into_iter_len}
use Rattle.atomic_table.specs.Seated.{TableId}
use Rattle.tide_table.specs.Started.{ArePasses}
use Rattle.tide_threads.specs.Acting.{cursors_in}
use Rattle.tide_threads.specs.Fresh.{AreFresh}
use Rattle.tide_threads.proofs.on_threads.seat_mutators.Given as goal

abbrev pub invariant-loop-cursor : goal.invariant-loop-cursor
invariant-loop-cursor l = record {
  cursors : cursors_in l.participants.items ≡ l.yielded;
  as_many : length (into_iter_items l.cursor-iterator) ≡ length (into_iter_items l.rest);
  counted : into_iter_len l.rest ≡ length (into_iter_items l.rest);
  whole : l.yielded ++ into_iter_items l.cursor-iterator ≡ l.fn.cursors.items;
  seated : length l.participants.items ≡ length l.yielded;
  left : (id : TableId) → ArePasses id 0 l.fn.passes.items → ArePasses id (length l.yielded) (into_iter_items l.rest);
  fresh : (id : TableId) (cells : ℕ) → ArePasses id 0 l.fn.passes.items → AreFresh id (length l.fn.passes.items) cells l.participants.items;
}
