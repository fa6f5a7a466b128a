-- The elements from this one on are stored.
use Rattle.std.proofs.Common.{◌≡◌, ◌+◌, ◌≤◌}
use Rattle.tide_mutator.specs.owed.Replacing.{OwesGrowth}
use Rattle.tide_mutator.proofs.owed.arrays.replace.Given as goal

abbrev pub invariant-loop-place : goal.invariant-loop-place
invariant-loop-place g l = record {
  same : (l.pass.seat.table_id ≡ l.fn.pass.seat.table_id) × (l.pass.seat.id ≡ l.fn.pass.seat.id);
  most : l.place ≤ l.growth.addition.count + 1;
  owes : OwesGrowth l.heap.key.layout l.fn.pass.seat.me.0 l.pass.seat.me.0 l.growth l.taken l.words l.place;
}
