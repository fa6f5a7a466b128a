-- It read words of its own and did nothing else, and the words so far are those of the array.
use Rattle.std.proofs.Common.{◌≡◌, length}
use Rattle.tide_mutator.specs.calls.Growing.{HasRead, KnowsElements}
use Rattle.tide_mutator.proofs.calls.copying.load_elements.Given as goal

abbrev pub invariant-loop-place : goal.invariant-loop-place
invariant-loop-place g l = record {
  same : (l.pass.seat.table_id ≡ l.fn.pass.seat.table_id) × (l.pass.seat.id ≡ l.fn.pass.seat.id);
  read : HasRead l.fn.pass.seat.me.0 l.pass.seat.me.0;
  whole : length l.words ≡ 64;
  knows : KnowsElements l.heap.key.layout l.pass.seat.me.0 l.fn.growth.array l.words l.place;
}
