-- What the loop of share::make_share keeps.
use Rattle.std.proofs.Common.{◌≡◌, ◌+◌, ◌≤◌, false}
use Rattle.tide_mutator.specs.calls.Viewed.{table_of, view_of}
use Rattle.tide_periods.proofs.PartLoops.{IsSharingOwn}
use Rattle.tide_shape.specs.Lists.{lists_of}
use Rattle.tide_threads.specs.Works.{room_of, same_of, IsWorking}
use Rattle.tide_threads.proofs.share.make_share.Given as goal

abbrev pub invariant-loop-made : goal.invariant-loop-made
invariant-loop-made g l = record {
  sharing : IsSharingOwn (record { layout = l.heap.key.layout; shapes = lists_of l.heap.key.shapes }) l.run
      (view_of l.initial.mutator).seen (view_of l.mutator).seen (view_of l.initial.mutator).mine (view_of l.mutator).mine
      l.initial.cursor l.cursor l._made false;
  table : table_of l.mutator ≡ l.heap.table.shared.table_id;
  number : l.cursor.who ≡ (view_of l.mutator).who;
  works : IsWorking l.heap.key.layout (view_of l.mutator) l.cursor.retired;
  room : l.run ≤ room_of (view_of l.mutator) + l._made;
  same : same_of l.mutator ≡ same_of l.initial.mutator;
}
