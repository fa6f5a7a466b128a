-- The keeper may turn, and its numbers are those that it had.
use Rattle.std.proofs.Common.{◌≡◌, []}
use Rattle.tide.specs.Counted.{HasCounted}
use Rattle.tide.specs.Watched.{HasWatched}
use Rattle.tide_server.specs.Keepers.{KeeperStands, view_of}
use Rattle.tide.proofs.keeping.keep.Given as goal

abbrev pub invariant-loop : goal.invariant-loop
invariant-loop g l = record {
  stands : KeeperStands l.standing.heap.key.layout l.standing.heap.table.shared.table_id
      l.standing.hands.shared.table_id l.keeper;
  empty : l.report.cycles ≡ [];
  pacing : l.keeper.books.pacing ≡ l.initial.keeper.books.pacing;
  counted : HasCounted l.standing.heap.key.layout (view_of l.initial.keeper).start (view_of l.keeper).start
      (view_of l.initial.keeper).period (view_of l.keeper).period l.tally;
  watches : goal.W-IsAlwaysCallable g l.watch;
  watched : HasWatched g.W.FnMut l.standing.heap.key.layout (view_of l.initial.keeper).start (view_of l.keeper).start
      (view_of l.initial.keeper).period (view_of l.keeper).period l.initial.watch l.watch;
}
