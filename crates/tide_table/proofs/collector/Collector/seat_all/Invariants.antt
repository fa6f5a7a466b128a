-- The passes so far are those of the first numbers.
use Rattle.std.proofs.Common.{◌≡◌, ◌≤◌, ◌+◌, vec_len, length}
use Rattle.tide_table.specs.Started.{ArePasses, is_but_next}
use Rattle.tide_model.specs.History.{plain}
use Rattle.tide_model.specs.declared.entry.Entry.TheVariants.{Pause}
use Rattle.tide_table.proofs.collector.Collector.seat_all.Given as goal

abbrev pub invariant-loop-i : goal.invariant-loop-i
invariant-loop-i g l = record {
  own : l.self.seat.table_id ≡ l.heap.table.shared.table_id;
  id : l.self.seat.id ≡ l.fn.self.seat.id;
  next : l.self.seat.me.0.next ≤ l.first + l.i;
  same : is_but_next l.fn.self.seat.me.0 l.self.seat.me.0;
  count : length l.passes.items ≡ l.i;
  long : vec_len l.passes ≡ l.i;
  all : ArePasses l.heap.table.shared.table_id l.first l.passes.items;
}

-- what a step is on
abbrev pub ghosts-seat_as : goal.ghosts-seat_as
ghosts-seat_as g a = record {
  layout = a.heap.now.key.layout;
  shapes = g.S.HeapShapes.lists a.heap.now.key.shapes;
  event = plain (Pause 0);
  number = a.who;
}
