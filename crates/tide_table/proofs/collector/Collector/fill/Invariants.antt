-- The places so far hold the word.
use Rattle.std.proofs.Common.{◌≡◌}
use Rattle.tide_table.specs.Started.{HasFilled}
use Rattle.tide_table.proofs.collector.Collector.fill.Given as goal

abbrev pub invariant-loop-index : goal.invariant-loop-index
invariant-loop-index g l = record {
  own : l.self.seat.table_id ≡ l.heap.table.shared.table_id;
  id : l.self.seat.id ≡ l.fn.self.seat.id;
  filled : HasFilled l.heap.key.layout l.region l.word l.index l.fn.self.seat.me.0 l.self.seat.me.0;
}
