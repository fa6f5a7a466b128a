-- The visits of the visitors so far are added up, each of them one of 32 bits.
use Rattle.std.proofs.Common.{◌≡◌, ◌≤◌}
use Rattle.std.specs.Prelude.{◌*◌, ◌^◌}
use Rattle.tide_table.specs.VisitsTold.{visits_left}
use Rattle.tide_table.proofs.collector.Collector.visits_told.Given as goal

abbrev pub invariant-loop-visitor : goal.invariant-loop-visitor
invariant-loop-visitor g l = record {
  sum : l.visits ≡ visits_left l.self.seat.me.0.visited 0 l.visitor;
  few : l.visits ≤ l.visitor * 2 ^ 32;
}
