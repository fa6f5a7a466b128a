-- The cells so far were written, no fault was forgotten, and the stretch is of the way.
use Rattle.std.proofs.Common.{◌≡◌, ◌≤◌, length, take}
use Rattle.std.specs.List.{flat_map}
use Rattle.std.specs.Io.KnownBytes.{Appends}
use Rattle.tide_retained.specs.Retention.{cells_on, path_of, AreFrom}
use Rattle.tide_snapshot.specs.Line.{cell_piece}
use Rattle.tide_snapshot.proofs.writing.write_way.Given as goal

abbrev pub invariant-loop-step : goal.invariant-loop-step
invariant-loop-step g l = record {
  written : Appends (g.K.Sink.held l.initial.out) (g.K.Sink.held l.out) (flat_map cell_piece (take l.step (cells_on (path_of l.retained l.cell))));
  later : g.K.Sink.faults l.initial.out ≤ g.K.Sink.faults l.out;
  room : length l.stretch ≡ 64;
  stretch : AreFrom (cells_on (path_of l.retained l.cell)) l.first l.stretch;
}
