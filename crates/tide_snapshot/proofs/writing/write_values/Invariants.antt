-- Those so far were written, and no fault was forgotten.
use Rattle.std.proofs.Common.{◌≤◌, take}
use Rattle.std.specs.List.{flat_map}
use Rattle.std.specs.Io.KnownBytes.{Appends}
use Rattle.tide_snapshot.specs.Line.{value_piece}
use Rattle.tide_snapshot.proofs.writing.write_values.Given as goal

abbrev pub invariant-loop-value : goal.invariant-loop-value
invariant-loop-value g l = record {
  written : Appends (g.K.Sink.held l.initial.out) (g.K.Sink.held l.out) (flat_map value_piece (take l.value-index l.values));
  later : g.K.Sink.faults l.initial.out ≤ g.K.Sink.faults l.out;
}
