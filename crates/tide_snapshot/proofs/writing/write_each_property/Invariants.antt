-- Those so far were written, and no fault was forgotten.
use Rattle.std.proofs.Common.{◌≤◌, take}
use Rattle.std.specs.List.{flat_map}
use Rattle.std.specs.Io.KnownBytes.{Appends}
use Rattle.tide_snapshot.specs.Line.{property_piece}
use Rattle.tide_snapshot.proofs.writing.write_each_property.Given as goal

abbrev pub invariant-loop-property : goal.invariant-loop-property
invariant-loop-property g l = record {
  written : Appends (g.K.Sink.held l.initial.out) (g.K.Sink.held l.out) (flat_map (property_piece l.names) (take l.property-index l.properties));
  later : g.K.Sink.faults l.initial.out ≤ g.K.Sink.faults l.out;
}
