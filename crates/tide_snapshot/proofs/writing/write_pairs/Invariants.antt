-- Those so far were written, and no fault was forgotten.
use Rattle.std.proofs.Common.{◌≤◌, take}
use Rattle.std.specs.List.{flat_map}
use Rattle.std.specs.Io.KnownBytes.{Appends}
use Rattle.tide_snapshot.specs.Line.{pair_piece}
use Rattle.tide_snapshot.proofs.writing.write_pairs.Given as goal

abbrev pub invariant-loop-pair : goal.invariant-loop-pair
invariant-loop-pair g l = record {
  written : Appends (g.K.Sink.held l.initial.out) (g.K.Sink.held l.out) (flat_map pair_piece (take l.pair-index l.pairs));
  later : g.K.Sink.faults l.initial.out ≤ g.K.Sink.faults l.out;
}
