-- The lines so far were written, and no fault was forgotten.
use Rattle.std.proofs.Common.{◌≤◌, length, take}
use Rattle.std.specs.List.{flat_map}
use Rattle.std.specs.Io.KnownBytes.{Appends}
use Rattle.tide_retained.specs.Index.{up_to}
use Rattle.tide_snapshot.specs.Written.{line_at}
use Rattle.tide_snapshot.proofs.writing.write_all_lines.Given as goal

abbrev pub invariant-loop-cell : goal.invariant-loop-cell
invariant-loop-cell g l = record {
  written : Appends (g.K.Sink.held l.initial.out) (g.K.Sink.held l.out) (flat_map (line_at l.names l.retained) (take l.cell (up_to (length l.retained.contents.cells.items))));
  later : g.K.Sink.faults l.initial.out ≤ g.K.Sink.faults l.out;
}
