-- The cells so far were written, and no fault was forgotten.
use Rattle.std.proofs.Common.{◌≤◌, take}
use Rattle.std.specs.List.{flat_map}
use Rattle.std.specs.Io.KnownBytes.{Appends}
use Rattle.tide_text.specs.lines.Line.{freed_cell_text}
use Rattle.tide_text.proofs.writing.write_cells.Given as goal

abbrev pub invariant-loop-id : goal.invariant-loop-id
invariant-loop-id g l =
    record {
      written : Appends (g.K.Sink.held l.initial.out) (g.K.Sink.held l.out) (flat_map freed_cell_text (take l.id-index l.cells));
      later : g.K.Sink.faults l.initial.out ≤ g.K.Sink.faults l.out;
    }
