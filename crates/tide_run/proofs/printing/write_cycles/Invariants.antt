-- What the loops of printing::write_cycles keep.
use Rattle.std.proofs.Common.{◌≤◌, take}
use Rattle.std.specs.List.{flat_map}
use Rattle.std.specs.Io.KnownBytes.{Appends}
use Rattle.tide_run.specs.Printing.{reported_line}
use Rattle.tide_run.proofs.printing.write_cycles.Given as goal

abbrev pub invariant-loop-line : goal.invariant-loop-line
invariant-loop-line g l =
    record {
      written : Appends (g.K.Sink.held l.initial.out) (g.K.Sink.held l.out) (flat_map (reported_line l.report.ids) (take l.line-index l.lines));
      later : g.K.Sink.faults l.initial.out ≤ g.K.Sink.faults l.out;
    }
