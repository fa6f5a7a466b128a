-- What the loop of printing::write_told keeps.
use Rattle.std.proofs.Common.{◌≤◌, take}
use Rattle.std.specs.List.{flat_map}
use Rattle.std.specs.Io.KnownBytes.{Appends}
use Rattle.tide_run.specs.Asked.{told_line}
use Rattle.tide_run.proofs.printing.write_told.Given as goal

abbrev pub invariant-loop-cycle : goal.invariant-loop-cycle
invariant-loop-cycle g l =
    record {
      written : Appends (g.K.Sink.held l.initial.out) (g.K.Sink.held l.out) (flat_map told_line (take l.cycle-index l.told));
      later : g.K.Sink.faults l.initial.out ≤ g.K.Sink.faults l.out;
    }
