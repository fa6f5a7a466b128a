-- What the loops of printing::write_calls keep.
use Rattle.std.proofs.Common.{◌≤◌, take}
use Rattle.std.specs.List.{flat_map}
use Rattle.std.specs.Io.KnownBytes.{Appends}
use Rattle.tide_run.specs.Printing.{answered_line}
use Rattle.tide_run.proofs.printing.write_calls.Given as goal

abbrev pub invariant-loop-call : goal.invariant-loop-call
invariant-loop-call g l =
    record {
      written : Appends (g.K.Sink.held l.initial.out) (g.K.Sink.held l.out) (flat_map (answered_line l.load.keys) (take l.call-index l.calls));
      later : g.K.Sink.faults l.initial.out ≤ g.K.Sink.faults l.out;
    }
