-- What the loop of printing::write_mutators keeps.
use Rattle.std.proofs.Common.{◌≤◌}
use Rattle.std.specs.Io.KnownBytes.{Appends}
use Rattle.tide_workload.specs.Words.{mutators_text}
use Rattle.tide_run.proofs.printing.write_mutators.Given as goal

abbrev pub invariant-loop-m : goal.invariant-loop-m
invariant-loop-m g l =
    record {
      written : Appends (g.K.Sink.held l.initial.out) (g.K.Sink.held l.out) (mutators_text l.outcome.keys l.m l.outcome.history);
      later : g.K.Sink.faults l.initial.out ≤ g.K.Sink.faults l.out;
    }
