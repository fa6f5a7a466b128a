-- What the loop of counting::counts_of keeps: the replies of the mutators so far are counted.
use Rattle.std.proofs.Common.{◌≡◌}
use Rattle.tide_model.specs.Cycle.{live_count}
use Rattle.tide_model.specs.History.{state_after}
use Rattle.tide_workload.specs.Words.{counts_with}
use Rattle.tide_run.proofs.Counted.{replies_below}
use Rattle.tide_run.proofs.counting.counts_of.Given as goal

abbrev pub invariant-loop-m : goal.invariant-loop-m
invariant-loop-m l = l.counts ≡ counts_with l.outcome.layout.mutators (replies_below l.m l.outcome.history)
    (live_count l.outcome.layout (state_after l.outcome.layout l.outcome.history))
