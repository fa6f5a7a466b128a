-- What the loop of counting::count_calls keeps: the replies so far are counted.
use Rattle.std.proofs.Common.{ℕ, ◌≡◌, ◌++◌, List, take}
use Rattle.std.specs.Prelude.{map}
use Rattle.tide_model.specs.declared.op.Reply.{Reply}
use Rattle.tide_workload.specs.Words.{counts_with}
use Rattle.tide_run.proofs.counting.count_calls.Given as goal

abbrev pub invariant-loop-call : goal.invariant-loop-call
invariant-loop-call l = (mutators live : ℕ) (replies : List Reply) → l.initial.counts ≡ counts_with mutators replies live →
    l.counts ≡ counts_with mutators (replies ++ map (λ call. call.reply) (take l.call-index l.calls)) live
