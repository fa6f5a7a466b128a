use Rattle.std.proofs.Common.{◌≡◌, length, drop}
use Rattle.toml.specs.View.{view}
use Rattle.tide_workload.specs.Scripts.{op_at, text_or_none}
use Rattle.tide_workload.proofs.EachLemmas.{ReadsFrom}
use Rattle.tide_workload.proofs.scripts.ops_of.Given as goal

abbrev pub invariant-loop-at : goal.invariant-loop-at
invariant-loop-at l =
    (length l.ops.items ≡ l.at) × ReadsFrom (op_at l.limits l.mutator) (λ value. text_or_none (view value)) l.ops.items l.at (drop l.at l.texts) l.texts
