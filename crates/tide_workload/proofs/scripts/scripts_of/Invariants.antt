use Rattle.std.proofs.Common.{◌≡◌, ◌≤◌, length, map, drop, All}
use Rattle.toml.specs.View.{view}
use Rattle.tide_workload.specs.Scripts.{ops_of, text_or_none}
use Rattle.tide_text.specs.declared.work.workload.TheConstants.{MAX_OPS}
use Rattle.tide_workload.proofs.EachLemmas.{ReadsFrom}
use Rattle.tide_workload.proofs.scripts.scripts_of.Given as goal

abbrev pub invariant-loop-mutator : goal.invariant-loop-mutator
invariant-loop-mutator l =
    (length l.ops.items ≡ l.mutator)
    × All (λ ops. length ops.items ≤ MAX_OPS) l.ops.items
    × ReadsFrom (ops_of l.limits) (λ texts. map (λ value. text_or_none (view value)) texts.now) (map (λ ops. ops.items) l.ops.items) l.mutator (drop l.mutator l.scripts) l.scripts
