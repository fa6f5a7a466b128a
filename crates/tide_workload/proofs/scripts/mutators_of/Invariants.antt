use Rattle.std.proofs.Common.{◌≡◌, length, map, drop}
use Rattle.toml.specs.View.{view, table_view}
use Rattle.tide_workload.specs.Scripts.{table_in}
use Rattle.tide_workload.proofs.EachLemmas.{Reads}
use Rattle.tide_workload.proofs.scripts.mutators_of.Given as goal

abbrev pub invariant-loop-value : goal.invariant-loop-value
invariant-loop-value l =
    (length l.tables.items ≡ l.value-index)
    × Reads table_in view (map (λ table. table_view table.now) l.tables.items) (drop l.value-index l.values) l.values
