use Rattle.std.proofs.Common.{◌≡◌, ◌≤◌, length, map, drop, All}
use Rattle.toml.specs.View.{view, table_view}
use Rattle.tide_workload.specs.Scripts.{script_texts, text_or_none}
use Rattle.tide_text.specs.declared.work.workload.TheConstants.{MAX_OPS}
use Rattle.tide_workload.proofs.EachLemmas.{Reads}
use Rattle.tide_workload.proofs.scripts.texts_of_each.Given as goal

abbrev pub invariant-loop-mutator : goal.invariant-loop-mutator
invariant-loop-mutator l =
    (length l.scripts.items ≡ l.mutator-index)
    × All (λ texts. length texts.now ≤ MAX_OPS) l.scripts.items
    × Reads script_texts (λ table. table_view table.now) (map (λ texts. map (λ value. text_or_none (view value)) texts.now) l.scripts.items) (drop l.mutator-index l.mutators) l.mutators
