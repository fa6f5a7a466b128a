use Rattle.std.proofs.Common.{◌≡◌, true, length, map, drop, All}
use Rattle.toml.specs.View.{view}
use Rattle.tide_workload.specs.Shapes.{are_keys, path_in}
use Rattle.tide_workload.proofs.EachLemmas.{Reads}
use Rattle.tide_workload.proofs.shapes.paths_of_each.Given as goal

abbrev pub invariant-loop-value : goal.invariant-loop-value
invariant-loop-value l =
    (length l.paths.items ≡ l.value-index)
    × All (λ words. are_keys (map (λ word. word.now) words.items) ≡ true) l.paths.items
    × Reads path_in view (map (λ words. map (λ word. word.now) words.items) l.paths.items) (drop l.value-index l.values) l.values
