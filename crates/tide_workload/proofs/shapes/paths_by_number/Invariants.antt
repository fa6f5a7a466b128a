use Rattle.std.proofs.Common.{◌≡◌, length, map, take}
use Rattle.tide_workload.specs.Shapes.{paths_by_number}
use Rattle.tide_workload.proofs.shapes.paths_by_number.Given as goal

abbrev pub invariant-loop-words : goal.invariant-loop-words
invariant-loop-words l =
    (length l.numbers ≡ l.words-index)
    × (l.numbers ≡ paths_by_number l.keys (map (λ words. map (λ word. word.now) words.items) (take l.words-index l.paths)))
