use Rattle.std.proofs.Common.{◌≡◌, ◌≤◌, ◌+◌, length, map, take}
use Rattle.tide_workload.specs.Shapes.{add_names}
use Rattle.tide_workload.proofs.shapes.add_names.Given as goal

abbrev pub invariant-loop-word : goal.invariant-loop-word
invariant-loop-word l =
    (l.keys ≡ add_names l.initial.keys (map (λ word. word.now) (take l.word-index l.words)))
    × (length l.keys ≤ length l.initial.keys + l.word-index)
