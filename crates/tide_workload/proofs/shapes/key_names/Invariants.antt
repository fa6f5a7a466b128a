use Rattle.std.proofs.Common.{◌≡◌, ◌≤◌, ◌*◌, length, map, take}
use Rattle.tide_workload.specs.Shapes.{key_names}
use Rattle.tide_workload.proofs.shapes.key_names.Given as goal

abbrev pub invariant-loop-words : goal.invariant-loop-words
invariant-loop-words l =
    (l.keys ≡ key_names (map (λ words. map (λ word. word.now) words.items) (take l.words-index l.paths)))
    × (length l.keys ≤ 64 * l.words-index)
