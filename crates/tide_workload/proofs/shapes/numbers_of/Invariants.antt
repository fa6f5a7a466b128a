use Rattle.std.proofs.Common.{◌≡◌, map, take}
use Rattle.tide_text.specs.work.Keys.{key_number}
use Rattle.tide_workload.proofs.shapes.numbers_of.Given as goal

abbrev pub invariant-loop-word : goal.invariant-loop-word
invariant-loop-word l = l.path.items ≡ map (key_number l.keys) (map (λ word. word.now) (take l.word-index l.words))
