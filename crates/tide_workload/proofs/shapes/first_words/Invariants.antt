use Rattle.std.proofs.Common.{◌≡◌, ◌-◌, ◌++◌, map, take}
use Rattle.tide_text.specs.work.Words.{words_in}
use Rattle.tide_workload.proofs.shapes.first_words.Given as goal

abbrev pub invariant-loop : goal.invariant-loop
invariant-loop l = map (λ word. word.now) l.words.items ++ take (l.limit - l.counter) (words_in l.rest) ≡ take l.limit (words_in l.text)
