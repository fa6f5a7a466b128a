use Rattle.std.proofs.Common.{◌∙◌, ◌++◌, ◌∷◌, [], ap, sym, ℕ, List, Bor, map, take}
use Rattle.tide_text.specs.work.Keys.{key_number}
use Rattle.tide_workload.proofs.PathLemmas.{numbers_more}
use Rattle.tide_workload.proofs.shapes.numbers_of.Goals as goal

pub loop-word-preserved : goal.loop-word-preserved
loop-word-preserved c =
    c.in_ok-push.ensures.items
    ∙ ap (λ (front : List ℕ). front ++ c.place.result ∷ []) c.loop-word.invariant
    ∙ ap (λ (n : ℕ). map (key_number c.args.keys.now) (map (λ (word : Bor (List ℕ)). word.now) (take c.loop-word.word-index c.args.words.now)) ++ n ∷ []) c.place.ensures
    ∙ sym (numbers_more (key_number c.args.keys.now) (λ (word : Bor (List ℕ)). word.now) c.args.words.now c.loop-word.word-index _ c.loop-word-test.true)
