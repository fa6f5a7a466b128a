use Rattle.std.proofs.Common.{◌≡◌, ◌∙◌, ap, sym, Bool, ◌&&◌, ℕ, List, Bor, map}
use Rattle.tide_workload.specs.Shapes.{are_keys}
use Rattle.tide_text.specs.work.Words.{is_trimmed}
use Rattle.tide_workload.proofs.PathLemmas.{path_words-by}
use Rattle.tide_workload.proofs.shapes.path_words.Goals as goal

-- the test of the first words
test : (text : List ℕ) (words slice : List (Bor (List ℕ))) (b is : Bool) → is ≡ b → is ≡ (is_trimmed text && are_keys (map (λ (word : Bor (List ℕ)). word.now) slice))
    → slice ≡ words → b ≡ (is_trimmed text && are_keys (map (λ (word : Bor (List ℕ)). word.now) words))
test text words slice b is tested by same =
    sym tested ∙ by ∙ ap (λ (ws : List (Bor (List ℕ))). is_trimmed text && are_keys (map (λ (word : Bor (List ℕ)). word.now) ws)) same

pub returns-clause-words : goal.returns-clause-words
returns-clause-words c =
    path_words-by c.args.text.now (map (λ (word : Bor (List ℕ)). word.now) c.in_ok-words.words.items) _ c.in_ok-words.ensures
    (test c.args.text.now c.in_ok-words.words.items c.as_slice.result.now _ _ c.if-is_path.false c.is_path.ensures c.as_slice.ensures.value)

pub returns-then-is_path-clause-words : goal.returns-then-is_path-clause-words
returns-then-is_path-clause-words c =
    path_words-by c.args.text.now (map (λ (word : Bor (List ℕ)). word.now) c.in_ok-words.words.items) _ c.in_ok-words.ensures
    (test c.args.text.now c.in_ok-words.words.items c.as_slice.result.now _ _ c.if-is_path.true c.is_path.ensures c.as_slice.ensures.value)
