use Rattle.std.proofs.Common.{◌<◌, ◌≤◌, ◌∙◌, sym, arith, ℕ, List, Bor, length, map}
use Rattle.std.proofs.lemmas.Grind.{common_steps}
use Rattle.std.proofs.lemmas.List.{length-map}
use Rattle.std.proofs.lemmas.List.Folds.{list_all-map}
use Rattle.tide_text.specs.work.Keys.{is_key}
use Rattle.tide_workload.proofs.PathLemmas.{are_keys-few}
use Rattle.tide_workload.proofs.shapes.are_keys.Goals as goal

pub returns-then-words-le-MAX_PATH : goal.returns-then-words-le-MAX_PATH
returns-then-words-le-MAX_PATH c =
    let words = map (λ (word : Bor (List ℕ)). word.now) c.args.words.now in
    let same = length-map c.args.words.now (λ (word : Bor (List ℕ)). word.now) in
    let some : 0 < length c.args.words.now = grind (arith, common_steps) in
    let few : length words ≤ 64 = omega (arith, same) in
    let more : 0 < length words = omega (arith, same) in
    c.has_keys_only.ensures ∙ sym (list_all-map is_key (λ (word : Bor (List ℕ)). word.now) c.args.words.now) ∙ sym (are_keys-few words more few)
