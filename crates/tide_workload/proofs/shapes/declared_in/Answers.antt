use Rattle.std.proofs.Common.{◌≡◌, ◌≤◌, Ok, sym, subst, arith, ℕ, List, Bor, Vec, Global, Result, map, length}
use Rattle.std.proofs.lemmas.List.{length-map}
use Rattle.std.proofs.lemmas.List.Elements.{All-map}
use Rattle.std.specs.Prelude.{true}
use Rattle.toml.specs.View.{table_view}
use Rattle.tide_shape.specs.Shapes.{first_double}
use Rattle.tide_text.specs.declared.work.fault.Fault.{Fault}
use Rattle.tide_workload.specs.Shapes.{are_keys, key_names, paths_by_number}
use Rattle.tide_workload.specs.Steps.{Gives}
use Rattle.tide_workload.proofs.ShapeLemmas.{shapes_by, shapes_within, distinct_within}
use Rattle.tide_workload.proofs.shapes.declared_in.Goals as goal

-- the words of each path
words_seen : List (Vec (Bor (List ℕ)) Global) → List (List (List ℕ))
words_seen paths = map (λ words. map (λ word. word.now) words.items) paths

keys_are : (keys : List (List ℕ)) (slice paths : List (Vec (Bor (List ℕ)) Global)) → keys ≡ key_names (words_seen slice) → slice ≡ paths → keys ≡ key_names (words_seen paths)
keys_are keys slice paths named same = rw (← same) named

paths_are : (keys numbers : List (List ℕ)) (slice paths : List (Vec (Bor (List ℕ)) Global))
    → ◌≡◌ {A = Result (List (List ℕ)) Fault} (Ok (paths_by_number keys (words_seen slice))) (Ok numbers) → slice ≡ paths → numbers ≡ paths_by_number keys (words_seen paths)
paths_are keys numbers slice paths numbered same = let e : paths_by_number keys (words_seen slice) ≡ numbers = cc in rw (← same) (sym e)

pub returns-clause-shapes : goal.returns-clause-shapes
unfolding words_seen
returns-clause-shapes c =
    let named = keys_are c.in_ok-keys.keys c.as_slice.result.now c.in_ok-words.words.items c.in_ok-keys.ensures c.as_slice.ensures.value in
    let numbered = paths_are c.in_ok-keys.keys c.in_ok-paths.paths c.as_slice-2.result.now c.in_ok-words.words.items c.in_ok-paths.ensures c.as_slice-2.ensures.value in
    subst (λ (reading : Result (List (List ℕ) × List (List ℕ)) Fault). Gives (λ (shapes : List (List ℕ) × List (List ℕ)). (shapes.0, shapes.1)) c.unless_double.result reading)
    (sym (shapes_by (table_view c.args.document.now) (words_seen c.in_ok-words.words.items) c.in_ok-keys.keys c.in_ok-paths.paths c.in_ok-words.ensures.words named numbered))
    c.unless_double.ensures

pub returns-clause-paths : goal.returns-clause-paths
unfolding words_seen
returns-clause-paths c =
    let words = c.in_ok-words.words.items in
    let named = keys_are c.in_ok-keys.keys c.as_slice.result.now words c.in_ok-keys.ensures c.as_slice.ensures.value in
    let numbered = paths_are c.in_ok-keys.keys c.in_ok-paths.paths c.as_slice-2.result.now words c.in_ok-paths.ensures c.as_slice-2.ensures.value in
    let sized = All-map (λ path. are_keys path ≡ true) (λ (path : Vec (Bor (List ℕ)) Global). map (λ (word : Bor (List ℕ)). word.now) path.items) words c.in_ok-words.ensures.keys in
    let few : length (words_seen words) ≤ 64 = omega (arith, c.in_ok-words.ensures.few, length-map words (λ (path : Vec (Bor (List ℕ)) Global). map (λ (word : Bor (List ℕ)). word.now) path.items)) in
    distinct_within c.in_ok-keys.keys c.in_ok-paths.paths c.unless_double.result (first_double c.in_ok-paths.paths)
    (shapes_within (words_seen words) c.in_ok-keys.keys c.in_ok-paths.paths few sized named numbered) c.unless_double.ensures
