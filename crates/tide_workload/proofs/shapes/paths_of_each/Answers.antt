-- One more path is read: its words are put behind those so far.
use Rattle.std.proofs.Common.{◌≡◌, true, Bor, Vec, Global, List, ℕ, map}
use Rattle.std.proofs.lemmas.Result.{err_from_is_err_and}
use Rattle.toml.specs.View.{view}
use Rattle.tide_workload.specs.Shapes.{are_keys, path_in}
use Rattle.tide_workload.proofs.EachLemmas.{Reads-all, Reads-err, Reads-push, pushed_all, pushed_length}
use Rattle.tide_workload.proofs.shapes.paths_of_each.Goals as goal

-- the words of a path
abbrev texts : Vec (Bor (List ℕ)) Global → List (List ℕ)
texts words = map (λ (word : Bor (List ℕ)). word.now) words.items

pub loop-value-preserved : goal.loop-value-preserved
loop-value-preserved c =
    let done = c.loop-value.paths.items in
    let now = c.push.new.self.items in
    let words = c.in_ok-path_in.field-0 in
    let pushed = c.in_ok-push.ensures.items in (
      pushed_length done now words pushed c.loop-value.value-index c.loop-value.invariant.0,
      pushed_all done now words pushed (λ w. are_keys (texts w) ≡ true) c.loop-value.invariant.1 c.in_ok-path_in.ensures.keys,
      Reads-push done now words pushed path_in view texts c.args.values.now c.loop-value.value-index c.value-item.result c.loop-value-test.true
          c.value-item.is c.in_ok-path_in.ensures.words c.loop-value.invariant.2,
    )

pub returns-in_err-path_in-clause-words : goal.returns-in_err-path_in-clause-words
returns-in_err-path_in-clause-words c =
    let failed = err_from_is_err_and c.from_residual.result c.from_residual.ensures.1 in
    rw (failed.1, failed.2) (λ kept. Reads-err path_in view (map texts c.loop-value.paths.items) c.args.values.now c.loop-value.value-index c.value-item.result
    c.in_err-path_in.field-0.0 c.loop-value-test.true c.value-item.is (c.in_err-path_in.ensures.words kept) c.loop-value.invariant.2)

pub returns-clause-words : goal.returns-clause-words
returns-clause-words c = Reads-all path_in view (map texts c.loop-value.paths.items) c.args.values.now c.loop-value.value-index c.loop-value-test.false c.loop-value.invariant.2
