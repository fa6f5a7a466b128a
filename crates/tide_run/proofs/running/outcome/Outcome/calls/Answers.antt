-- Answers to the goals of outcome::Outcome::calls.
use Rattle.std.proofs.Common.{ℕ, ◌<◌, ◌∙◌, ap, sym, subst, arith, length, List, Vec, Global, Some}
use Rattle.std.proofs.lemmas.List.{length-map}
use Rattle.std.proofs.lemmas.Option.{slice_get-map, slice_get-get_or}
use Rattle.std.specs.Prelude.{All, option_map}
use Rattle.tide_periods.specs.declared.answered.Answered.{Answered}
use Rattle.tide_workload.specs.Words.{HasText}
use Rattle.tide_run.specs.running.Runs.{Ran}
use Rattle.tide_run.proofs.running.outcome.Outcome.calls.Goals as goal

pub returns-clause-texts : goal.returns-clause-texts
returns-clause-texts c =
    let all = c.self.inside.calls.items in
    let items : Vec Answered Global → List Answered = λ (own : Vec Answered Global). own.items in
    let as_many = length-map all items in
    let each = c.self.invariant.one_each in
    let same = ap (λ (ran : Ran). ran.layout.mutators) c.self.view_is in
    let below : c.args.m < length all = omega (arith, as_many, each, same, c.requires) in
    subst (λ (keys : List (List ℕ)). All (λ call. HasText keys call.op) c.as_slice.result.now) (ap (λ (ran : Ran). ran.keys) c.self.view_is)
    (c.self.invariant.texts c.args.m c.as_slice.result.now
    (slice_get-map items all c.args.m ∙ ap (option_map items) (slice_get-get_or all c.args.m c.index.result.now below)
    ∙ ap (λ (own : Vec Answered Global). Some own.items) (sym c.index.ensures) ∙ ap Some (sym c.as_slice.ensures.value)))
