-- The four scripts are within the limits of a workload.
use Rattle.std.proofs.Common.{◌≡◌, ◌∙◌, ap, subst, sym, arith, List, [], map, Vec, Global}
use Rattle.tide_model.specs.declared.op.Op.{Op}
use Rattle.tide_text.specs.declared.work.settings.Settings.{Settings}
use Rattle.tide_text.specs.work.OpArguments.{limits_with}
use Rattle.tide_text.specs.work.Work.{AreOperations, IsSized}
use Rattle.tide_make.specs.Made.{scripts_below}
use Rattle.tide_make.proofs.Laws.{limits, scripts_sized, scripts_within}
use Rattle.tide_make.proofs.made.make.Goals as goal

pub of-requires-clause-sized : goal.of-requires-clause-sized
of-requires-clause-sized c =
    let all : c.loop-mutator.mutator ≡ 4 = omega (arith, c.loop-mutator-test.false, c.loop-mutator.auto.mutator-end) in
    subst IsSized (sym (c.loop-mutator.invariant ∙ ap (scripts_below c.args.number) all)) (scripts_sized c.args.number)

pub of-requires-clause-operations : goal.of-requires-clause-operations
of-requires-clause-operations c =
    let all : c.loop-mutator.mutator ≡ 4 = omega (arith, c.loop-mutator-test.false, c.loop-mutator.auto.mutator-end) in
    let scripts : List (List Op) = map (λ (ops : Vec Op Global). ops.items) c.loop-mutator.scripts.items in
    let within : AreOperations limits scripts =
    subst (AreOperations limits) (sym (c.loop-mutator.invariant ∙ ap (scripts_below c.args.number) all)) (scripts_within c.args.number) in
    subst (λ (s : Settings). AreOperations (limits_with s []) scripts) (sym c.settings.ensures) within
