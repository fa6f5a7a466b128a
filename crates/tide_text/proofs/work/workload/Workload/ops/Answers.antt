use Rattle.std.proofs.Common.{◌≡◌, ◌<◌, arith, subst, sym, ◌∙◌, ap, length, get_or, List, Vec, Global}
use Rattle.std.proofs.lemmas.Grind.{common_steps}
use Rattle.std.specs.Prelude.{All}
use Rattle.tide_model.specs.declared.op.Op.{Op}
use Rattle.tide_text.specs.work.Work.{Work, IsOperation, limits_of}
use Rattle.tide_text.specs.work.OpArguments.{limits_with}
use Rattle.tide_text.proofs.work_laws.SeenLemmas.{All-seen}
use Rattle.tide_text.proofs.work.workload.Workload.ops.Goals as goal

pub returns-clause-short : goal.returns-clause-short
returns-clause-short c =
    let within = rw (← c.self.view_is) at c.requires in
    let short = c.self.invariant.sized.short c.args.m c.as_slice.result.now within in
    grind (arith, common_steps, short)

pub returns-clause-within : goal.returns-clause-within
returns-clause-within c =
    let m : c.args.m < length c.self.inside.scripts.items = grind (arith, common_steps) in
    let all = All-seen (λ ops. All (IsOperation (limits_with c.self.inside.settings c.self.inside.keys)) ops) (λ (ops : Vec Op Global). ops.items) c.self.inside.scripts.items c.args.m c.index.result.now m c.self.invariant.operations in
    let same : c.as_slice.result.now ≡ (get_or c.self.inside.scripts.items c.args.m c.index.result.now).items =
    c.as_slice.ensures.value ∙ ap (λ (ops : Vec Op Global). ops.items) c.index.ensures in
    subst (λ (ops : List Op). All (IsOperation (limits_of c.args.self.now)) ops) (sym same)
    (subst (λ (w : Work). All (IsOperation (limits_of w)) (get_or c.self.inside.scripts.items c.args.m c.index.result.now).items) c.self.view_is all)
