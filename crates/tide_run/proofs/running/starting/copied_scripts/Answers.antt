-- Answers to the goals of starting::copied_scripts.
use Rattle.std.proofs.Common.{◌<◌, ◌≤◌, ◌∙◌, ap, arith, length, map, subst, sym, take_all, List, Vec, Global, Some}
use Rattle.std.specs.Prelude.{All}
use Rattle.tide_model.specs.declared.op.Op.{Op}
use Rattle.tide_workload.specs.Words.{IsOperation, limits_of}
use Rattle.tide_run.proofs.running_laws.Copies.{All-copied, copy_more}
use Rattle.tide_run.proofs.running.starting.copied_scripts.Goals as goal

pub loop-m-preserved : goal.loop-m-preserved
loop-m-preserved c =
    let load = c.args.load.now in
    let items : Vec Op Global → List Op = λ (ops : Vec Op Global). ops.items in
    let below : c.loop-m.m < length load.scripts = omega (arith, c.loop-m-test.true, c.mutators-m-end.ensures.count) in
    let grown = c.in_ok-append.ensures in
    let same = c.in_ok-ops.ensures in
    record {
      copied = ap (map items) grown
          ∙ copy_more items c.loop-m.scripts.items c.in_ok-ops.ops load.scripts c.loop-m.m below c.loop-m.invariant.copied (c.ops.ensures.script ∙ ap Some (sym same));
      short = subst (λ (lists : List (Vec Op Global)). All (λ ops. length ops ≤ 65536) (map items lists)) (sym grown)
          (All-copied items (λ ops. length ops ≤ 65536) c.loop-m.scripts.items c.in_ok-ops.ops c.loop-m.invariant.short
          (subst (λ (ops : List Op). length ops ≤ 65536) (sym same) c.ops.ensures.short));
      within = subst (λ (lists : List (Vec Op Global)). All (All (IsOperation (limits_of load))) (map items lists)) (sym grown)
          (All-copied items (All (IsOperation (limits_of load))) c.loop-m.scripts.items c.in_ok-ops.ops c.loop-m.invariant.within
          (subst (All (IsOperation (limits_of load))) (sym same) c.ops.ensures.within));
    }

pub returns : goal.returns
returns c =
    let load = c.args.load.now in
    let items : Vec Op Global → List Op = λ (ops : Vec Op Global). ops.items in
    let count = c.mutators-m-end.ensures.count in
    let past : length load.scripts ≤ c.loop-m.m = (let over = c.loop-m-test.false in omega (arith, over, count)) in
    let some = c.mutators-m-end.ensures.some in
    let few : c.mutators-m-end.result ≤ 16 = c.mutators-m-end.ensures.few in
    let so = c.loop-m.invariant in
    record {
      are = so.copied ∙ take_all c.loop-m.m load.scripts past;
      some = omega (arith, count, some);
      few = omega (arith, count, few);
      short = so.short;
      within = so.within;
    }
