-- One more mutator's operations are read: they are put behind those so far.
use Rattle.std.proofs.Common.{◌≤◌, Bor, Vec, Global, List, length, map}
use Rattle.toml.specs.View.{view}
use Rattle.toml.specs.declared.value.Value.{Value}
use Rattle.tide_model.specs.declared.op.Op.{Op}
use Rattle.tide_text.specs.declared.work.workload.TheConstants.{MAX_OPS}
use Rattle.tide_workload.specs.Scripts.{ops_of, text_or_none}
use Rattle.tide_workload.proofs.EachLemmas.{ReadsFrom-all, ReadsFrom-push, pushed_all, pushed_length}
use Rattle.tide_workload.proofs.scripts.scripts_of.Goals as goal

pub loop-mutator-preserved : goal.loop-mutator-preserved
loop-mutator-preserved c =
    let done = c.loop-mutator.ops.items in
    let now = c.push.new.self.items in
    let ops = c.in_ok-ops_of.field-0 in
    let pushed = c.in_ok-push.ensures.items in (
      pushed_length done now ops pushed c.loop-mutator.mutator c.loop-mutator.invariant.0,
      pushed_all done now ops pushed (λ o. length o.items ≤ MAX_OPS) c.loop-mutator.invariant.1 c.in_ok-ops_of.ensures.short,
      ReadsFrom-push done now ops pushed (ops_of c.args.limits.now) (λ (texts : Bor (List Value)). map (λ (value : Value). text_or_none (view value)) texts.now)
          (λ (o : Vec Op Global). o.items) c.args.scripts.now c.loop-mutator.mutator c.index-scripts-mutator.result c.loop-mutator-test.true
          c.index-scripts-mutator.is c.in_ok-ops_of.ensures.ops c.loop-mutator.invariant.2,
    )

pub returns-clause-scripts : goal.returns-clause-scripts
returns-clause-scripts c =
    ReadsFrom-all (ops_of c.args.limits.now) (λ (texts : Bor (List Value)). map (λ (value : Value). text_or_none (view value)) texts.now)
    (map (λ (o : Vec Op Global). o.items) c.loop-mutator.ops.items) c.args.scripts.now c.loop-mutator.mutator c.loop-mutator-test.false c.loop-mutator.invariant.2
