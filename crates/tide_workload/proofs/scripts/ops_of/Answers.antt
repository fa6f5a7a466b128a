-- One more operation is read: it is put behind those so far.
use Rattle.std.proofs.Common.{◌∙◌, ap, sym}
use Rattle.toml.specs.View.{view}
use Rattle.toml.specs.declared.value.Value.{Value}
use Rattle.tide_workload.specs.Scripts.{op_at, text_or_none}
use Rattle.tide_workload.proofs.EachLemmas.{ReadsFrom-all, ReadsFrom-more, pushed_length}
use Rattle.tide_workload.proofs.scripts.ops_of.Goals as goal

pub loop-at-preserved : goal.loop-at-preserved
loop-at-preserved c =
    let done = c.loop-at.ops.items in
    let pushed = c.in_ok-push.ensures.items in
    let read = ap (op_at c.args.limits.now c.args.mutator c.loop-at.at) (sym c.text_or_none-text.ensures) ∙ sym c.in_ok-op_at.ensures in (
      pushed_length done c.push.new.self.items c.in_ok-op_at.field-0 pushed c.loop-at.at c.loop-at.invariant.0,
      rw pushed (ReadsFrom-more (op_at c.args.limits.now c.args.mutator) (λ (value : Value). text_or_none (view value)) done c.args.texts.now c.loop-at.at
          c.index-texts-at.result c.in_ok-op_at.field-0 c.loop-at-test.true c.index-texts-at.is read c.loop-at.invariant.1),
    )

pub returns-clause-ops : goal.returns-clause-ops
returns-clause-ops c =
    ReadsFrom-all (op_at c.args.limits.now c.args.mutator) (λ (value : Value). text_or_none (view value)) c.loop-at.ops.items c.args.texts.now c.loop-at.at
    c.loop-at-test.false c.loop-at.invariant.1
