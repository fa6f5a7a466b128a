-- The texts of one more mutator are read: they are put behind those so far.
use Rattle.std.proofs.Common.{◌≤◌, ℕ, Bor, List, length, map}
use Rattle.toml.specs.View.{view, table_view}
use Rattle.toml.specs.declared.value.Value.{Value}
use Rattle.tide_text.specs.declared.work.workload.TheConstants.{MAX_OPS}
use Rattle.tide_workload.specs.Scripts.{script_texts, text_or_none}
use Rattle.tide_workload.proofs.EachLemmas.{Reads-all, Reads-push, pushed_all, pushed_length}
use Rattle.tide_workload.proofs.scripts.texts_of_each.Goals as goal

-- the texts of a mutator
abbrev texts_in : Bor (List Value) → List (List ℕ)
texts_in texts = map (λ (value : Value). text_or_none (view value)) texts.now

pub loop-mutator-preserved : goal.loop-mutator-preserved
loop-mutator-preserved c =
    let done = c.loop-mutator.scripts.items in
    let now = c.push.new.self.items in
    let texts = c.in_ok-script_texts.field-0 in
    let pushed = c.in_ok-push.ensures.items in (
      pushed_length done now texts pushed c.loop-mutator.mutator-index c.loop-mutator.invariant.0,
      pushed_all done now texts pushed (λ t. length t.now ≤ MAX_OPS) c.loop-mutator.invariant.1 c.in_ok-script_texts.ensures.short,
      Reads-push done now texts pushed script_texts (λ table. table_view table.now) texts_in c.args.mutators.now c.loop-mutator.mutator-index c.mutator-item.result
          c.loop-mutator-test.true c.mutator-item.is c.in_ok-script_texts.ensures.texts c.loop-mutator.invariant.2,
    )

pub returns-clause-texts : goal.returns-clause-texts
returns-clause-texts c =
    Reads-all script_texts (λ table. table_view table.now) (map texts_in c.loop-mutator.scripts.items) c.args.mutators.now c.loop-mutator.mutator-index
    c.loop-mutator-test.false c.loop-mutator.invariant.2
