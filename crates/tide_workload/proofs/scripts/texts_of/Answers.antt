use Rattle.std.proofs.Common.{sym, ◌∙◌}
use Rattle.toml.specs.View.{view, table_view}
use Rattle.tide_workload.proofs.TextLemmas.{texts_of-all, texts_of-bad}
use Rattle.tide_workload.proofs.scripts.texts_of.Goals as goal

pub returns-then-are_texts-clause-texts : goal.returns-then-are_texts-clause-texts
returns-then-are_texts-clause-texts c =
    texts_of-all (table_view c.args.mutator.now) (view c.in_ok-value.value.now) c.in_ok-values.values.now
    (sym c.in_ok-value.ensures) (sym c.in_ok-values.ensures.value) (sym c.are_texts.ensures ∙ c.if-are_texts.true)

pub returns-else-are_texts-clause-texts : goal.returns-else-are_texts-clause-texts
returns-else-are_texts-clause-texts c _ =
    texts_of-bad (table_view c.args.mutator.now) (view c.in_ok-value.value.now) c.in_ok-values.values.now
    (sym c.in_ok-value.ensures) (sym c.in_ok-values.ensures.value) (sym c.are_texts.ensures ∙ c.if-are_texts.false)
