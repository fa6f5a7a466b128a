-- The tables are read one after another, each put behind those so far, once there is an array of them.
use Rattle.std.proofs.Common.{◌≡◌, ◌∙◌, List, Result, Ok, ap, map, sym}
use Rattle.std.proofs.lemmas.Result.{err_from_is_err_and}
use Rattle.toml.specs.Data.{Data, Members}
use Rattle.toml.specs.View.{view, table_view}
use Rattle.tide_text.specs.declared.work.fault.Fault.{Fault}
use Rattle.tide_text.specs.declared.work.field.Field.TheVariants.{Mutator}
use Rattle.tide_text.specs.declared.work.workload.TheConstants.{MAX_MUTATORS}
use Rattle.tide_workload.specs.Fields.{required, values_in}
use Rattle.tide_workload.specs.Scripts.{mutators_of, table_in}
use Rattle.tide_workload.specs.Steps.{◌>>=◌, each}
use Rattle.tide_workload.proofs.EachLemmas.{Reads-all, Reads-err, Reads-push, pushed_length}
use Rattle.tide_workload.proofs.scripts.mutators_of.Goals as goal

-- by what is there of the field
by_value : (document : Members) (value : Result Data Fault) → value ≡ required Mutator document
    → mutators_of document ≡ (value >>= (λ v. values_in Mutator 1 MAX_MUTATORS v >>= each table_in))
by_value document value is = ap (λ (r : Result Data Fault). r >>= (λ v. values_in Mutator 1 MAX_MUTATORS v >>= each table_in)) (sym is)

-- and by the array that this is
by_values : (document : Members) (value : Data) (values : Result (List Data) Fault) → Ok value ≡ required Mutator document
    → values ≡ values_in Mutator 1 MAX_MUTATORS value → mutators_of document ≡ (values >>= each table_in)
by_values document value values is are = by_value document (Ok value) is ∙ ap (λ (r : Result (List Data) Fault). r >>= each table_in) (sym are)

pub returns-in_err-value-clause-tables : goal.returns-in_err-value-clause-tables
returns-in_err-value-clause-tables c =
    let failed = err_from_is_err_and c.from_residual.result c.from_residual.ensures.1 in
    rw (failed.1, failed.2) (λ kept. by_value (table_view c.args.document.now) _ c.in_err-value.ensures)

pub returns-in_err-values-clause-tables : goal.returns-in_err-values-clause-tables
returns-in_err-values-clause-tables c =
    let failed = err_from_is_err_and c.from_residual-in_err-values.result c.from_residual-in_err-values.ensures.1 in
    rw (failed.1, failed.2) (λ kept. by_values (table_view c.args.document.now) (view c.in_ok-value.value.now) _ c.in_ok-value.ensures c.in_err-values.ensures.value)

pub loop-value-preserved : goal.loop-value-preserved
loop-value-preserved c =
    let done = c.loop-value.tables.items in
    let now = c.push.new.self.items in
    let table = c.in_ok-table_in.field-0 in
    let pushed = c.in_ok-push.ensures.items in (
      pushed_length done now table pushed c.loop-value.value-index c.loop-value.invariant.0,
      Reads-push done now table pushed table_in view (λ t. table_view t.now) c.in_ok-values.values.now c.loop-value.value-index c.value-item.result
          c.loop-value-test.true c.value-item.is (sym c.in_ok-table_in.ensures) c.loop-value.invariant.1,
    )

pub returns-in_err-table_in-clause-tables : goal.returns-in_err-table_in-clause-tables
returns-in_err-table_in-clause-tables c =
    let failed = err_from_is_err_and c.from_residual-in_err-table_in.result c.from_residual-in_err-table_in.ensures.1 in
    rw (failed.1, failed.2) (λ kept.
    by_values (table_view c.args.document.now) (view c.in_ok-value.value.now) _ c.in_ok-value.ensures c.in_ok-values.ensures.value
    ∙ Reads-err table_in view (map (λ t. table_view t.now) c.loop-value.tables.items) c.in_ok-values.values.now c.loop-value.value-index c.value-item.result
    c.in_err-table_in.field-0.0 c.loop-value-test.true c.value-item.is (sym c.in_err-table_in.ensures) c.loop-value.invariant.1)

pub returns-clause-tables : goal.returns-clause-tables
returns-clause-tables c =
    by_values (table_view c.args.document.now) (view c.in_ok-value.value.now) _ c.in_ok-value.ensures c.in_ok-values.ensures.value
    ∙ Reads-all table_in view (map (λ t. table_view t.now) c.loop-value.tables.items) c.in_ok-values.values.now c.loop-value.value-index c.loop-value-test.false
    c.loop-value.invariant.1
