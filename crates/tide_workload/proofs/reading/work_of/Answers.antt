use Rattle.std.proofs.Common.{sym, subst, map, List, Bor, Result}
use Rattle.toml.specs.View.{view, table_view}
use Rattle.toml.specs.declared.value.Value.{Value}
use Rattle.tide_text.specs.declared.work.fault.Fault.{Fault}
use Rattle.tide_workload.specs.Scripts.{text_or_none}
use Rattle.tide_workload.specs.Steps.{Gives}
use Rattle.tide_text.specs.work.Work.{Work}
use Rattle.tide_workload.proofs.WorkLemmas.{work_by}
use Rattle.tide_workload.proofs.reading.work_of.Goals as goal

pub returns : goal.returns
returns c =
    let texts = rw c.as_slice.ensures.value at c.in_ok-texts.ensures.texts in
    let read = rw c.as_slice-2.ensures.value at c.load_of.ensures in
    subst (λ (reading : Result Work Fault). Gives (λ (load : Work). load) c.load_of.result reading)
    (sym (work_by (table_view c.args.document.now) c.in_ok-settings.settings c.in_ok-keys.keys c.in_ok-keys.paths (map (λ table. table_view table.now) c.in_ok-mutators.mutators.items)
    (map (λ (texts : Bor (List Value)). map (λ (value : Value). text_or_none (view value)) texts.now) c.in_ok-texts.texts.items)
    (sym c.in_ok-settings.ensures.value) c.in_ok-keys.ensures.shapes c.in_ok-mutators.ensures.tables (sym c.in_ok-has_only.ensures) texts))
    read
