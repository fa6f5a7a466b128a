use Rattle.std.proofs.Common.{◌∙◌, ap, sym, Err}
use Rattle.std.specs.Option.{ok_or}
use Rattle.toml.specs.Errors.{IsMemory}
use Rattle.tide_text.specs.declared.work.fault.Fault.TheVariants.{NotToml}
use Rattle.tide_workload.proofs.DocumentLemmas.{document_or-no_text, document_or-text}
use Rattle.tide_workload.proofs.reading.document_of.Goals as goal

pub returns-in-Err : goal.returns-in-Err
returns-in-Err c _ = document_or-no_text c.args.bytes.now c.in-Err.ensures.cases.0

pub returns-in-Ok-table_from_str : goal.returns-in-Ok-table_from_str
returns-in-Ok-table_from_str c =
    let (same, text) = c.in-Ok.ensures.cases in
    let parsed = rw same at c.in-Ok-table_from_str.ensures.ok in
    document_or-text c.args.bytes.now text ∙ ap (λ found. ok_or found NotToml) parsed

pub returns-in-Err-table_from_str : goal.returns-in-Err-table_from_str
returns-in-Err-table_from_str c other =
    let (same, text) = c.in-Ok.ensures.cases in
    let no_memory : ¬ (IsMemory c.in-Err-table_from_str.error) = λ memory. other (c.fault_of.ensures.memory memory) in
    let parsed = rw same at (c.in-Err-table_from_str.ensures.refused no_memory) in
    document_or-text c.args.bytes.now text ∙ ap (λ found. ok_or found NotToml) parsed ∙ ap Err (sym (c.fault_of.ensures.other no_memory))
