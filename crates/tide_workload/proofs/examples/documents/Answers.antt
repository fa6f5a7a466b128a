use Rattle.std.proofs.Common.{refl}
use Rattle.std.specs.Str.{chars, is_utf8}
use Rattle.toml.proofs.OnLiterals.{toml_on_literals}
use Rattle.tide_text.specs.work.ReadOp.{op_named, property_op_named, handle_op_named, pair_op_named}
use Rattle.tide_workload.specs.Shapes.{declared_in}
use Rattle.tide_workload.specs.Reading.{document_of, settings_of, work_of, reads_workload}
use Rattle.tide_workload.proofs.examples.documents.Goals as goal

pub returns : goal.returns
unfolding toml_on_literals chars is_utf8 document_of settings_of declared_in op_named property_op_named handle_op_named pair_op_named work_of reads_workload
returns c = record { stored = refl; empty = refl; no_text = refl; no_document = refl; bad_before_missing = refl; missing_before_other = refl; other_before_operations = refl; operations_last = refl; other_before_bad_operation = refl }
