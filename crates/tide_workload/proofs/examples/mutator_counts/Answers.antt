use Rattle.std.proofs.Common.{refl}
use Rattle.std.specs.Str.{chars, is_utf8}
use Rattle.toml.proofs.OnLiterals.{toml_on_literals}
use Rattle.tide_workload.specs.Shapes.{declared_in}
use Rattle.tide_workload.specs.Reading.{document_of, settings_of, work_of, reads_workload}
use Rattle.tide_workload.proofs.examples.mutator_counts.Goals as goal

pub returns : goal.returns
unfolding toml_on_literals chars is_utf8 document_of settings_of declared_in work_of reads_workload
returns c = record { none = refl; sixteen = refl; seventeen = refl }
