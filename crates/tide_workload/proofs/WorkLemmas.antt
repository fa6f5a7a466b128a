-- What the parts of a document make of it.
use Rattle.std.proofs.Common.{◌≡◌, ℕ, List, Ok}
use Rattle.toml.specs.Data.{Members}
use Rattle.tide_text.specs.declared.work.settings.Settings.{Settings}
use Rattle.tide_workload.specs.Fields.{has_only}
use Rattle.tide_workload.specs.Reading.{settings_of, document_fields, load_with, work_of}
use Rattle.tide_workload.specs.Scripts.{mutators_of, script_texts}
use Rattle.tide_workload.specs.Shapes.{declared_in}
use Rattle.tide_workload.specs.Steps.{each}

pub work_by : (document : Members) (settings : Settings) (keys paths : List (List ℕ)) (mutators : List Members) (texts : List (List (List ℕ)))
    → settings_of document ≡ Ok settings → declared_in document ≡ Ok (keys, paths) → mutators_of document ≡ Ok mutators → has_only document_fields document ≡ Ok tt
    → each script_texts mutators ≡ Ok texts
    → work_of document ≡ load_with settings keys paths texts
unfolding work_of
work_by document settings keys paths mutators texts numbers shapes tables only read = rw (numbers, shapes, tables, only, read)
