-- What the bytes of a workload say.
use Rattle.std.specs.Prelude.{ℕ, nat_lt, if◌then◌else◌, List, [], ◌∷◌, length, Option, None, Result, Ok, Err}
use Rattle.std.specs.Option.{ok_or}
use Rattle.std.specs.Str.{is_utf8}
use Rattle.toml.specs.Data.{Members}
use Rattle.toml.specs.Parse.{parse_document}
use Rattle.tide_text.specs.declared.work.fault.Fault.{Fault}
use Rattle.tide_text.specs.declared.work.fault.Fault.TheVariants.{NotToml, TooLong}
use Rattle.tide_text.specs.declared.work.field.Field.{Field}
use Rattle.tide_text.specs.declared.work.field.Field.TheVariants.{Registers, Strong, Weak, Blocks, Arrays, Period, Headroom, Trigger, Shapes, Mutator}
use Rattle.tide_workload.specs.declared.reading.TheConstants.{MAX_BYTES}
use Rattle.tide_text.specs.declared.work.settings.Settings.{Settings}
use Rattle.tide_workload.specs.Fields.{number_of_field, number_or_zero, five_of_field, five_or_zeros, has_only}
use Rattle.tide_text.specs.work.OpArguments.{limits_with}
use Rattle.tide_workload.specs.Scripts.{mutators_of, script_texts, scripts_of}
use Rattle.tide_workload.specs.Shapes.{declared_in}
use Rattle.tide_workload.specs.Steps.{◌>>=◌, each}
use Rattle.tide_text.specs.work.Work.{Work}

-- the document that bytes are, if any: they are UTF-8, and TOML as the crate `toml` states it
unfoldable pub document_of : List ℕ → Option Members
document_of bytes = if is_utf8 bytes then parse_document bytes else None

-- the document that bytes are, or the refusal of bytes that are none
abbrev pub document_or : List ℕ → Result Members Fault
document_or bytes = ok_or (document_of bytes) NotToml

-- the settings of a document, its fields up to `trigger` in their order
unfoldable pub settings_of : Members → Result Settings Fault
settings_of document = do
  registers ← number_of_field Registers 1 16 document
  strong ← number_or_zero Strong 256 document
  weak ← number_or_zero Weak 256 document
  blocks ← five_of_field Blocks 64 document
  arrays ← five_or_zeros Arrays 64 document
  period ← number_of_field Period 4 65536 document
  headroom ← number_of_field Headroom 1 1000000 document
  trigger ← number_or_zero Trigger 1000000 document
  Ok (record { registers = registers; strong = strong; weak = weak; blocks = blocks; arrays = arrays; period = period; headroom = headroom; trigger = trigger })

-- the fields that a document may have
abbrev pub document_fields : List Field
document_fields = Registers ∷ Strong ∷ Weak ∷ Blocks ∷ Arrays ∷ Period ∷ Headroom ∷ Trigger ∷ Shapes ∷ Mutator ∷ []

-- the workload with these settings, keys, paths and texts of operations
abbrev pub load_with : Settings → List (List ℕ) → List (List ℕ) → List (List (List ℕ)) → Result Work Fault
load_with settings keys paths texts = do
  scripts ← scripts_of (limits_with settings keys) texts
  Ok (record { settings = settings; keys = keys; paths = paths; scripts = scripts })

-- the workload that a document is
unfoldable pub work_of : Members → Result Work Fault
work_of document = do
  settings ← settings_of document
  shapes ← declared_in document
  mutators ← mutators_of document
  only ← has_only document_fields document
  texts ← each script_texts mutators
  load_with settings shapes.0 shapes.1 texts

-- the workload that bytes are, or the first fault in them
unfoldable pub reads_workload : List ℕ → Result Work Fault
reads_workload bytes = if nat_lt MAX_BYTES (length bytes) then Err TooLong else (document_or bytes >>= work_of)
