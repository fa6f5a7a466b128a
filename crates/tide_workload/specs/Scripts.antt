-- What the tables of a document's mutators say.
use Rattle.std.specs.Prelude.{ℕ, Bool, List, [], ◌∷◌, Option, Some, None, Result, Ok, Err, is_some}
use Rattle.std.specs.Option.{unwrap_or}
use Rattle.tide_model.specs.declared.op.Op.{Op}
use Rattle.toml.specs.Data.{Data, as_str, as_table, Members}
use Rattle.tide_text.specs.declared.work.workload.TheConstants.{MAX_MUTATORS, MAX_OPS}
use Rattle.tide_text.specs.declared.work.fault.Fault.{Fault}
use Rattle.tide_text.specs.declared.work.fault.Fault.TheVariants.{BadOp}
use Rattle.tide_text.specs.declared.work.field.Field.TheVariants.{Mutator, Ops}
use Rattle.tide_workload.specs.Fields.{required, values_in, has_only}
use Rattle.tide_text.specs.work.OpArguments.{OpArguments}
use Rattle.tide_text.specs.work.ReadOp.{op_of}
use Rattle.tide_workload.specs.Steps.{◌>>=◌, each, each_from, good}

-- the table of one mutator
abbrev pub table_in : Data → Result Members Fault
table_in value = good Mutator (as_table value)

-- the tables of a document's mutators, of which there are 1 to 16
abbrev pub mutators_of : Members → Result (List Members) Fault
mutators_of document = do
  value ← required Mutator document
  values ← values_in Mutator 1 MAX_MUTATORS value
  each table_in values

-- the text that a value is
abbrev pub text_in : Data → Result (List ℕ) Fault
text_in value = good Ops (as_str value)

-- whether a value is a text
abbrev pub is_text : Data → Bool
is_text value = is_some (as_str value)

-- the text that a value is, or an empty one where it is no text
abbrev pub text_or_none : Data → List ℕ
text_or_none value = unwrap_or (as_str value) []

-- the texts of a mutator's operations
abbrev pub texts_of : Members → Result (List (List ℕ)) Fault
texts_of mutator = do
  value ← required Ops mutator
  values ← values_in Ops 0 MAX_OPS value
  each text_in values

-- the texts of a mutator whose table has nothing else
abbrev pub script_texts : Members → Result (List (List ℕ)) Fault
script_texts mutator = do
  texts ← texts_of mutator
  only ← has_only (Ops ∷ []) mutator
  Ok texts

-- the operation at a place of a mutator, which is bad where there is none
abbrev pub op_or : ℕ → ℕ → Option Op → Result Op Fault
op_or mutator at None = Err (BadOp mutator at)
op_or mutator at (Some op) = Ok op

-- the operation that a text at a place of a mutator is
abbrev pub op_at : OpArguments → ℕ → ℕ → List ℕ → Result Op Fault
op_at limits mutator at text = op_or mutator at (op_of limits text)

-- the operations of a mutator
abbrev pub ops_of : OpArguments → ℕ → List (List ℕ) → Result (List Op) Fault
ops_of limits mutator texts = each_from (op_at limits mutator) 0 texts

-- the operations of each mutator
abbrev pub scripts_of : OpArguments → List (List (List ℕ)) → Result (List (List Op)) Fault
scripts_of limits scripts = each_from (ops_of limits) 0 scripts
