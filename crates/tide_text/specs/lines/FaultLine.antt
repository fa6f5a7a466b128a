-- The line that tells what is wrong with bytes that are no workload.
use Rattle.std.specs.Prelude.{ℕ, List, ◌++◌, codes}
use Rattle.tide_text.specs.declared.work.fault.Fault.{Fault}
use Rattle.tide_text.specs.declared.work.fault.Fault.TheVariants.{NotToml, TooLong, Missing, Bad, BadOp, Memory}
use Rattle.tide_text.specs.lines.OpText.{number_operand}
use Rattle.tide_text.specs.work.FieldNames.{name_of}

-- a fault in words
unfoldable pub fault_text : Fault → List ℕ
fault_text NotToml = codes "not TOML"
fault_text TooLong = codes "too long"
fault_text (Missing field) = codes "missing field " ++ name_of field
fault_text (Bad field) = codes "bad field " ++ name_of field
fault_text (BadOp mutator at) = codes "bad op" ++ number_operand at ++ codes " of mutator" ++ number_operand mutator
fault_text Memory = codes "no memory"

-- the line of a fault: the program's name, and the fault in words
unfoldable pub fault_line : Fault → List ℕ
fault_line fault = codes "riptide: " ++ fault_text fault ++ codes "\n"
