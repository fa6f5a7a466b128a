-- What is printed of an operation reads back as that operation.
use Rattle.std.specs.Prelude.{◌≡◌, ℕ, List, Some}
use Rattle.tide_model.specs.declared.op.Op.{Op}
use Rattle.tide_text.specs.declared.work.settings.Settings.{Settings}
use Rattle.tide_text.specs.work.OpArguments.{OpArguments, limits_with}
use Rattle.tide_text.specs.work.ReadOp.{op_of}
use Rattle.tide_text.specs.work.Work.{AreKeys, AreSettings, IsOperation}
use Rattle.tide_text.specs.lines.OpText.{op_text}

-- the text of the operation reads as that operation
abbrev pub IsReadBack : OpArguments → Op → Type 0
IsReadBack limits op = op_of limits (op_text limits.keys op) ≡ Some op

-- under any settings and keys of a workload, the text of each operation that it may have reads as that operation
abbrev pub AreReadBack : Type 0
AreReadBack = (settings : Settings) (keys : List (List ℕ)) (op : Op) → AreSettings settings → AreKeys keys
    → IsOperation (limits_with settings keys) op → IsReadBack (limits_with settings keys) op
