-- What the scripts of a run come to: their operations, and the most calls that their mutators make.
use Rattle.std.specs.Prelude.{ℕ, ◌+◌, ◌*◌, List, [], ◌∷◌, length, max}
use Rattle.std.specs.List.{sum_by}
use Rattle.tide_model.specs.declared.op.Op.{Op}

-- the most calls of a mutator with so many operations: two for each, eight unclaims and one retirement
abbrev pub most_calls_of : ℕ → ℕ
most_calls_of operations = 2 * operations + 9

-- the most calls of the mutator with this script
abbrev pub calls_for : List Op → ℕ
calls_for ops = most_calls_of (length ops)

-- the operations of all scripts
abbrev pub operations_in : List (List Op) → ℕ
operations_in scripts = sum_by length scripts

-- the most calls of all mutators together
abbrev pub calls_in : List (List Op) → ℕ
calls_in scripts = sum_by calls_for scripts

-- the most calls of one mutator
abbrev pub longest_in : List (List Op) → ℕ
longest_in [] = 0
longest_in (ops ∷ scripts) = max (calls_for ops) (longest_in scripts)

-- the most events beside sweeps: the calls, and six entries for each part, of which there are no more than one mutator
-- makes calls
abbrev pub events_in : List (List Op) → ℕ
events_in scripts = calls_in scripts + 6 * longest_in scripts
