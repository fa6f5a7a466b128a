-- What the operations of a workload may name.
use Rattle.std.specs.Prelude.{ℕ, List}
use Rattle.tide_text.specs.declared.work.settings.Settings.{Settings}

-- how many registers, strong handles and weak handles there are, and the names of the property keys by number
pub record OpArguments : Type 0 where
  pub registers : ℕ
  pub strong : ℕ
  pub weak : ℕ
  pub keys : List (List ℕ)

-- the limits under some settings and keys
abbrev pub limits_with : Settings → List (List ℕ) → OpArguments
limits_with settings keys = record { registers = settings.registers; strong = settings.strong; weak = settings.weak; keys = keys }
