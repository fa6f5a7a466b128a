-- What a realm may still take, and what it has once it took something.
use Rattle.std.specs.Prelude.{ℕ, ◌≡◌, ◌≢◌, ◌<◌, false, List, [], ◌∷◌, ◌++◌, length, Contains, if◌then◌else◌}
use Rattle.tide_model.specs.Numbers.{is_among}
use Rattle.tide_weakref.specs.Jobs.{Jobs}
use Rattle.tide_weakref.specs.declared.refused.WeakRefused.{WeakRefused}
use Rattle.tide_weakref.specs.declared.refused.WeakRefused.TheVariants.{NotCell, RefsFull, KeptFull}
use Rattle.tide_weakref.specs.declared.weak.Role.TheVariants.{Reference, Registration}
use Rattle.tide_weakref.specs.declared.weak.Weak.{Weak}

-- a reference with this number and target
abbrev pub reference : ℕ → ℕ → Weak
reference number target = record { at = number; target = target; role = Reference }

-- a registration with this weak handle, target, held value and token
abbrev pub registration : ℕ → ℕ → ℕ → ℕ → Weak
registration at target held token = record { at = at; target = target; role = Registration held token }

-- each weak handle is in use
abbrev pub AreAllUsed : Jobs → Type 0
AreAllUsed jobs = length jobs.uses ≡ jobs.weak.count

-- none of the weak handles in use is this
abbrev pub IsUnused : Jobs → ℕ → Type 0
IsUnused jobs at = (one : Weak) → Contains jobs.uses one → one.at ≢ at

-- a refusal for want of a weak handle comes only where each is in use
abbrev pub IsFullWhere : Jobs → WeakRefused → Type 0
IsFullWhere jobs RefsFull = AreAllUsed jobs
IsFullWhere jobs KeptFull = Unit {0}
IsFullWhere jobs (NotCell register) = Unit {0}

-- each strong handle keeps a cell, and none keeps this one
abbrev pub IsFullFor : Jobs → ℕ → Type 0
IsFullFor jobs cell = (length jobs.cells ≡ jobs.strong.count) × (is_among jobs.cells cell ≡ false)

-- the cells with one more, where it isn't among them
abbrev pub with_cell : List ℕ → ℕ → List ℕ
with_cell cells cell = if is_among cells cell then cells else cells ++ cell ∷ []

-- what a realm has once it keeps this cell too
abbrev pub keeping : Jobs → ℕ → Jobs
keeping jobs cell = record jobs { cells = with_cell jobs.cells cell }

-- what a realm has once it uses one more weak handle
abbrev pub using : Jobs → Weak → Jobs
using jobs one = record jobs { uses = jobs.uses ++ one ∷ [] }

-- a weak handle that was unused is used for some target, behind those that were in use
abbrev pub UsesOneMore : Jobs → Jobs → ℕ → (ℕ → Weak) → Type 0
UsesOneMore jobs now at one =
    (at < jobs.weak.count) × IsUnused jobs at × ((target : ℕ) × (now.uses ≡ jobs.uses ++ one target ∷ []))

-- this is the number of a reference that was made and not given up
abbrev pub IsReference : Jobs → ℕ → Type 0
IsReference jobs number = (target : ℕ) × Contains jobs.uses (reference number target)

-- what a realm has goes on: its register and handles are the same, and each reference is one still
pub record GoesOn (jobs now : Jobs) : Type 0 where
  pub scratch : now.scratch ≡ jobs.scratch
  pub strong : now.strong ≡ jobs.strong
  pub weak : now.weak ≡ jobs.weak
  pub references : (number : ℕ) → IsReference jobs number → IsReference now number
