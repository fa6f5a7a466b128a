-- When a mutator asked for all that it was to ask for.
use Rattle.std.specs.Prelude.{ℕ, ◌≡◌, ◌≤◌, List, [], ◌∷◌, ◌++◌, length, replicate, take}
use Rattle.tide_model.specs.declared.op.Op.{Op}
use Rattle.tide_model.specs.declared.op.Op.TheVariants.{Unclaim, Retire}
use Rattle.tide_model.specs.declared.entry.Event.{Event}
use Rattle.tide_model.specs.History.{state_at}
use Rattle.tide_model.specs.Layout.{Layout}
use Rattle.tide_model.specs.Script.{script_of}

-- how many cells a mutator claims at a moment
abbrev pub claims_at : Layout → List Event → ℕ → ℕ → ℕ
claims_at layout history moment mutator = length ((state_at layout history moment).claims mutator)

-- The mutator asked for its operations in their order, each once, then for one unclaim for each claim that it held when
-- they were done, and then to retire.
pub record IsWhole (layout : Layout) (history : List Event) (mutator : ℕ) (ops : List Op) : Type 0 where
  -- when the operations were done
  pub moment : ℕ
  pub within : moment ≤ length history
  pub done : script_of mutator (take moment history) ≡ ops
  pub script : script_of mutator history ≡ ops ++ (replicate (claims_at layout history moment mutator) Unclaim ++ Retire ∷ [])
