-- The workload of a number.
use Rattle.std.specs.Prelude.{ℕ, zero, suc, List, [], ◌∷◌, ◌++◌}
use Rattle.tide_model.specs.declared.op.Op.{Op}
use Rattle.tide_text.specs.declared.work.settings.Settings.{Settings}
use Rattle.tide_text.specs.work.Work.{Work}
use Rattle.tide_make.specs.Rounds.{round_ops, seed_after}

-- the numbers of each generated workload: mutator m allocates in class m, whose 4,096 cells are more than it ever needs
abbrev pub settings : Settings
settings = record {
  registers = 10;
  strong = 256;
  weak = 0;
  blocks = 64 ∷ 64 ∷ 64 ∷ 64 ∷ 0 ∷ [];
  arrays = 0 ∷ 0 ∷ 0 ∷ 0 ∷ 0 ∷ [];
  period = 64;
  headroom = 4000;
  trigger = 1000;
}

-- the operations of a mutator's first rounds, one round after another; a round draws once before its operations
unfoldable pub rounds_of : ℕ → ℕ → ℕ → List Op
rounds_of number mutator zero = []
rounds_of number mutator (suc round) =
    rounds_of number mutator round ++ round_ops mutator round (seed_after number mutator (suc round))

-- the operations of a mutator: 4,000 rounds
unfoldable pub script_of : ℕ → ℕ → List Op
script_of number mutator = rounds_of number mutator 4000

-- the operations of the mutators below a number, each in turn
abbrev pub scripts_below : ℕ → ℕ → List (List Op)
scripts_below number zero = []
scripts_below number (suc mutator) = scripts_below number mutator ++ script_of number mutator ∷ []

-- the workload of a number: four mutators, and no property keys
abbrev pub made : ℕ → Work
made number = record { settings = settings; keys = []; paths = []; scripts = scripts_below number 4 }
