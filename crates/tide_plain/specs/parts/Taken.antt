-- What is known of the numbers that are taken.
use Rattle.std.specs.Prelude.{ℕ, ◌≡◌, ◌*◌, ◌≤◌, ◌<◌, Bool, true, false, List}
use Rattle.std.specs.List.{slice_index_or}

-- of each block the numbers before its entry are taken
abbrev pub AreRuns : List Bool → List ℕ → Type 0
AreRuns flags runs = (block number : ℕ) → 64 * block ≤ number → number < slice_index_or runs block 0 → slice_index_or flags number false ≡ true
