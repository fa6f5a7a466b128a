-- What a set cell may hold.
use Rattle.std.specs.Prelude.{ℕ, ◌<◌, ◌≤◌, List}
use Rattle.std.specs.List.{slice_index_or}

-- a cell, whose tag is the highest number of its table, names a shape that isn't the empty one and isn't above that
abbrev pub IsChild : List ℕ → ℕ → Type 0
IsChild tag shape = (0 < shape) × (shape ≤ slice_index_or tag 0 0)
