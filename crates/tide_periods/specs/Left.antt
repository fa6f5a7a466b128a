-- How many calls a mutator may still make.
use Rattle.std.specs.Prelude.{ℕ, ◌+◌, ◌-◌, ◌*◌, Bool, List, [], ◌∷◌, length, nat_lt, if◌then◌else◌}
use Rattle.tide_model.specs.declared.op.Op.{Op}
use Rattle.tide_periods.specs.declared.cursor.ScriptCursor.{ScriptCursor}
use Rattle.tide_periods.specs.Asking.{Standing, standing_of}
use Rattle.tide_periods.specs.Recorded.{Recorded}

-- two for each operation that is left, one less where it is tried again; then one for each claim, and one to retire
abbrev pub left_by : Bool → Bool → Bool → ℕ → ℕ → ℕ
left_by retired within retry more claims =
    if retired then 0 else (if within then (2 * more - (if retry then 1 else 0)) + 9 else claims + 1)

-- what is left to a mutator, by how far it is in its operations and how many cells it claims
abbrev pub left_at : List Op → Standing → ℕ → ℕ
left_at ops standing claims =
    left_by standing.retired (nat_lt standing.done (length ops)) standing.retry (length ops - standing.done) claims

-- a cursor's, where the mutators claim these cells
abbrev pub left_of : (ℕ → List ℕ) → ScriptCursor → ℕ
left_of claims cursor = left_at cursor.ops.items (standing_of cursor) (length (claims cursor.who))

-- all cursors' together
abbrev pub total_by : (ℕ → List ℕ) → List ScriptCursor → ℕ
total_by claims [] = 0
total_by claims (cursor ∷ cursors) = left_of claims cursor + total_by claims cursors

-- all cursors' together, after what was recorded
abbrev pub total_left : Recorded → List ScriptCursor → ℕ
total_left recorded cursors = total_by recorded.state.claims cursors
