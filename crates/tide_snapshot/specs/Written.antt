-- What is written of what is retained.
use Rattle.std.specs.Prelude.{ℕ, ◌<◌, List, [], ◌∷◌, ◌++◌, All, Option, None, Some, codes, length}
use Rattle.std.specs.List.{flat_map}
use Rattle.tide_retained.specs.declared.contents.Contents.{Contents}
use Rattle.tide_retained.specs.declared.contents.Held.{Held}
use Rattle.tide_retained.specs.Contents.{held_at, properties_in}
use Rattle.tide_retained.specs.Index.{up_to}
use Rattle.tide_retained.specs.Retention.{path_of, Path, Retention}
use Rattle.tide_snapshot.specs.Line.{cell_line, path_text}

-- a cell and what it holds
abbrev pub held_line : List (List ℕ) → ℕ → Held → List ℕ
held_line names cell held = cell_line names cell held.class held.slots.items held.pairs.items held.properties.items held.group

-- the end of a line: the path to a cell, if there is one
abbrev pub way_text : Option Path → List ℕ
way_text None = codes " path none" ++ codes "\n"
way_text (Some path) = path_text path.root (path.first ∷ path.others) ++ codes "\n"

-- the line of a cell that is kept, and nothing of any other
abbrev pub line_from : List (List ℕ) → Retention → ℕ → Option Held → List ℕ
line_from names kept cell None = []
line_from names kept cell (Some held) = held_line names cell held ++ way_text (path_of kept cell)

abbrev pub line_at : List (List ℕ) → Retention → ℕ → List ℕ
line_at names kept cell = line_from names kept cell (held_at kept.contents cell)

-- the lines of the cells that are kept
abbrev pub lines_text : List (List ℕ) → Retention → List ℕ
lines_text names kept = flat_map (line_at names kept) (up_to (length kept.contents.cells.items))

-- the key of each property is one of so many
abbrev pub HasNamedKeys : ℕ → Contents → Type 0
HasNamedKeys n contents = (cell : ℕ) → All (λ property. property.key < n) (properties_in (held_at contents cell))
