-- What a report is, and how it grows.
use Rattle.std.specs.Prelude.{ℕ, ◌+◌, ◌<◌, ◌≤◌, List, [], ◌∷◌, ◌++◌, length}
use Rattle.tide_report.specs.declared.report.CycleLine.{CycleLine}

-- the lines of the cycles, the ids of which each line tells a range, and for how many lines and ids there is room
pub record Reported : Type 0 where
  pub cycles : List CycleLine
  pub ids : List ℕ
  pub cycle_cap : ℕ
  pub id_cap : ℕ

-- the range of a line lies within the ids
abbrev pub LiesWithin : List ℕ → CycleLine → Type 0
LiesWithin ids line = line.first + line.freed ≤ length ids

-- the report has room for one more cycle that frees so many cells
pub record HasRoomForCells (report : Reported) (cells : ℕ) : Type 0 where
  pub cycle : length report.cycles < report.cycle_cap
  pub ids : length report.ids + cells ≤ report.id_cap

-- the report with these ids behind the others, which no line tells yet
abbrev pub with_ids : Reported → List ℕ → Reported
with_ids report freed = record report { ids = report.ids ++ freed }

-- the report with one more line: that of a cycle with this number, which kept so many cells and freed these
abbrev pub with_line : Reported → ℕ → ℕ → List ℕ → Reported
with_line report number kept freed = record report {
  cycles = report.cycles ++ record { number = number; kept = kept; first = length report.ids; freed = length freed } ∷ [];
  ids = report.ids ++ freed;
}
