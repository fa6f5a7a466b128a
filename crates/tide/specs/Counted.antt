-- What a keeper counts of the cycles that ended, as far as 64 bits go.
use Rattle.std.specs.Prelude.{ℕ, ◌≡◌, ◌+◌, List, [], ◌∷◌, ◌++◌, length, min}
use Rattle.tide.specs.declared.stats.Tally.{Tally}
use Rattle.tide_server.specs.tide_model.Layout.{Layout}
use Rattle.tide_server.specs.tide_model.declared.entry.Event.{Event}
use Rattle.tide_server.specs.tide_report.Ends.{CycleEnd, all_freed, ends_in}
use Rattle.tide_server.specs.tide_report.declared.report.CycleLine.{CycleLine}
use Rattle.tide_server.specs.tide_table.tide_statistics.Sums.{most}

-- a part more was counted
abbrev pub with_part : Tally → Tally
with_part tally = record tally { parts = min (tally.parts + 1) most }

-- a cycle more was counted
abbrev pub with_line : Tally → CycleLine → Tally
with_line tally line = record tally {
  freed = min (tally.freed + line.freed) most;
  kept = line.kept;
}

-- some cycles more were counted, one after another
abbrev pub with_lines : Tally → List CycleLine → Tally
with_lines tally [] = tally
with_lines tally (line ∷ lines) = with_lines (with_line tally line) lines

-- how many cells live after the last of some cycles, where so many do before the first
abbrev pub kept_after : ℕ → List CycleEnd → ℕ
kept_after kept [] = kept
kept_after kept (ended ∷ others) = kept_after ended.kept others

-- the numbers are those of so many parts and of these cycles: how many cells they freed, and how many the last one kept
pub record Counts (tally : Tally) (opened : ℕ) (ended : List CycleEnd) : Type 0 where
  pub parts : tally.parts ≡ min opened most
  pub freed : tally.freed ≡ min (length (all_freed ended)) most
  pub kept : tally.kept ≡ kept_after 0 ended

-- the numbers are those of the parts from one number to below another, and of the cycles that ended in a history since an
-- earlier one
pub record HasCounted (layout : Layout) (first seen : List Event) (from to : ℕ) (tally : Tally) : Type 0 where
  pub parts : ℕ
  pub went_on : to ≡ from + parts
  pub ended : List CycleEnd
  pub came : ends_in layout seen ≡ ends_in layout first ++ ended
  pub counts : Counts tally parts ended
