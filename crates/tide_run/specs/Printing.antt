-- The lines of what was told.
use Rattle.std.specs.Prelude.{ℕ, ◌≡◌, List, [], ◌++◌, Option, None, Some, drop, take}
use Rattle.tide_periods.specs.declared.answered.Answered.{Answered}
use Rattle.tide_report.specs.declared.report.CycleLine.{CycleLine}
use Rattle.tide_retained.specs.declared.contents.Contents.{Contents}
use Rattle.tide_snapshot.specs.Line.{AreLinesIn}
use Rattle.tide_workload.specs.Words.{call_line, cycle_line}
use Rattle.tide_run.specs.declared.asking.Printable.{Printable}
use Rattle.tide_run.specs.Asked.{printed_with, statistics_of}

-- the line of a call, under the names of the property keys
abbrev pub answered_line : List (List ℕ) → Answered → List ℕ
answered_line keys answered = call_line keys answered.op answered.reply

-- the line of a cycle that a report tells over these ids
abbrev pub reported_line : List ℕ → CycleLine → List ℕ
reported_line ids line = cycle_line line.number line.kept (take line.freed (drop line.first ids))

-- the lines of a snapshot, where there is one
abbrev pub AreShownLines : List (List ℕ) → Option Contents → List ℕ → Type 0
AreShownLines names (Some snapshot) lines = AreLinesIn snapshot names lines
AreShownLines names None lines = lines ≡ []

-- the text is what is printed of a run: its summary where there are counts of it, and else its text, and behind it a
-- line of each cycle, where these are wanted, and the lines of a snapshot
pub record IsPrintedWith (done : Printable) (text : List ℕ) : Type 0 where
  pub lines : List ℕ
  pub are : AreShownLines done.load.keys done.snapshot lines
  pub is : text ≡ printed_with done.counts done.outcome ++ (statistics_of done.stats done.outcome ++ lines)
