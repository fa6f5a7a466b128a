-- What the words of a command line ask for, and what that comes to.
use Rattle.std.specs.Prelude.{ℕ, ◌≡◌, Bool, true, false, List, [], ◌++◌, Option, Some, None, is_some, if◌then◌else◌}
use Rattle.std.specs.List.{flat_map}
use Rattle.std.specs.Option.{option_map_or}
use Rattle.std.specs.Io.KnownBytes.{Appends, Keeps}
use Rattle.tide_io.specs.Faults.{AppendsPart}
use Rattle.tide_make.specs.Made.{made}
use Rattle.tide_model.specs.History.{state_after}
use Rattle.tide_model.specs.Refused.{ShapeLists}
use Rattle.tide_options.specs.declared.options.Options.{Options}
use Rattle.tide_periods.specs.Store.{Setting}
use Rattle.tide_retained.specs.declared.contents.Contents.{Contents}
use Rattle.tide_retained.specs.Contents.{HasKeysOf}
use Rattle.tide_retained.specs.Holding.{IsSnapshotOf}
use Rattle.tide_snapshot.specs.Line.{AreLines}
use Rattle.tide_threads.specs.tide_statistics.Statistics.{statistics_in}
use Rattle.tide_threads.specs.tide_statistics.declared.log.CycleStatistics.{CycleStatistics}
use Rattle.tide_workload.specs.Words.{Counts, Work, statistics_line, summary_of, summary_text, text_of}
use Rattle.tide_run.specs.Program.{ReadWork}
use Rattle.tide_run.specs.Runs.{IsRunOf, Ran, setting_of_work}

-- the options ask for the generated workload of a number
abbrev pub asks_for_made : Option Options → Bool
asks_for_made asked = option_map_or (λ options. is_some options.make) asked false

-- the options ask for the workload that is read
abbrev pub AsksToRead : Option Options → Type 0
AsksToRead None = ⊥
AsksToRead (Some options) = options.make ≡ None

-- the workload that is asked for: the generated one of a number, and then nothing is read, or the one that the bytes
-- read are
abbrev pub IsAskedFor : Option ℕ → Option (List ℕ) → Option (List ℕ) → Work → Type 0
IsAskedFor (Some number) old new work = (work ≡ made number) × Keeps old new
IsAskedFor None old new work = ReadWork old new work

-- the trigger of a run that options ask for: that of the workload, and 0 of a plain run
abbrev pub trigger_for : Options → Work → ℕ
trigger_for options work = if options.plain then 0 else work.settings.trigger

-- the visitors of a run that options ask for: as many as they say, and none of a plain run
abbrev pub visitors_for : Options → ℕ
visitors_for options = if options.plain then 0 else options.visitors

-- the layout and the shapes of the heap that options ask for: those of the workload, with as many visitors, and none of
-- a plain run
abbrev pub setting_for : Options → Work → Option Setting
setting_for options work = if options.plain then None else Some (setting_of_work work options.visitors)

-- The run is one of the workload that the options ask for, with as many visitors. Its history is that of a heap which
-- threads shared, of the workload's layout and shapes and with so many visitors, just where the options don't ask for
-- the plain store.
pub record RanAsked (asked : Option Options) (old new : Option (List ℕ)) (ran : Ran) : Type 0 where
  pub options : Options
  pub are_asked : asked ≡ Some options
  pub work : Work
  pub is_asked_for : IsAskedFor options.make old new work
  pub is_run : IsRunOf work (trigger_for options work) (visitors_for options) ran
  pub on_heap : ran.heap ≡ setting_for options work

-- what is printed of a run: its summary where the workload was generated, and else its text
abbrev pub printed_as : Bool → Ran → List ℕ
printed_as is_made ran =
    if is_made then summary_of ran.layout ran.history else text_of ran.keys ran.layout ran.history

-- what is printed of a run that options asked for, before the lines of a snapshot
abbrev pub printed_of : Option Options → Ran → List ℕ
printed_of asked ran = printed_as (asks_for_made asked) ran

-- the options ask for a snapshot
abbrev pub asks_for_snapshot : Option Options → Bool
asks_for_snapshot asked = option_map_or (λ options. options.snapshot) asked false

-- the lines of a run's last state where a snapshot is asked for, and else none
abbrev pub AreLinesOf : Bool → Ran → List ℕ → Type 0
AreLinesOf true ran lines = AreLines ran.layout ran.keys (state_after ran.layout ran.history) lines
AreLinesOf false ran lines = lines ≡ []

-- the options ask for a line of each cycle
abbrev pub asks_for_stats : Option Options → Bool
asks_for_stats asked = option_map_or (λ options. options.stats) asked false

-- the line of a cycle behind a text
abbrev pub told_line : CycleStatistics → List ℕ
told_line told =
    statistics_line told.number told.full told.freezes told.before told.marking told.paused told.visited

-- the line of each cycle of a run where these are wanted, and else none
abbrev pub statistics_of : Bool → Ran → List ℕ
statistics_of true ran = flat_map told_line (statistics_in ran.history)
statistics_of false ran = []

-- The text is what is printed of a run that options asked for: its summary or its text, then a line of each cycle that
-- ended, where these are asked for, and then the line of each cell that lives at its end, where a snapshot is asked for.
-- Of the paths of the fewest steps to a cell any will do.
pub record IsPrintedOf (asked : Option Options) (ran : Ran) (text : List ℕ) : Type 0 where
  pub lines : List ℕ
  pub are : AreLinesOf (asks_for_snapshot asked) ran lines
  pub is : text ≡ printed_of asked ran ++ (statistics_of (asks_for_stats asked) ran ++ lines)

-- all that the run prints was printed
abbrev pub Prints : Option Options → Option (List ℕ) → Option (List ℕ) → Ran → Type 0
Prints asked old new ran = (text : List ℕ) × IsPrintedOf asked ran text × Appends old new text

-- a first part of what the run prints was printed
abbrev pub PrintsPart : Option Options → Option (List ℕ) → Option (List ℕ) → Ran → Type 0
PrintsPart asked old new ran = (text : List ℕ) × IsPrintedOf asked ran text × AppendsPart old new text

-- what is shown of the last state of a run: a snapshot of it where one is asked for, whose properties have keys of
-- these shapes, and else nothing
abbrev pub IsShownOf : Bool → ShapeLists → Ran → Option Contents → Type 0
IsShownOf true shapes ran None = ⊥
IsShownOf true shapes ran (Some snapshot) =
    IsSnapshotOf ran.layout (state_after ran.layout ran.history) snapshot × HasKeysOf shapes snapshot
IsShownOf false shapes ran shown = shown ≡ None

-- what is printed of a run with these counts of it: the lines of them, and its text where there are none
abbrev pub printed_with : Option Counts → Ran → List ℕ
printed_with (Some counts) ran = summary_text counts
printed_with None ran = text_of ran.keys ran.layout ran.history
