-- What is told of the cycles of a history beside its text, and that a log has just that.
use Rattle.std.specs.Prelude.{ℕ, ◌≡◌, ◌+◌, Bool, false, List, [], ◌∷◌, ◌++◌, count_by, sum_by, take}
use Rattle.tide_model.specs.declared.entry.Entry.{Entry}
use Rattle.tide_model.specs.declared.entry.Entry.TheVariants.{End, Pause, Visits}
use Rattle.tide_model.specs.declared.entry.Event.{Event}
use Rattle.tide_model.specs.Cycle.{begin_count}
use Rattle.tide_model.specs.History.{is_begin, is_open, moment_after_last}
use Rattle.tide_model.specs.Old.{is_full}
use Rattle.tide_model.specs.Since.{born_since, is_end, since}
use Rattle.tide_statistics.specs.declared.log.CycleStatistics.{CycleStatistics}

-- how many parts were opened since the last cycle began
abbrev pub parts_since_begin : List Event → ℕ
parts_since_begin history = count_by (λ event. is_open event.entry) (since is_begin history)

-- how many cells were born between the last end before it and the beginning of the cycle that began last
abbrev pub born_before : List Event → ℕ
born_before history =
    born_since is_end (take (moment_after_last (λ event. is_begin event.entry) history) history)

-- how many cells a pause made black, where the entry is one
abbrev pub paused_in : Entry → ℕ
paused_in (Pause visits) = visits
paused_in _ = 0

-- how many cells a visitor told to have made black, where the entry says so
abbrev pub visited_in : Entry → ℕ
visited_in (Visits who visits) = visits
visited_in _ = 0

-- how many cells the pauses of the cycle that began last made black
abbrev pub paused_since_begin : List Event → ℕ
paused_since_begin history = sum_by (λ event. paused_in event.entry) (since is_begin history)

-- how many cells the visitors told to have made black since the last cycle began, all together
abbrev pub visited_since_begin : List Event → ℕ
visited_since_begin history = sum_by (λ event. visited_in event.entry) (since is_begin history)

-- What is told of the cycle that an entry ends, if it ends one, from the history before it. A freeze stands behind each
-- part, so that the cycle went through the one in which it began and one for each part that was opened since.
abbrev pub statistics_at : List Event → Entry → List CycleStatistics
statistics_at before (End cycle freed) = record {
  number = cycle;
  full = is_full before;
  freezes = parts_since_begin before + 1;
  before = born_before before;
  marking = born_since is_begin before;
  paused = paused_since_begin before;
  visited = visited_since_begin before;
} ∷ []
statistics_at before _ = []

-- what is told of the cycles that end in some events, which stand behind a history
abbrev pub statistics_from : List Event → List Event → List CycleStatistics
statistics_from before [] = []
statistics_from before (event ∷ events) =
    statistics_at before event.entry ++ statistics_from (before ++ event ∷ []) events

-- what is told of the cycles that ended in a history, in order
abbrev pub statistics_in : List Event → List CycleStatistics
statistics_in history = statistics_from [] history

-- the cycles that ended, how many began, and of the one that began last its kind, the parts since then, the births
-- before it, and what pauses and visitors made black
pub record Logged : Type 0 where
  pub ended : List CycleStatistics
  pub begun : ℕ
  pub full : Bool
  pub parts : ℕ
  pub before : ℕ
  pub paused : ℕ
  pub visited : ℕ

-- a log of a run of which nothing has happened yet
abbrev pub nothing : Logged
nothing = record { ended = []; begun = 0; full = false; parts = 0; before = 0; paused = 0; visited = 0 }

-- what a log tells of the cycle that began last where that ends, once so many cells were born in it
abbrev pub told_by : Logged → ℕ → CycleStatistics
told_by log born = record {
  number = log.begun;
  full = log.full;
  freezes = log.parts + 1;
  before = log.before;
  marking = born;
  paused = log.paused;
  visited = log.visited;
}

-- the log has what the history says
pub record HasLogged (history : List Event) (log : Logged) : Type 0 where
  pub ended : log.ended ≡ statistics_in history
  pub begun : log.begun ≡ begin_count history
  pub full : log.full ≡ is_full history
  pub parts : log.parts ≡ parts_since_begin history
  pub before : log.before ≡ born_before history
  pub paused : log.paused ≡ paused_since_begin history
  pub visited : log.visited ≡ visited_since_begin history
