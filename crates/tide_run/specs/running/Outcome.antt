-- What the fields of an outcome mean, and how they agree.
use Rattle.std.specs.Prelude.{ℕ, ◌≡◌, ◌≤◌, true, List, [], Option, None, is_some, length, map, slice_get, Some, All}
use Rattle.tide_model.specs.declared.entry.Event.{Event}
use Rattle.tide_model.specs.Cycle.{live_count}
use Rattle.tide_model.specs.History.{state_after}
use Rattle.tide_model.specs.Layout.{Layout}
use Rattle.tide_model.specs.Script.{calls_of}
use Rattle.tide_periods.specs.declared.answered.Answered.{Answered}
use Rattle.tide_periods.specs.Answered.{pair_of}
use Rattle.tide_report.specs.Ends.{TellsEnds}
use Rattle.tide_report.specs.Reports.{Reported}
use Rattle.tide_periods.specs.Run.{HasRun}
use Rattle.tide_periods.specs.Store.{Setting}
use Rattle.tide_periods.specs.declared.run.Finished.{Finished}
use Rattle.tide_threads.specs.OnThreads.{setting_left}
use Rattle.tide_threads.specs.tide_statistics.Statistics.{Logged, statistics_in}
use Rattle.tide_workload.specs.Words.{HasText, IsOperation, Work, limits_of}
use Rattle.tide_run.specs.declared.running.outcome.Kept.{Kept}
use Rattle.tide_run.specs.declared.running.outcome.Kept.TheVariants.{Own, Heap}
use Rattle.tide_run.specs.running.Runs.{Ran, pace_of_work, setting_of_work}

-- the history that was kept
abbrev pub history_of : Kept → List Event
history_of (Own told) = told.events.items
history_of (Heap closed) = closed.seat.me.0.seen

-- the layout and the shapes of the heap that kept it, if one did
abbrev pub heap_of_kept : Kept → Option Setting
heap_of_kept (Own told) = None
heap_of_kept (Heap closed) = Some (setting_left closed)

-- the run that the fields of an outcome stand for
abbrev pub ran_of : Layout → List (List ℕ) → Kept → Ran
ran_of layout keys kept = record { layout = layout; keys = keys; history = history_of kept; heap = heap_of_kept kept }

-- the calls are those of the mutators, who alone made any; each of them has a text, so many cells live after the
-- history, and the report tells its ends. The log of a heap tells of its cycles what the history says. Without visitors
-- no race was met.
pub record IsOutcome (layout : Layout) (keys : List (List ℕ)) (kept : Kept) (calls : List (List Answered))
    (live : ℕ) (report : Reported) (log : Logged) (deferred : ℕ) : Type 0 where
  pub one_each : length calls ≡ layout.mutators
  pub calls_are : (who : ℕ) (own : List Answered) → slice_get calls who ≡ Some own →
      map pair_of own ≡ calls_of who (history_of kept)
  pub no_others : (who : ℕ) → layout.mutators ≤ who → calls_of who (history_of kept) ≡ []
  pub texts : (who : ℕ) (own : List Answered) → slice_get calls who ≡ Some own → All (λ call. HasText keys call.op) own
  pub living : live ≡ live_count layout (state_after layout (history_of kept))
  pub told : TellsEnds layout (history_of kept) report
  pub logged : is_some (heap_of_kept kept) ≡ true → log.ended ≡ statistics_in (history_of kept)
  pub none_met : layout.visitors ≡ 0 → deferred ≡ 0

-- a run of a workload's scripts, with this trigger and so many visitors and on a store that the workload asks for, left
-- this
pub record HasLeft (work : Work) (trigger visitors : ℕ) (ran : Finished Kept) : Type 0 where
  pub within : All (All (IsOperation (limits_of work))) work.scripts
  pub has_run : HasRun (setting_of_work work visitors) (pace_of_work work trigger) work.scripts (history_of ran.kept) ran.report
      (map (λ own. own.items) ran.calls.items) ran.live
