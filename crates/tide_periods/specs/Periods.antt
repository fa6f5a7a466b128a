-- What a freeze, a period and a run did.
use Rattle.std.specs.Prelude.{ℕ, ◌≡◌, ◌+◌, ◌<◌, ◌≤◌, ◌++◌, Bool, true, List, [], slice_get, Some}
use Rattle.tide_model.specs.declared.entry.Event.{Event}
use Rattle.tide_model.specs.Cycle.{IsSwept}
use Rattle.tide_model.specs.Freeze.{IsFreeze, marks_of}
use Rattle.tide_model.specs.Pace.{Pace}
use Rattle.tide_model.specs.Periods.{IsScheduled, Period, StandsPeriod, after_period, next_run}
use Rattle.tide_model.specs.Script.{calls_of}
use Rattle.tide_model.specs.Whole.{IsWhole}
use Rattle.tide_sched.specs.Paces.{last_run}
use Rattle.tide_periods.specs.declared.cursor.ScriptCursor.{ScriptCursor}
use Rattle.tide_periods.specs.Part.{AreCursors}
use Rattle.tide_periods.specs.Recorded.{IsSettled, Recorded}

-- A freeze did what the schedule asks for after the running part that ended, and after a forced one nothing is dead.
-- Each mutator has so many calls in the next part, and at least one.
pub record RanFreeze (old new : Recorded) (pace : Pace) (is_forced : Bool) (run : ℕ) : Type 0 where
  pub settled : IsSettled new
  pub same : new.setting ≡ old.setting
  pub cycles : new.cycles ≤ old.cycles + 1
  pub parts : new.parts ≡ old.parts
  pub freeze : List Event
  pub history : new.history ≡ old.history ++ freeze
  pub quiet : (who : ℕ) → calls_of who freeze ≡ []
  pub active : new.state.active ≡ old.state.active
  pub claims : new.state.claims ≡ old.state.claims
  pub is_freeze : IsFreeze pace old.setting.layout old.history (last_run old.history) is_forced (marks_of freeze)
  pub clean : is_forced ≡ true → IsSwept new.setting.layout new.history
  pub next : run ≡ next_run pace new.setting.layout new.history
  pub some : 0 < run

-- a part was opened and run, and frozen after; each mutator has so many calls in the next part, and at least one
pub record RanPeriod (old new : Recorded) (pace : Pace) (run : ℕ) : Type 0 where
  pub settled : IsSettled new
  pub same : new.setting ≡ old.setting
  pub cycles : new.cycles ≤ old.cycles + 1
  pub parts : new.parts ≡ old.parts + 1
  pub period : Period
  pub history : new.history ≡ after_period pace old.setting.layout old.history period
  pub stands : StandsPeriod pace old.setting.layout old.history period
  pub next : run ≡ next_run pace new.setting.layout new.history
  pub some : 0 < run

-- all was run
pub record RanAll (recorded : Recorded) (pace : Pace) (cursors : List ScriptCursor) : Type 0 where
  pub settled : IsSettled recorded
  pub cursors' : AreCursors recorded cursors
  pub scheduled : IsScheduled pace recorded.setting.layout recorded.history
  pub scripts : (who : ℕ) (cursor : ScriptCursor) → slice_get cursors who ≡ Some cursor →
      IsWhole recorded.setting.layout recorded.history who cursor.ops.items
