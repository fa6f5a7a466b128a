-- What a run leaves.
use Rattle.std.specs.Prelude.{ℕ, ◌≡◌, List, length, map, slice_get, Some, All}
use Rattle.tide_model.specs.declared.entry.Event.{Event}
use Rattle.tide_model.specs.declared.op.Op.{Op}
use Rattle.tide_model.specs.Cycle.{live_count}
use Rattle.tide_model.specs.History.{state_after}
use Rattle.tide_model.specs.Pace.{Pace}
use Rattle.tide_model.specs.Periods.{IsLegal}
use Rattle.tide_model.specs.Script.{calls_of}
use Rattle.tide_model.specs.Whole.{IsWhole}
use Rattle.tide_periods.specs.declared.answered.Answered.{Answered}
use Rattle.tide_report.specs.Ends.{TellsEnds}
use Rattle.tide_report.specs.Reports.{Reported}
use Rattle.tide_periods.specs.Asking.{IsAskedBy}
use Rattle.tide_periods.specs.Store.{Setting}
use Rattle.tide_periods.specs.Answered.{pair_of}

-- The history is a legal one in which each mutator asked for its script, whole and in order. The report tells its ends,
-- the calls are those of the mutators, one list for each, and so many cells live at the end.
pub record HasRun (setting : Setting) (pace : Pace) (scripts : List (List Op)) (history : List Event)
    (report : Reported) (calls : List (List Answered)) (live : ℕ) : Type 0 where
  pub legal : IsLegal pace setting.layout setting.shapes history
  pub told : TellsEnds setting.layout history report
  pub whole : (who : ℕ) (ops : List Op) → slice_get scripts who ≡ Some ops →
      IsWhole setting.layout history who ops
  pub one_each : length calls ≡ setting.layout.mutators
  pub calls_are : (who : ℕ) (own : List Answered) → slice_get calls who ≡ Some own →
      map pair_of own ≡ calls_of who history
  pub asked : (who : ℕ) (ops : List Op) → slice_get scripts who ≡ Some ops →
      All (λ call. IsAskedBy ops call.0) (calls_of who history)
  pub living : live ≡ live_count setting.layout (state_after setting.layout history)
