-- That a full cycle ran between two moments of a history.
use Rattle.std.specs.Prelude.{ℕ, ◌≡◌, ◌<◌, Bool, true, List, [], ◌∷◌, ◌++◌, Option}
use Rattle.tide_model.specs.Layout.{Layout}
use Rattle.tide_model.specs.Pace.{Pace}
use Rattle.tide_model.specs.Prefix.{IsPrefix}
use Rattle.tide_model.specs.Script.{retry_of}
use Rattle.tide_model.specs.Share.{ends_share}
use Rattle.tide_model.specs.declared.entry.Entry.TheVariants.{Begin, Call, End}
use Rattle.tide_model.specs.declared.entry.Event.{Event}
use Rattle.tide_model.specs.declared.op.Op.{Op}
use Rattle.tide_model.specs.declared.op.Reply.{Reply}
use Rattle.tide_posts.specs.Schedule.{ArePeriodsWhere}

-- A full cycle began behind the one history, and ended, in the other.
pub record RanFullCycle (old new : List Event) : Type 0 where
  pub cycle : ℕ
  pub freed : List ℕ
  pub begin : Event
  pub end : Event
  pub begins : begin.entry ≡ Begin cycle true
  pub ends : end.entry ≡ End cycle freed
  pub before : List Event
  pub within : List Event
  pub behind : IsPrefix old before
  pub goes_on : IsPrefix (before ++ begin ∷ []) within
  pub over : IsPrefix (within ++ end ∷ []) new

-- Behind each call that asked for a cycle, or was refused for room a first time, a full cycle ran in each history of
-- whole periods that goes on with it: so it ran before the next part was opened.
abbrev pub FullCyclesRun : Type 0
FullCyclesRun = (pace : Pace) (layout : Layout) (stops : List (List Bool)) (history before : List Event) (who : ℕ) (op : Op)
    (reply : Reply) (took : Option ℕ) → ArePeriodsWhere pace layout stops history → who < layout.mutators →
    ends_share (retry_of who before) (op, reply) ≡ true →
    IsPrefix (before ++ record { entry = Call who op reply; took = took } ∷ []) history →
    RanFullCycle (before ++ record { entry = Call who op reply; took = took } ∷ []) history
