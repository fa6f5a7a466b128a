-- When mutators run and when cycles do, where a mutator may stop early: one that rests, or comes early to a freeze. Who
-- did in a part is told by a list with a place for each mutator.
use Rattle.std.specs.Prelude.{ℕ, ◌≡◌, ◌<◌, ◌⊎◌, ◌||◌, Bool, true, false, List, [], ◌∷◌, ◌++◌, length, Option, get_or}
use Rattle.std.specs.List.{AllPass}
use Rattle.tide_model.specs.declared.op.Op.{Op}
use Rattle.tide_model.specs.declared.op.Reply.{Reply}
use Rattle.tide_model.specs.declared.entry.Event.{Event}
use Rattle.tide_model.specs.Cycle.{IsSwept}
use Rattle.tide_model.specs.Each.{Each}
use Rattle.tide_model.specs.Freeze.{IsFreeze, marks_after, marks_of}
use Rattle.tide_model.specs.History.{state_after}
use Rattle.tide_model.specs.Lawful.{IsLawful}
use Rattle.tide_model.specs.Layout.{Layout}
use Rattle.tide_model.specs.Numbers.{any_below}
use Rattle.tide_model.specs.Pace.{Pace}
use Rattle.tide_model.specs.Periods.{EndsInTime, Period, after_part, after_period, is_forced, is_over, next_run, opened}
use Rattle.tide_model.specs.Prefix.{IsPrefix}
use Rattle.tide_model.specs.Refused.{ShapeLists}
use Rattle.tide_model.specs.Script.{calls_of, retry_of}
use Rattle.tide_model.specs.Share.{HasCallLeft, has_ended}
use Rattle.tide_model.specs.Since.{SweptWereTaken, TakenAreSwept, is_call, is_of_part}

-- a mutator's share ends before its calls are used up: it has retired, or the last one ended it
abbrev pub IsEnded : Option Op → Bool → List (Op × Reply) → Type 0
IsEnded retry is_active calls = (is_active ≡ false) ⊎ (has_ended retry calls ≡ true)

-- A mutator's calls in a part, which it may leave early. It makes `run` calls, and fewer only where it has retired,
-- where the last one ends its share, or where it is told to have stopped early. It is told so only where it did: it
-- made fewer, is active still, and the last one lets it go on.
pub record IsShareWhere (run : ℕ) (retry : Option Op) (is_active is_early : Bool) (calls : List (Op × Reply)) : Type 0 where
  pub each : Each (HasCallLeft run retry) calls
  pub fewer : length calls < run → IsEnded retry is_active calls ⊎ (is_early ≡ true)
  pub early : is_early ≡ true → (length calls < run) × (is_active ≡ true) × (has_ended retry calls ≡ false)

-- Where a list tells who stopped early in it, a period may stand right after a history. But for that it is as any.
pub record StandsPeriodWhere (pace : Pace) (layout : Layout) (early : List Bool) (before : List Event) (period : Period)
    : Type 0 where
  pub goes_on : is_over layout before ≡ false
  pub entries : AllPass (λ event. is_of_part event.entry) period.part
  pub calls : marks_after layout (opened pace layout before) ≡ true → AllPass (λ event. is_call event.entry) period.part
  pub taken : TakenAreSwept period.part
  pub swept_taken : SweptWereTaken period.part
  pub shares : (who : ℕ) → who < layout.mutators →
      IsShareWhere (next_run pace layout before) (retry_of who before)
      ((state_after layout (after_part pace layout before period)).active who) (get_or early who false)
      (calls_of who period.part)
  pub freeze : IsFreeze pace layout (after_part pace layout before period) (next_run pace layout before)
      (is_forced layout (opened pace layout before) period.part) (marks_of period.freeze)
  pub swept : is_forced layout (opened pace layout before) period.part ≡ true →
      IsSwept layout (after_period pace layout before period)

-- The history is periods, one after another, and a list for each tells who stopped early in it.
pub data ArePeriodsWhere (pace : Pace) (layout : Layout) : List (List Bool) → List Event → Type 0 where
  no_period : ArePeriodsWhere pace layout [] []
  one_more : (stops : List (List Bool)) (early : List Bool) (before : List Event) (period : Period) →
      ArePeriodsWhere pace layout stops before → StandsPeriodWhere pace layout early before period →
      ArePeriodsWhere pace layout (stops ++ early ∷ []) (after_period pace layout before period)

-- the history is whole periods of some pace, and ends with the opening of one part more
pub record OpensPart (layout : Layout) (told : List Event) : Type 0 where
  pub pace : Pace
  pub stops : List (List Bool)
  pub before : List Event
  pub periods : ArePeriodsWhere pace layout stops before
  pub is : told ≡ opened pace layout before

-- behind the one history, in the other, whole periods of some pace end, and one part more is opened
pub record OpensLater (layout : Layout) (old new : List Event) : Type 0 where
  pub pace : Pace
  pub stops : List (List Bool)
  pub before : List Event
  pub periods : ArePeriodsWhere pace layout stops before
  pub had : IsPrefix old before
  pub opens : IsPrefix (opened pace layout before) new

-- the history is lawful, and periods until no mutator is active, and its cycles end in time
pub record IsLegalWhere (pace : Pace) (layout : Layout) (shapes : ShapeLists) (stops : List (List Bool))
    (history : List Event) : Type 0 where
  pub lawful : IsLawful layout shapes history
  pub periods : ArePeriodsWhere pace layout stops history
  pub ends : Each (EndsInTime layout) history
  pub over : is_over layout history ≡ true

-- some mutator stopped early in a part of which a list tells who did
abbrev pub has_stop : Layout → List Bool → Bool
has_stop layout early = any_below (λ who. get_or early who false) layout.mutators

-- some mutator did in one of these parts
abbrev pub have_stops : Layout → List (List Bool) → Bool
have_stops layout [] = false
have_stops layout (early ∷ stops) = has_stop layout early || have_stops layout stops
