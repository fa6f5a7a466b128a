-- When mutators run and when cycles do.
use Rattle.std.specs.Prelude.{ℕ, ◌≡◌, ◌+◌, ◌<◌, ◌≤◌, Bool, true, false, not, ◌||◌, List, [], ◌∷◌, ◌++◌, count_by, if◌then◌else◌}
use Rattle.std.specs.List.{AllPass}
use Rattle.tide_model.specs.declared.entry.Entry.TheVariants.{End, Open}
use Rattle.tide_model.specs.declared.entry.Event.{Event}
use Rattle.tide_model.specs.Cycle.{IsSwept, live_count}
use Rattle.tide_model.specs.Each.{Each}
use Rattle.tide_model.specs.Freeze.{IsFreeze, marks_after, marks_of}
use Rattle.tide_model.specs.History.{plain, is_begin, is_open, state_after}
use Rattle.tide_model.specs.Lawful.{IsLawful}
use Rattle.tide_model.specs.Layout.{Layout}
use Rattle.tide_model.specs.Numbers.{any_below}
use Rattle.tide_model.specs.Old.{spared_count}
use Rattle.tide_model.specs.Pace.{Pace, call_quota}
use Rattle.tide_model.specs.Refused.{ShapeLists}
use Rattle.tide_model.specs.Script.{calls_of, retry_of}
use Rattle.tide_model.specs.Share.{IsShare, has_ended}
use Rattle.tide_model.specs.Since.{SweptWereTaken, TakenAreSwept, born_since, visits_since, is_call, is_of_part}

-- no mutator is active any more
abbrev pub is_over : Layout → List Event → Bool
is_over layout history = not (any_below (λ who. (state_after layout history).active who) layout.mutators)

-- The freeze after a part is forced: some mutator's last call in the part ended its share, or no mutator is active.
-- `before` is the history before the part's first call, so with its Open or without: an Open is no call.
abbrev pub is_forced : Layout → List Event → List Event → Bool
is_forced layout before part =
    any_below (λ who. has_ended (retry_of who before) (calls_of who part)) layout.mutators || is_over layout (before ++ part)

-- how many calls each mutator has in the part that opens after a history
abbrev pub next_run : Pace → Layout → List Event → ℕ
next_run pace layout history = if marks_after layout history then call_quota pace (born_since is_begin history) else pace.calls

-- how many parts were opened
abbrev pub open_count : List Event → ℕ
open_count history = count_by (λ event. is_open event.entry) history

-- a running part, and the freeze after it
pub record Period : Type 0 where
  pub part : List Event
  pub freeze : List Event

-- a history with one more part opened
abbrev pub opened : Pace → Layout → List Event → List Event
opened pace layout before = before ++ plain (Open (open_count before + 1) (next_run pace layout before)) ∷ []

-- a history with a part opened, and its entries
abbrev pub after_part : Pace → Layout → List Event → Period → List Event
after_part pace layout before period = opened pace layout before ++ period.part

-- a history with one more period
abbrev pub after_period : Pace → Layout → List Event → Period → List Event
after_period pace layout before period = after_part pace layout before period ++ period.freeze

-- A period may stand right after a history. Its part has calls, and where no cycle marks also blocks that are taken and
-- swept: each that is taken is swept there, and none is swept that wasn't taken there before. After a forced freeze
-- nothing is dead. (Nor is anything when a cycle begins: `StandsBegin` says that.)
pub record StandsPeriod (pace : Pace) (layout : Layout) (before : List Event) (period : Period) : Type 0 where
  pub goes_on : is_over layout before ≡ false
  pub entries : AllPass (λ event. is_of_part event.entry) period.part
  pub calls : marks_after layout (opened pace layout before) ≡ true → AllPass (λ event. is_call event.entry) period.part
  pub taken : TakenAreSwept period.part
  pub swept_taken : SweptWereTaken period.part
  pub shares : (who : ℕ) → who < layout.mutators →
      IsShare (next_run pace layout before) (retry_of who before)
      ((state_after layout (after_part pace layout before period)).active who) (calls_of who period.part)
  pub freeze : IsFreeze pace layout (after_part pace layout before period) (next_run pace layout before)
      (is_forced layout (opened pace layout before) period.part) (marks_of period.freeze)
  pub swept : is_forced layout (opened pace layout before) period.part ≡ true →
      IsSwept layout (after_period pace layout before period)

-- the history is periods, one after another
pub data ArePeriods (pace : Pace) (layout : Layout) : List Event → Type 0 where
  no_period : ArePeriods pace layout []
  one_more : (before : List Event) (period : Period) → ArePeriods pace layout before → StandsPeriod pace layout before period →
      ArePeriods pace layout (after_period pace layout before period)

-- Where the event ends a cycle, the cells that it keeps are no more than those that its pauses and visitors said to
-- have made black, those born in it, and those that it spares.
pub record EndsInTime (layout : Layout) (before : List Event) (event : Event) : Type 0 where
  pub kept : (cycle : ℕ) (freed : List ℕ) → event.entry ≡ End cycle freed →
      live_count layout (state_after layout (before ++ event ∷ []))
      ≤ visits_since is_begin before + born_since is_begin before + spared_count layout before

-- the history is periods until no mutator is active, and its cycles end in time
pub record IsScheduled (pace : Pace) (layout : Layout) (history : List Event) : Type 0 where
  pub periods : ArePeriods pace layout history
  pub ends : Each (EndsInTime layout) history
  pub over : is_over layout history ≡ true

-- the history is lawful and scheduled
pub record IsLegal (pace : Pace) (layout : Layout) (shapes : ShapeLists) (history : List Event) : Type 0 where
  pub lawful : IsLawful layout shapes history
  pub scheduled : IsScheduled pace layout history
