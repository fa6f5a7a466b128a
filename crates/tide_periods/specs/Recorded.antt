-- What a recorder knows of what was run on its store.
use Rattle.std.specs.Prelude.{ℕ, ◌≡◌, ◌+◌, ◌<◌, ◌≤◌, ◌++◌, List, [], ◌∷◌, length, map, true, Option, not}
use Rattle.std.specs.List.{list_all}
use Rattle.tide_model.specs.Since.{is_taken}
use Rattle.tide_model.specs.declared.op.Op.{Op}
use Rattle.tide_model.specs.declared.op.Op.TheVariants.{Retire}
use Rattle.tide_model.specs.declared.op.Reply.{Reply}
use Rattle.tide_model.specs.declared.entry.Entry.TheVariants.{Call, Begin, Pause, End, Sweep, Open}
use Rattle.tide_model.specs.declared.entry.Event.{Event}
use Rattle.tide_model.specs.Answer.{IsAnswer}
use Rattle.tide_model.specs.Cycle.{HasDead, IsSwept, begin_count}
use Rattle.tide_model.specs.History.{plain, state_after}
use Rattle.tide_model.specs.Lawful.{FitsLayout, IsLawful}
use Rattle.tide_model.specs.Periods.{EndsInTime, open_count}
use Rattle.tide_model.specs.Each.{Each}
use Rattle.tide_model.specs.Layout.{Layout}
use Rattle.tide_model.specs.State.{State, idle}
use Rattle.tide_report.specs.Ends.{TellsEnds}
use Rattle.tide_report.specs.Reports.{Reported}
use Rattle.tide_periods.specs.Store.{Setting, blocks_in}

-- a store, and the history of what was run on it
pub record Recorded : Type 0 where
  pub setting : Setting
  pub state : State
  pub history : List Event
  pub cycles : ℕ
  pub parts : ℕ
  pub blocks : ℕ

-- a store with this history, as the history alone tells it
abbrev pub recorded_at : Setting → List Event → Recorded
recorded_at setting history = record {
  setting = setting;
  state = state_after setting.layout history;
  history = history;
  cycles = begin_count history;
  parts = open_count history;
  blocks = blocks_in setting;
}

-- no block was taken to be swept: all sweeps were a freeze's
abbrev pub TookNone : List Event → Type 0
TookNone history = list_all (λ event. not (is_taken event.entry)) history ≡ true

-- The history is lawful, its cycles end in time, and it leaves the store as it is. A cycle may mark, and something may
-- be dead.
pub record IsSettled (recorded : Recorded) : Type 0 where
  pub lawful : IsLawful recorded.setting.layout recorded.setting.shapes recorded.history
  pub ends : Each (EndsInTime recorded.setting.layout) recorded.history
  pub leaves : state_after recorded.setting.layout recorded.history ≡ recorded.state
  pub begun : begin_count recorded.history ≡ recorded.cycles
  pub opens : open_count recorded.history ≡ recorded.parts
  pub few : (who : ℕ) → length (recorded.state.claims who) ≤ 8
  pub blocks : recorded.blocks ≡ blocks_in recorded.setting

-- What holds between two entries of a store that runs whole cycles alone, beside what is recorded: no cycle marks,
-- nothing is dead, since each freeze swept all, no block was taken in a part, and the report tells the ends of the
-- history.
pub record StandsIdle (layout : Layout) (state : State) (history : List Event) (report : Reported) : Type 0 where
  pub rests : state.phase ≡ idle
  pub clean : (block : ℕ) → HasDead layout state block → ⊥
  pub untaken : TookNone history
  pub told : TellsEnds layout history report

-- the mutator may make the call
pub record MayAsk (recorded : Recorded) (who : ℕ) (op : Op) : Type 0 where
  pub is_mutator : who < recorded.setting.layout.mutators
  pub is_active : recorded.state.active who ≡ true
  pub fits : FitsLayout recorded.setting.layout op
  pub released : op ≡ Retire → recorded.state.claims who ≡ []

-- as many cycles began, and as many parts were opened
pub record HasSameCounts (old new : Recorded) : Type 0 where
  pub cycles : new.cycles ≡ old.cycles
  pub parts : new.parts ≡ old.parts

-- a call was made
pub record MadeCall (old new : Recorded) (who : ℕ) (op : Op) (reply : Reply) : Type 0 where
  pub settled : IsSettled new
  pub same : new.setting ≡ old.setting
  pub counts : HasSameCounts old new
  pub took : Option ℕ
  pub answers : IsAnswer old.setting.layout old.setting.shapes old.state who op reply took
  pub history : new.history ≡ old.history ++ record { entry = Call who op reply; took = took } ∷ []

-- a part was opened
pub record OpenedPart (old new : Recorded) (run : ℕ) : Type 0 where
  pub settled : IsSettled new
  pub same : new.setting ≡ old.setting
  pub state : new.state ≡ old.state
  pub cycles : new.cycles ≡ old.cycles
  pub parts : new.parts ≡ old.parts + 1
  pub history : new.history ≡ old.history ++ plain (Open (open_count old.history + 1) run) ∷ []

-- a whole cycle was run
pub record RanCycle (old new : Recorded) : Type 0 where
  pub settled : IsSettled new
  pub same : new.setting ≡ old.setting
  pub cycles : new.cycles ≡ old.cycles + 1
  pub parts : new.parts ≡ old.parts
  pub visits : ℕ
  pub freed : List ℕ
  pub blocks : List ℕ
  pub history : new.history ≡ old.history
      ++ ((plain (Begin (begin_count old.history + 1) true) ∷ plain (Pause visits) ∷ plain (End (begin_count old.history + 1) freed) ∷ [])
      ++ map (λ block. plain (Sweep block)) blocks)
  pub active : new.state.active ≡ old.state.active
  pub claims : new.state.claims ≡ old.state.claims
  pub rests : new.state.phase ≡ idle
  pub clean : IsSwept new.setting.layout new.history
