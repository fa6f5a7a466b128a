-- What a running part did.
use Rattle.std.specs.Prelude.{ℕ, ◌≡◌, ◌<◌, ◌≤◌, ◌++◌, Bool, true, false, List, slice_get, Some, length}
use Rattle.std.specs.List.{AllPass, list_all}
use Rattle.tide_model.specs.declared.entry.Event.{Event}
use Rattle.tide_model.specs.Freeze.{marks_after}
use Rattle.tide_model.specs.History.{is_call_of, state_after}
use Rattle.tide_model.specs.Layout.{Layout}
use Rattle.tide_model.specs.Numbers.{any_below}
use Rattle.tide_model.specs.Script.{calls_of, retry_of}
use Rattle.tide_model.specs.Share.{IsShare, has_ended}
use Rattle.tide_model.specs.Since.{SweptWereTaken, TakenAreSwept, is_call, is_of_part}
use Rattle.tide_periods.specs.declared.cursor.ScriptCursor.{ScriptCursor}
use Rattle.tide_periods.specs.Asking.{IsCursor, scripts_of}
use Rattle.tide_periods.specs.Left.{total_left}
use Rattle.tide_periods.specs.Recorded.{HasSameCounts, IsSettled, OpenedPart, Recorded}

-- a mutator made its calls of a part
pub record RanShare (old new : Recorded) (run who : ℕ) (ended : Bool) : Type 0 where
  pub settled : IsSettled new
  pub same : new.setting ≡ old.setting
  pub counts : HasSameCounts old new
  pub events : List Event
  pub history : new.history ≡ old.history ++ events
  pub own : AllPass (λ event. is_call_of who event.entry) events
  pub share : IsShare run (retry_of who old.history)
      ((state_after new.setting.layout new.history).active who) (calls_of who events)
  pub stops : ended ≡ has_ended (retry_of who old.history) (calls_of who events)

-- the cursors are those of the mutators in order
pub record AreCursors (recorded : Recorded) (cursors : List ScriptCursor) : Type 0 where
  pub one_each : length cursors ≡ recorded.setting.layout.mutators
  pub each : (who : ℕ) (cursor : ScriptCursor) → slice_get cursors who ≡ Some cursor →
      (cursor.who ≡ who) × IsCursor recorded cursor

-- What a running part may have after a history: calls, and where no cycle marks also blocks that are taken and swept.
-- Each that is taken is swept in it, behind its taking, and no other is.
pub record IsPartOf (layout : Layout) (before part : List Event) : Type 0 where
  pub entries : AllPass (λ event. is_of_part event.entry) part
  pub calls : marks_after layout before ≡ true → AllPass (λ event. is_call event.entry) part
  pub taken : TakenAreSwept part
  pub swept : SweptWereTaken part

-- each mutator made its share of the calls of a part
pub record RanPart (old new : Recorded) (run : ℕ) (ended : Bool) : Type 0 where
  pub settled : IsSettled new
  pub same : new.setting ≡ old.setting
  pub counts : HasSameCounts old new
  pub part : List Event
  pub history : new.history ≡ old.history ++ part
  pub is_part : IsPartOf old.setting.layout old.history part
  pub shares : (who : ℕ) → who < old.setting.layout.mutators →
      IsShare run (retry_of who old.history)
      ((state_after new.setting.layout new.history).active who) (calls_of who part)
  pub stops : ended ≡
      any_below (λ who. has_ended (retry_of who old.history) (calls_of who part)) old.setting.layout.mutators

-- a part was opened, and each mutator made its share of its calls
pub record RanOpenedPart (old new : Recorded) (run : ℕ) (ended : Bool) : Type 0 where
  pub begun : Recorded
  pub opened : OpenedPart old begun run
  pub ran : RanPart begun new run ended

-- A part was opened and run by these cursors. They have what the history has of their mutators' calls, and together
-- they have no more calls left, and fewer where one of them made any.
pub record RanPartBy (old new : Recorded) (run : ℕ) (before after : List ScriptCursor) (ended : Bool) : Type 0 where
  pub ran : RanOpenedPart old new run ended
  pub cursors : AreCursors new after
  pub scripts : scripts_of after ≡ scripts_of before
  pub left : total_left new after ≤ total_left old before
  pub fewer : 0 < run → list_all (λ cursor. cursor.retired) before ≡ false →
      total_left new after < total_left old before
