-- What the loops of a part keep.
use Rattle.std.specs.Prelude.{ℕ, ◌≡◌, ◌+◌, ◌<◌, ◌≤◌, ◌++◌, Bool, List, [], length}
use Rattle.std.specs.List.{AllPass}
use Rattle.tide_model.specs.declared.entry.Event.{Event}
use Rattle.tide_model.specs.History.{is_call_of, state_after}
use Rattle.tide_model.specs.Numbers.{any_below}
use Rattle.tide_model.specs.Script.{calls_of, retry_of}
use Rattle.tide_model.specs.Share.{IsShare, HasCallLeft, has_ended}
use Rattle.tide_model.specs.Each.{Each}
use Rattle.tide_model.specs.Since.{is_call}
use Rattle.tide_model.specs.Prefix.{IsPrefix}
use Rattle.tide_periods.specs.declared.cursor.ScriptCursor.{ScriptCursor}
use Rattle.tide_periods.specs.Own.{IsCursorWithin, left_within}
use Rattle.tide_periods.specs.Part.{IsPartOf}
use Rattle.tide_periods.specs.Store.{Setting}
use Rattle.tide_periods.specs.Recorded.{HasSameCounts, IsSettled, Recorded}

-- the calls that a mutator made so far in a part, the last of which ended its share or not
pub record IsSharing (old now : Recorded) (run who made : ℕ) (ended : Bool) : Type 0 where
  pub settled : IsSettled now
  pub same : now.setting ≡ old.setting
  pub counts : HasSameCounts old now
  pub events : List Event
  pub history : now.history ≡ old.history ++ events
  pub own : AllPass (λ event. is_call_of who event.entry) events
  pub each : Each (HasCallLeft run (retry_of who old.history)) (calls_of who events)
  pub count : length (calls_of who events) ≡ made
  pub stops : has_ended (retry_of who old.history) (calls_of who events) ≡ ended

-- the first mutators made their calls of a part, one after another, and the others none
pub record IsPartway (old now : Recorded) (run count : ℕ) (ended : Bool) : Type 0 where
  pub settled : IsSettled now
  pub same : now.setting ≡ old.setting
  pub counts : HasSameCounts old now
  pub part : List Event
  pub history : now.history ≡ old.history ++ part
  pub calls : AllPass (λ event. is_call event.entry) part
  pub is_part : IsPartOf old.setting.layout old.history part
  pub shares : (who : ℕ) → who < count →
      IsShare run (retry_of who old.history) ((state_after now.setting.layout now.history).active who) (calls_of who part)
  pub none : (who : ℕ) → count ≤ who → calls_of who part ≡ []
  pub stops : ended ≡ any_below (λ who. has_ended (retry_of who old.history) (calls_of who part)) count

-- the calls that a mutator made so far in a part in which others make theirs, the last of which ended its share or not
pub record IsSharingOwn (setting : Setting) (run : ℕ) (seen seen_now mine mine_now : List Event) (old new : ScriptCursor) (made : ℕ) (ended : Bool) : Type 0 where
  pub grows : IsPrefix seen seen_now
  pub more : List Event
  pub adds : mine_now ≡ mine ++ more
  pub own : AllPass (λ event. is_call_of old.who event.entry) more
  pub each : Each (HasCallLeft run (retry_of old.who mine)) (calls_of old.who more)
  pub count : length (calls_of old.who more) ≡ made
  pub stops : has_ended (retry_of old.who mine) (calls_of old.who more) ≡ ended
  pub who : new.who ≡ old.who
  pub ops : new.ops ≡ old.ops
  pub before : IsCursorWithin setting seen mine old
  pub after : IsCursorWithin setting seen_now mine_now new
  pub left : left_within after + made ≤ left_within before
