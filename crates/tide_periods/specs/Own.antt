-- What a mutator does in a part while others make their calls: it knows its own calls and a beginning of the history.
use Rattle.std.specs.Prelude.{ℕ, ◌≡◌, ◌<◌, ◌≤◌, ◌++◌, Bool, true, false, not, List, length, slice_get, Some}
use Rattle.std.specs.List.{AllPass}
use Rattle.tide_model.specs.declared.entry.Event.{Event}
use Rattle.tide_model.specs.Caller.{IsOwn}
use Rattle.tide_model.specs.History.{is_call_of, state_after}
use Rattle.tide_model.specs.Lawful.{IsLawful}
use Rattle.tide_model.specs.Layout.{Layout}
use Rattle.tide_model.specs.Prefix.{IsPrefix}
use Rattle.tide_model.specs.Script.{calls_of, retry_of}
use Rattle.tide_model.specs.Share.{IsShare, has_ended}
use Rattle.tide_periods.specs.declared.cursor.ScriptCursor.{ScriptCursor}
use Rattle.tide_periods.specs.Asking.{IsCursorAt}
use Rattle.tide_periods.specs.Left.{left_of}
use Rattle.tide_periods.specs.Store.{Setting}

-- these are the cells that a mutator claims after each history in which its calls are just these
abbrev pub AreClaims : Layout → ℕ → List Event → List ℕ → Type 0
AreClaims layout who mine claims =
    (history : List Event) → IsOwn who history mine → claims ≡ (state_after layout history).claims who

-- What a cursor has of its mutator's calls is what some lawful beginning of what was seen has, with all calls that the
-- mutator made.
pub record IsCursorWithin (setting : Setting) (seen mine : List Event) (cursor : ScriptCursor) : Type 0 where
  pub known : List Event
  pub earlier : IsPrefix known seen
  pub lawful : IsLawful setting.layout setting.shapes known
  pub own : IsOwn cursor.who known mine
  pub at : IsCursorAt setting known cursor

-- how many calls such a cursor has left
abbrev pub left_within : {setting : Setting} {seen mine : List Event} {cursor : ScriptCursor} →
    IsCursorWithin setting seen mine cursor → ℕ
left_within {setting} {seen} {mine} {cursor} within = left_of (state_after setting.layout within.known).claims cursor

-- A mutator made its share of a part while others made theirs. It has seen a longer beginning of the history, and its
-- calls are those that it had made and those of its share; it has no more calls left, and fewer where it made any.
pub record RanOwnShare (setting : Setting) (run : ℕ) (seen seen_now mine mine_now : List Event) (old new : ScriptCursor)
    (ended : Bool) : Type 0 where
  pub grows : IsPrefix seen seen_now
  pub more : List Event
  pub adds : mine_now ≡ mine ++ more
  pub own : AllPass (λ event. is_call_of old.who event.entry) more
  pub share : IsShare run (retry_of old.who mine) (not new.retired) (calls_of old.who more)
  pub stops : ended ≡ has_ended (retry_of old.who mine) (calls_of old.who more)
  pub who : new.who ≡ old.who
  pub ops : new.ops ≡ old.ops
  pub before : IsCursorWithin setting seen mine old
  pub after : IsCursorWithin setting seen_now mine_now new
  pub left : left_within after ≤ left_within before
  pub fewer : 0 < run → old.retired ≡ false → left_within after < left_within before

-- What a cursor's mutator did in a part that was opened after one history and is over with another: it had retired and
-- made no call, or it made its share, of which the history when the part is over has each call. Whether it stopped
-- before its share was over.
pub data TookPart (setting : Setting) (run : ℕ) (before over : List Event) (old new : ScriptCursor) : Bool → Type 0 where
  had_retired : (mine : List Event) → old.retired ≡ true → new ≡ old → IsOwn old.who before mine →
      IsOwn old.who over mine → TookPart setting run before over old new false
  made_share : (seen seen_now mine mine_now : List Event) (ended : Bool) → IsOwn old.who before mine →
      IsOwn old.who over mine_now → IsPrefix seen_now over →
      RanOwnShare setting run seen seen_now mine mine_now old new ended → TookPart setting run before over old new ended

-- each cursor's mutator took part, and these stopped before their share was over
pub record AllTookPart (setting : Setting) (run : ℕ) (before over : List Event) (old new : List ScriptCursor)
    (stopped : ℕ → Bool) : Type 0 where
  pub as_many : length new ≡ length old
  pub each : (who : ℕ) (cursor cursor_now : ScriptCursor) → slice_get old who ≡ Some cursor →
      slice_get new who ≡ Some cursor_now → TookPart setting run before over cursor cursor_now (stopped who)
