-- What a participant did in a part, as far as its own view tells: a mutator its share of the calls, a visitor its
-- visits.
use Rattle.std.specs.Prelude.{ℕ, ◌≡◌, ◌≤◌, Bool, true, false, not, List, ◌++◌, length, filter, if◌then◌else◌}
use Rattle.tide_model.specs.Caller.{IsOwn}
use Rattle.tide_model.specs.Each.{Each}
use Rattle.tide_model.specs.Freeze.{marks_after}
use Rattle.tide_model.specs.History.{is_call_of, state_after}
use Rattle.tide_model.specs.Layout.{Layout}
use Rattle.tide_model.specs.Prefix.{IsPrefix}
use Rattle.tide_model.specs.Script.{calls_of, retry_of}
use Rattle.tide_model.specs.Share.{HasCallLeft, has_ended}
use Rattle.tide_model.specs.declared.entry.Event.{Event}
use Rattle.tide_posts.specs.Openings.{IsOpening}
use Rattle.tide_posts.specs.Schedule.{IsShareWhere}

-- In the part of a ticket that told `told` a mutator has made so many calls, behind those that the history had of it
-- then, and the last of them ended its share or none did.
pub record IsSharing (who number run : ℕ) (seen mine : List Event) (made : ℕ) (ended : Bool) : Type 0 where
  pub told : List Event
  pub opening : IsOpening number run told
  pub grows : IsPrefix told seen
  pub more : List Event
  pub adds : mine ≡ filter (λ event. is_call_of who event.entry) told ++ more
  pub each : Each (HasCallLeft run (retry_of who told)) (calls_of who more)
  pub count : length (calls_of who more) ≡ made
  pub stops : has_ended (retry_of who told) (calls_of who more) ≡ ended
  pub own : IsOwn who seen mine

-- It has made its share: all of its calls, or fewer where it has retired, where the last one ended its share, or where
-- it stopped early. Where it has retired what it has seen says so.
pub record HasShared (who number run : ℕ) (seen mine : List Event) (left ended early : Bool) : Type 0 where
  pub told : List Event
  pub opening : IsOpening number run told
  pub grows : IsPrefix told seen
  pub more : List Event
  pub adds : mine ≡ filter (λ event. is_call_of who event.entry) told ++ more
  pub share : IsShareWhere run (retry_of who told) (not left) early (calls_of who more)
  pub stops : ended ≡ has_ended (retry_of who told) (calls_of who more)
  pub retired : left ≡ true → (layout : Layout) → (state_after layout seen).active who ≡ false

-- In the part of its ticket a visitor made so many cells black: no more than each mutator had calls, if a cycle marks,
-- and else none.
pub record HasMarked (layout : Layout) (number run : ℕ) (marks : Bool) (seen : List Event) (visits : ℕ) : Type 0 where
  pub told : List Event
  pub opening : IsOpening number run told
  pub grows : IsPrefix told seen
  pub marking : marks ≡ marks_after layout told
  pub most : visits ≤ (if marks then run else 0)
