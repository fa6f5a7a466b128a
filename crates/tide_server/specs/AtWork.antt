-- What a member's mutator is between two calls: parked, or in the midst of its part.
use Rattle.std.specs.Prelude.{ℕ, ◌≡◌, ◌+◌, ◌<◌, ◌≤◌, Bool, true, false}
use Rattle.tide_model.specs.Caller.{IsOwn}
use Rattle.tide_model.specs.Periods.{open_count}
use Rattle.tide_posts.specs.Shares.{IsSharing}
use Rattle.tide_posts.specs.tide_heap.tide_core.declared.machine.view.View.{View}

-- It stands still between two parts: it has stopped in the part of its last note, what it has seen has no other calls
-- of its own than those that it made, and no more openings than that part's number.
pub record IsParked (v : View) : Type 0 where
  pub rests : v.runs ≡ false
  pub begun : v.begun ≤ v.period
  pub own : IsOwn v.who v.seen v.mine
  pub opens : open_count v.seen ≤ v.period

-- It is in the midst of its part: it has made some calls of it, and has so many left; `ended` says whether the last one
-- ended its share.
pub record IsAtWork (v : View) (left : ℕ) (ended : Bool) : Type 0 where
  pub runs : v.runs ≡ true
  pub begun : v.begun ≡ v.ticket
  pub once : v.period < v.ticket
  pub made : ℕ
  pub count : made + left ≡ v.run
  pub few : v.run ≤ 4294967295
  pub sharing : IsSharing v.who v.ticket v.run v.seen v.mine made ended
  pub born : v.born ≤ made
  pub visits : v.visits ≡ 0
