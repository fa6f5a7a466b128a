-- What the view of a mutator or a visitor is between two parts, with its ticket, and once its note of a part is out.
use Rattle.std.specs.Prelude.{ℕ, ◌≡◌, ◌≤◌, Bool, true, false, Contains}
use Rattle.tide_heap.specs.Parties.{In}
use Rattle.tide_heap.specs.Turns.{calls_of}
use Rattle.tide_heap.specs.tide_core.declared.machine.view.View.{View}
use Rattle.tide_model.specs.Caller.{IsOwn}
use Rattle.tide_model.specs.Prefix.{IsPrefix}

-- A mutator that has left for good is known so to the collector, with what its last note told of its calls.
pub record HasLeft (collector : View) (who : ℕ) (v : View) : Type 0 where
  pub gone : In who collector.gone
  pub noted : Contains collector.noted_calls (calls_of v)

-- Between two parts a mutator stands still. It began and stopped in the last part at the latest, what it has seen is a
-- beginning of the history, and its calls are all that the history has of it. It has left where it has retired.
pub record IsParked (collector : View) (who : ℕ) (retired : Bool) (v : View) : Type 0 where
  pub is : v.who ≡ who
  pub rests : v.runs ≡ false
  pub left : v.left ≡ retired
  pub period : v.period ≤ collector.period
  pub begun : v.begun ≤ collector.period
  pub visits : v.visits ≡ 0
  pub seen : IsPrefix v.seen collector.seen
  pub own : IsOwn who collector.seen v.mine
  pub gone : retired ≡ true → HasLeft collector who v

-- Between two parts a visitor stands still. It stopped in the last part at the latest.
pub record IsAtRest (collector : View) (who : ℕ) (v : View) : Type 0 where
  pub is : v.who ≡ who
  pub rests : v.runs ≡ false
  pub period : v.period ≤ collector.period

-- Once a mutator has stopped in the part of a ticket, its note is out: of that part, with what it has seen and its own
-- calls, with no visits, and that it has done its part.
pub record HasPlayed (ticket : View) (who : ℕ) (retired : Bool) (v note : View) : Type 0 where
  pub is : v.who ≡ who
  pub rests : v.runs ≡ false
  pub left : v.left ≡ retired
  pub period : v.period ≡ ticket.period
  pub begun : v.begun ≡ ticket.period
  pub visits : v.visits ≡ 0
  pub of_part : note.period ≡ ticket.period
  pub told : calls_of note ≡ calls_of v
  pub still : note.visits ≡ 0
  pub done : note.done ≡ true

-- a mutator began the part of a ticket, in which it hadn't begun before
pub record HasBegunPart (tells v u : View) : Type 0 where
  pub who : u.who ≡ v.who
  pub runs : u.runs ≡ true
  pub left : u.left ≡ v.left
  pub period : u.period ≡ v.period
  pub ticket : u.ticket ≡ tells.period
  pub begun : u.begun ≡ tells.period
  pub born : u.born ≡ 0
  pub visits : u.visits ≡ 0
