-- A mutator between two parts, and in one.
use Rattle.std.specs.Prelude.{ℕ, ◌≡◌, ◌<◌, true, false}
use Rattle.tide_heap.specs.tide_core.machine.May.{Rests}
use Rattle.tide_heap.specs.tide_core.declared.machine.view.View.{View}

-- a mutator's view while it doesn't run: it began and stopped before this part alone
pub record IsAtRest (who part : ℕ) (v : View) : Type 0 where
  pub is : v.who ≡ who
  pub stopped : v.runs ≡ false
  pub period : v.period < part
  pub begun : v.begun < part
  pub visits : v.visits ≡ 0
  pub rests : Rests v

-- a mutator's view in this part: it began in it, hasn't stopped in it, and owes nothing
pub record TakesPart (who part : ℕ) (v : View) : Type 0 where
  pub is : v.who ≡ who
  pub runs : v.runs ≡ true
  pub ticket : v.ticket ≡ part
  pub begun : v.begun ≡ part
  pub once : v.period < part
  pub visits : v.visits ≡ 0
  pub rests : Rests v
