-- What the numbers of passes, notes and tickets mean: the fields of the views that their seats have.
use Rattle.std.specs.Prelude.{◌≡◌, ◌<◌, ◌^◌}
use Rattle.tide_core.specs.declared.machine.view.View.{View}
use Rattle.tide_heap.specs.declared.steps.pass.Numbers.{Numbers}

-- a participant's numbers are those of its view
pub record AreOf (numbers : Numbers) (v : View) : Type 0 where
  pub who : numbers.who ≡ v.who
  pub part : numbers.part ≡ v.ticket
  pub run : numbers.run ≡ v.run
  pub marking : numbers.marking ≡ v.marks
  pub cycle : numbers.cycle ≡ v.cycle
  pub base : numbers.base ≡ v.mark_version
  -- each colour of the cycle has a word of 64 bits
  pub few_cycles : numbers.cycle < 2 ^ 62
  pub begun : numbers.begun ≡ v.begun
  pub born : numbers.born ≡ v.born
  pub visits : numbers.visits ≡ v.visits
  pub left : numbers.left ≡ v.left
