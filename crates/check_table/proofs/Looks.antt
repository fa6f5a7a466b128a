-- What looks leave.
use Rattle.std.proofs.Common.{◌∙◌, ap}
use Rattle.check_table.specs.Working.{HasLooked}
use Rattle.tide_heap.specs.tide_core.declared.machine.view.View.{View}

-- who looks twice has looked
pub looked_on : (v u w : View) → HasLooked v u → HasLooked u w → HasLooked v w
looked_on v u w one other = record {
  found = other.found;
  is = other.is ∙ ap (λ (x : View). record x { found = other.found }) one.is;
}
