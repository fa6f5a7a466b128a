-- Which visitor's visits are entered, and how many.
use Rattle.std.specs.Prelude.{◌+◌}
use Rattle.tide_heap.specs.tide_core.machine.World.{first_visitor}
use Rattle.tide_model.specs.History.{plain}
use Rattle.tide_model.specs.declared.entry.Entry.TheVariants.{Visits}
use Rattle.tide_table.proofs.frozen.Frozen.enter_visits.Given as goal

abbrev pub ghosts-enter_visits_as : goal.ghosts-enter_visits_as
ghosts-enter_visits_as g a = record {
  layout = a.heap.now.key.layout;
  shapes = g.S.HeapShapes.lists a.heap.now.key.shapes;
  event = plain (Visits a._visitor a._visits);
  number = first_visitor + a._visitor;
}
