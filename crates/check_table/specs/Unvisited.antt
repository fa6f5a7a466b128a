-- A part of these mutators, who visit no cell.
use Rattle.std.specs.Prelude.{◌≡◌}
use Rattle.tide_heap.specs.tide_freeze.declared.books.Books.{Books}
use Rattle.tide_heap.specs.tide_core.declared.machine.view.View.{View}
use Rattle.tide_model.specs.Layout.{Layout}
use Rattle.tide_table.specs.Standing.{RunsWith}
use Rattle.tide_table.specs.VisitsTold.{unentered}

-- a part runs with its books, and no note that is in told a visit
pub record RunsPart (layout : Layout) (books : Books) (v : View) : Type 0 where
  pub part : RunsWith layout books v
  pub unvisited : unentered v.visited ≡ 0
