-- Why `cells` meets its contract.
use Rattle.std.proofs.Common.{arith, ap, ◌∙◌}
use Rattle.tide_model.specs.Layout.{cell_count}
use Rattle.tide_layout.specs.Layout.{layout_of}
use Rattle.tide_layout.proofs.LimitLaws.{few_cells}
use Rattle.tide_layout.proofs.layout.Layout.cells.Goals as goal

pub returns-clause-count : goal.returns-clause-count
returns-clause-count c = c.self.invariant.all_cells ∙ ap cell_count c.self.view_is

pub returns-clause-few : goal.returns-clause-few
returns-clause-few c =
    let few = few_cells (layout_of c.self.inside.numbers) c.self.invariant.limits in
    let all = c.self.invariant.all_cells in
    omega (arith, few, all)
