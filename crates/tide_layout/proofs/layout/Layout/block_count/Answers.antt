-- Why `block_count` meets its contract.
use Rattle.std.proofs.Common.{arith}
use Rattle.tide_layout.specs.Layout.{layout_of}
use Rattle.tide_layout.proofs.LimitLaws.{few_array_blocks, few_arrays, few_cell_blocks, few_cells}
use Rattle.tide_layout.proofs.layout.Layout.block_count.Goals as goal

pub block_count-requires-clause-few_cells : goal.block_count-requires-clause-few_cells
block_count-requires-clause-few_cells c = few_cell_blocks (layout_of c.self.inside.numbers) c.self.invariant.limits

pub block_count-requires-clause-few_arrays : goal.block_count-requires-clause-few_arrays
block_count-requires-clause-few_arrays c = few_array_blocks (layout_of c.self.inside.numbers) c.self.invariant.limits

pub returns-clause-few : goal.returns-clause-few
returns-clause-few c =
    let layout = layout_of c.self.inside.numbers in
    let cells = few_cells layout c.self.invariant.limits in
    let arrays = few_arrays layout c.self.invariant.limits in
    omega (arith, cells, arrays, c.block_count.ensures.count)
