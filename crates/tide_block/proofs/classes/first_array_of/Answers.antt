-- Why `first_array_of` meets its contract.
use Rattle.std.proofs.Common.{arith}
use Rattle.tide_block.proofs.BlockLaws.{first_block_of-arrays}
use Rattle.tide_block.proofs.classes.first_array_of.Goals as goal

pub overflow_sub-result : goal.overflow_sub-result
overflow_sub-result c =
    let begins = first_block_of-arrays c.args.layout.now c.args.class c.cells.ensures.limits.five_cell_classes c.requires.smallest in
    omega (arith, begins, c.first_block_of.ensures.first, c.cells.ensures.count)

pub returns : goal.returns
returns c =
    let begins = first_block_of-arrays c.args.layout.now c.args.class c.cells.ensures.limits.five_cell_classes c.requires.smallest in
    omega (arith, begins, c.first_block_of.ensures.first, c.cells.ensures.count)
