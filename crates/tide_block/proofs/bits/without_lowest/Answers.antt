-- The lowest set bit goes.
use Rattle.tide_block.proofs.BitSteps.{without_lowest-is}
use Rattle.tide_block.proofs.bits.without_lowest.Goals as goal

pub returns : goal.returns
returns c = without_lowest-is c.args.word
