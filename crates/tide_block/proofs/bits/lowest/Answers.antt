-- Why `lowest` meets its contract.
use Rattle.std.proofs.Common.{arith}
use Rattle.tide_block.proofs.BitLaws.{lowest-trailing_zeros}
use Rattle.tide_block.proofs.bits.lowest.Goals as goal

pub returns-clause-lowest : goal.returns-clause-lowest
returns-clause-lowest c = lowest-trailing_zeros c.args.word (grind arith) c.ranges.word.fits
