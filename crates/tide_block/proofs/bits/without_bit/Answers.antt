-- Why `without_bit` meets its contract.
use Rattle.tide_block.proofs.BitLaws.{without_bit-is}
use Rattle.tide_block.proofs.bits.without_bit.Goals as goal

pub returns : goal.returns
returns c = without_bit-is c.args.word c.args.bit c.requires
