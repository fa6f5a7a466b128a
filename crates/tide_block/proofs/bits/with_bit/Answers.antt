-- Why `with_bit` meets its contract.
use Rattle.tide_block.proofs.BitLaws.{with_bit-is}
use Rattle.tide_block.proofs.bits.with_bit.Goals as goal

pub returns : goal.returns
returns c = with_bit-is c.args.word c.args.bit c.requires
