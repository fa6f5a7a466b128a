-- Why `complement` meets its contract.
use Rattle.std.proofs.Common.{w64}
use Rattle.std.proofs.lemmas.Nat.Bits.{bit_at_not}
use Rattle.tide_block.proofs.bits.complement.Goals as goal

pub returns : goal.returns
returns c = λ bit inside. bit_at_not w64 c.args.word bit c.ranges.word.fits inside
