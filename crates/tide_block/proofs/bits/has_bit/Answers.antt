-- Why `has_bit` meets its contract.
use Rattle.std.proofs.Common.{ℕ, ap}
use Rattle.std.proofs.lemmas.Nat.Bits.{shr_and_one}
use Rattle.std.specs.Prelude.{◌==◌}
use Rattle.tide_block.proofs.bits.has_bit.Goals as goal

pub returns : goal.returns
returns c = ap (λ (n : ℕ). n == 1) (shr_and_one c.args.word c.args.bit)
