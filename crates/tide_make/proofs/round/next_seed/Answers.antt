-- To wrap after the product and after the sum is to wrap once.
use Rattle.std.proofs.Common.{◌*◌, ◌^◌}
use Rattle.std.proofs.Math.Nat.{mod-add-mod}
use Rattle.tide_make.specs.Rounds.{next_seed}
use Rattle.tide_make.proofs.round.next_seed.Goals as goal

pub returns : goal.returns
unfolding next_seed
returns c = mod-add-mod (c.args.seed * 6364136223846793005) (2 ^ 64) 1442695040888963407
