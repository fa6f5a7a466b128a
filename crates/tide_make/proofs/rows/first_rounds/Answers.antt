-- The definitions compute to these rounds.
use Rattle.std.proofs.Common.{refl}
use Rattle.tide_make.specs.Made.{rounds_of}
use Rattle.tide_make.specs.Rounds.{next_seed, seed_after}
use Rattle.tide_make.proofs.rows.first_rounds.Goals as goal

pub returns : goal.returns
unfolding next_seed seed_after rounds_of
returns c = record { three_of_seven = refl; two_of_nothing = refl; eighth = refl; sixth = refl }
