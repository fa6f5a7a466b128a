-- The definitions compute to what was drawn.
use Rattle.std.proofs.Common.{refl}
use Rattle.tide_make.specs.Rounds.{next_seed, seed_after}
use Rattle.tide_make.proofs.rows.seeds.Goals as goal

pub returns : goal.returns
unfolding next_seed seed_after
returns c = record { first = refl; second = refl; last_mutator = refl; wrapped = refl; from_nothing = refl }
