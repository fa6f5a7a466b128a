-- The definitions compute to these rounds.
use Rattle.std.proofs.Common.{refl}
use Rattle.tide_make.proofs.rows.chain_ends.Goals as goal

pub returns : goal.returns
returns c = record { first = refl; again = refl; next = refl; no_handle_before = λ same. cc }
