-- Both names may be those of keys.
use Rattle.std.proofs.Common.{refl}
use Rattle.tide.specs.tide_text.work.Keys.{is_key}
use Rattle.embed_standing.proofs.showing.names_of_keys.Goals as goal

pub add-requires-clause-key : goal.add-requires-clause-key
unfolding is_key
add-requires-clause-key c = refl

pub add-requires-2-clause-key : goal.add-requires-2-clause-key
unfolding is_key
add-requires-2-clause-key c = refl
