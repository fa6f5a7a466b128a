-- Sizes that aren't refused are those within their limits.
use Rattle.tide.proofs.Limits.{none_where_within}
use Rattle.tide.proofs.sizes.Sizes.refusal.Goals as goal

pub returns-clause-within : goal.returns-clause-within
returns-clause-within c = none_where_within c.args.self.now c.any_refusal.result c.any_refusal.ensures
