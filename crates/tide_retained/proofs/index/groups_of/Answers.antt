-- The entries that were listed are those of the index.
use Rattle.tide_retained.proofs.IndexLaws.{groups_listed}
use Rattle.tide_retained.proofs.index.groups_of.Goals as goal

pub returns : goal.returns
returns c = groups_listed c.args.contents.now c.in_ok-entries.entries.items c.new.result c.in_ok-entries.ensures c.new.ensures
