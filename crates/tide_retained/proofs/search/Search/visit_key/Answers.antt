-- The tables that stand under the key are all that have a pair of it.
use Rattle.tide_retained.proofs.RetainLaws.{key_visited}
use Rattle.tide_retained.proofs.search.Search.visit_key.Goals as goal

pub returns : goal.returns
returns c = key_visited c.args.contents.now c.args.keys.now c.of.result.now c.args.self.now c.enter_all_again.new.self c.args.cell c.requires.search c.requires.keys c.of.ensures c.in_ok-enter_all_again.ensures
