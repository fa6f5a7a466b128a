-- One more table.
use Rattle.std.proofs.Common.{arith, sym, subst}
use Rattle.std.proofs.lemmas.Grind.{common_steps}
use Rattle.tide_retained.specs.Searching.{IsSearch}
use Rattle.tide_retained.proofs.RetainLaws.{again_search}
use Rattle.tide_retained.proofs.search.Search.enter_all_again.Goals as goal

pub loop-table-preserved : goal.loop-table-preserved
loop-table-preserved c = record {
  same = grind (arith, common_steps);
  search = subst (IsSearch c.args.contents.now) (sym c.in_ok-enter_again.ensures) (again_search c.args.contents.now c.loop-table.self _ c.loop-table.invariant.search);
}
