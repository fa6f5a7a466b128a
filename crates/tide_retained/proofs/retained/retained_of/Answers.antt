-- What was found is what there is to be kept.
use Rattle.std.proofs.Common.{ℕ, List, Option, arith, subst, sym}
use Rattle.tide_retained.specs.declared.search.Found.{Found}
use Rattle.tide_retained.specs.Searching.{HasKeysBelow}
use Rattle.tide_retained.specs.Trail.{AreSkips}
use Rattle.tide_retained.proofs.RetentionLaws.{paths_are_shortest}
use Rattle.tide_retained.proofs.retained.retained_of.Goals as goal

pub invariant_of-result : goal.invariant_of-result
invariant_of-result c = record {
  finds = c.in_ok-found.ensures.found;
  least = (
      let least = c.cells_known-cells.ensures.least in
      let flags = c.in_ok-retained.ensures.sized in
      let sized = c.in_ok-found.ensures.sized in
      omega (arith, least, flags, sized));
  most = (
      let most = c.cells_known-cells.ensures.most in
      let flags = c.in_ok-retained.ensures.sized in
      let sized = c.in_ok-found.ensures.sized in
      omega (arith, most, flags, sized));
  skips_lead = subst (λ (found : List (Option Found)). AreSkips found c.in_ok-skips.skips.items) c.as_slice.ensures.value c.in_ok-skips.ensures;
}

pub found-requires-clause-few : goal.found-requires-clause-few
found-requires-clause-few c =
    subst (λ (n : ℕ). HasKeysBelow n c.args.contents) (sym c.in_ok-retained.ensures.sized) c.cells_known-cells.ensures.keys

pub returns-clause-paths : goal.returns-clause-paths
returns-clause-paths c = paths_are_shortest c.args.contents c.in_ok-found.found.items c.in_ok-found.ensures.found
