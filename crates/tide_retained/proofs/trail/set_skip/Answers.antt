-- The new skip stands above the cell too.
use Rattle.std.proofs.Common.{◌<◌, length, arith, subst, sym}
use Rattle.std.proofs.lemmas.Grind.{common_steps}
use Rattle.tide_retained.specs.Trail.{AreSkips}
use Rattle.tide_retained.proofs.TrailLaws.{AreSkips-set}
use Rattle.tide_retained.proofs.trail.set_skip.Goals as goal

pub skip_for-skip-requires-clause-skips : goal.skip_for-skip-requires-clause-skips
skip_for-skip-requires-clause-skips c = subst (AreSkips c.args.found.now) (sym c.as_slice.ensures.value) c.requires.skips

pub returns-then-distance_of-ne0 : goal.returns-then-distance_of-ne0
returns-then-distance_of-ne0 c =
    let within : c.args.cell < length c.args.skips.now.items = grind (arith, common_steps) in
    AreSkips-set c.args.found.now c.args.skips.now.items c.args.cell c.skip_for-skip.result c.requires.skips within c.skip_for-skip.ensures
