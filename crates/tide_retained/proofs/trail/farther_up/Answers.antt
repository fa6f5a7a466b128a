-- Both stand above the cell.
use Rattle.std.proofs.Common.{subst, sym}
use Rattle.tide_retained.specs.Trail.{IsAbove}
use Rattle.tide_retained.proofs.TrailLaws.{IsAbove-parent}
use Rattle.tide_retained.proofs.trail.farther_up.Goals as goal

pub returns-then-distance_of-distance-clause-above : goal.returns-then-distance_of-distance-clause-above
returns-then-distance_of-distance-clause-above c = subst (IsAbove c.args.found.now c.args.cell) (sym c.skip_of-skip.ensures) (c.requires.skips c.args.cell)

pub returns-else-distance_of-distance-clause-above : goal.returns-else-distance_of-distance-clause-above
returns-else-distance_of-distance-clause-above c = subst (IsAbove c.args.found.now c.args.cell) (sym c.parent_of.ensures) (IsAbove-parent c.args.found.now c.requires.way c.args.cell)
