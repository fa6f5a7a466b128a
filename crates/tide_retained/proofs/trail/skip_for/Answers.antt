-- Both stand above the cell.
use Rattle.std.proofs.Common.{ℕ, subst, sym}
use Rattle.tide_retained.specs.Trail.{IsAbove}
use Rattle.tide_retained.proofs.TrailLaws.{IsAbove-far, IsAbove-parent}
use Rattle.tide_retained.proofs.trail.skip_for.Goals as goal

pub returns-then-ends-from : goal.returns-then-ends-from
returns-then-ends-from c =
    let found = c.args.found.now in
    let first = subst (IsAbove found c.parent_of-parent.result) (sym c.skip_of-skip.ensures) (c.requires.skips c.parent_of-parent.result) in
    let later = subst (IsAbove found c.skip_of-skip.result) (sym c.skip_of-farther.ensures) (c.requires.skips c.skip_of-skip.result) in
    IsAbove-far found c.requires.way c.args.cell c.skip_of-skip.result c.skip_of-farther.result c.requires.found
    (subst (λ (parent : ℕ). IsAbove found parent c.skip_of-skip.result) c.parent_of-parent.ensures first) later

pub returns-else-ends-from : goal.returns-else-ends-from
returns-else-ends-from c = subst (IsAbove c.args.found.now c.args.cell) (sym c.parent_of-parent.ensures) (IsAbove-parent c.args.found.now c.requires.way c.args.cell)
