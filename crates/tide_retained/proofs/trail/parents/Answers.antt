-- The parent of each cell was put there.
use Rattle.std.proofs.Common.{◌≡◌, length, arith}
use Rattle.tide_retained.proofs.TrailLaws.{AreSkips-parents}
use Rattle.tide_retained.proofs.trail.parents.Goals as goal

pub returns : goal.returns
returns c =
    let all : c.loop-cell.cell ≡ length c.args.found.now =
    (let test = c.loop-cell-test.false in let most = c.loop-cell.auto.cell-end in let few = c.requires.few in omega (arith, test, most, few)) in
    AreSkips-parents c.args.found.now c.loop-cell.parents.items c.requires.way (let counted = c.loop-cell.invariant.counted in omega (arith, counted, all))
    (λ cell below. c.loop-cell.invariant.each cell (let counted = c.loop-cell.invariant.counted in omega (arith, counted, below)))
