-- Some steps up, and no farther than the cell that is looked for.
use Rattle.std.proofs.Common.{ℕ, ◌≡◌, ◌+◌, ◌-◌, sym, ◌∙◌, ap, arith}
use Rattle.tide_retained.specs.Trail.{above, distance_of}
use Rattle.tide_retained.proofs.TrailLaws.{above-add, above-none, distance-above}
use Rattle.tide_retained.proofs.trail.on_the_way.Goals as goal

pub loop-at-init : goal.loop-at-init
loop-at-init c = record { steps = 0; within = (let within = c.requires.within in omega (arith, within)); is = above-none c.args.found.now c.args.cell }

pub loop-at-preserved : goal.loop-at-preserved
loop-at-preserved c =
    let found = c.args.found.now in
    let before = c.loop-at.invariant in
    let (m, few, some, there) = c.farther_up-at.ensures.above in
    let here = distance-above found c.requires.way before.steps c.args.cell (let within = before.within in omega (arith, within)) in
    let same = ap (distance_of found) before.is in
    let more = distance-above found c.requires.way m c.loop-at.at few in
    let end = ap (distance_of found) there in
    let not_past = c.farther_up-at.ensures.not_past in
    record {
      steps = before.steps + m;
      within = omega (arith, here, same, more, end, not_past);
      is = above-add found before.steps m c.args.cell ∙ ap (above found m) before.is ∙ there;
    }

pub loop-at-smaller : goal.loop-at-smaller
loop-at-smaller c =
    let found = c.args.found.now in
    let (m, few, some, there) = c.farther_up-at.ensures.above in
    let more = distance-above found c.requires.way m c.loop-at.at few in
    let end = ap (distance_of found) there in
    let test = c.loop-at-test.true in
    let far = c.distance_of.ensures in
    let up = some (omega (arith, test, far)) in
    omega (arith, more, end, up)

pub returns : goal.returns
returns c =
    let found = c.args.found.now in
    let before = c.loop-at.invariant in
    let here = distance-above found c.requires.way before.steps c.args.cell (let within = before.within in omega (arith, within)) in
    let same = ap (distance_of found) before.is in
    let test = c.loop-at-test.false in
    let far = c.distance_of.ensures in
    let within = before.within in
    let steps : before.steps ≡ distance_of found c.args.cell - c.args.distance = omega (arith, here, same, test, far, within) in
    sym before.is ∙ ap (λ (n : ℕ). above found n c.args.cell) steps
