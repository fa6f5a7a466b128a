use native.Mathlib.Omega.{arith}
use Rattle.std.proofs.Common.{◌≡◌, [], ◌∷◌, List, ap, length, length-append, subst, sym}
use Rattle.std.proofs.lemmas.List.Elements.{All-push}
use Rattle.std.specs.Prelude.{All}
use Rattle.tide_grow_shape.specs.growers.Grown.{Knowledge}
use Rattle.check_threads.proofs.shapes.race.growers_of.Goals as goal

pub loop-place-preserved : goal.loop-place-preserved
loop-place-preserved c =
    let grower = c.in_ok-grower.field-0 in
    let old = c.loop-place.growers.items in
    let long = ap (λ (gs : List Knowledge). length gs) c.in_ok-put.ensures in
    let parts = length-append old (grower ∷ []) in
    let same = c.loop-place.invariant.1 in (
      subst (λ (gs : List Knowledge). All (λ g. g.table ≡ c.args.table.now) gs) (sym c.in_ok-put.ensures)
          (All-push (λ (g : Knowledge). g.table ≡ c.args.table.now) old grower c.loop-place.invariant.0 c.in_ok-grower.ensures.table),
      omega (arith, long, parts, same),
    )
