use native.Mathlib.Omega.{arith}
use Rattle.std.proofs.Common.{List, ap, map, subst, sym, ◌∙◌}
use Rattle.std.specs.Prelude.{All, Contains}
use Rattle.tide_grow_shape.specs.transitions.Places.{place_of}
use Rattle.tide_grow_shape.specs.transitions.Sights.{IsOf, cell_number}
use Rattle.tide_grow_shape.specs.declared.transitions.sight.Sight.{Sight}
use Rattle.tide_grow_shape.proofs.transitions_laws.SightLaws.{cell_is, cell_none, cell_within}
use Rattle.tide_grow_shape.proofs.transitions.sights.Sights.of_cell.Goals as goal

pub index-requires : goal.index-requires
index-requires c =
    let items = c.self.inside.sights.items in
    omega (
      arith,
      c.self.inside.sights.ok.0,
      cell_within items c.args.next c.args.shape c.in-Some.at
          (ap (place_of (map (λ s. cell_number s.next s.shape) items)) (sym c.cell_number.ensures) ∙ sym (c.in-Some.ensures (map (λ s. cell_number s.next s.shape) items) c.self.invariant.by_cell)),
    )

pub returns-in-Some-clause-some : goal.returns-in-Some-clause-some
returns-in-Some-clause-some c =
    let items = c.self.inside.sights.items in
    subst (λ (ss : List Sight). Contains ss c.index.result.now × IsOf c.args.next c.args.shape c.index.result.now) c.self.view_is
    (cell_is items c.args.next c.args.shape c.in-Some.at c.index.result.now
    (ap (place_of (map (λ s. cell_number s.next s.shape) items)) (sym c.cell_number.ensures) ∙ sym (c.in-Some.ensures (map (λ s. cell_number s.next s.shape) items) c.self.invariant.by_cell)) c.index.ensures)

pub returns-in-None-clause-none : goal.returns-in-None-clause-none
returns-in-None-clause-none c =
    let items = c.self.inside.sights.items in
    subst (λ (ss : List Sight). All (λ s. ¬ (IsOf c.args.next c.args.shape s)) ss) c.self.view_is
    (cell_none items c.args.next c.args.shape
    (ap (place_of (map (λ s. cell_number s.next s.shape) items)) (sym c.cell_number.ensures) ∙ sym (c.in-None.ensures (map (λ s. cell_number s.next s.shape) items) c.self.invariant.by_cell)))
