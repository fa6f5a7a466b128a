use Rattle.std.proofs.Common.{List, sym, subst}
use Rattle.std.specs.Prelude.{Contains}
use Rattle.tide_grow_shape.specs.transitions.Sights.{edges_of, seen_edge}
use Rattle.tide_grow_shape.specs.declared.transitions.sight.Sight.{Sight}
use Rattle.tide_grow_shape.proofs.transitions_laws.SightLaws.{more_edges, of_edge}
use Rattle.tide_grow_shape.proofs.transitions.sights.Sights.observe.Goals as goal

pub returns-in-Ok-add-clause-more : goal.returns-in-Ok-add-clause-more
returns-in-Ok-add-clause-more g c = λ e in_e.
    subst (λ (ss : List Sight). Contains (edges_of ss) e) (sym c.in-Ok-add.ensures.ok) (more_edges c.args.self.now c.read-sight.result e in_e)

pub returns-in-Ok-add-clause-seen : goal.returns-in-Ok-add-clause-seen
returns-in-Ok-add-clause-seen g c =
    subst (λ (ss : List Sight). Contains (edges_of ss) (seen_edge c.args.next c.args.of record { child = c.read-sight.result.child; parent = c.read-sight.result.parent; key = c.read-sight.result.key })) (sym c.in-Ok-add.ensures.ok)
    (of_edge c.args.self.now c.read-sight.result c.args.next c.args.of c.read-sight.ensures.of)
