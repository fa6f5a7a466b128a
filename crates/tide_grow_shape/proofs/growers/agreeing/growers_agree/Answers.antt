use Rattle.std.proofs.Common.{List, ◌++◌, subst, sym}
use Rattle.tide_grow_shape.specs.transitions.Cells.{name_of}
use Rattle.tide_grow_shape.specs.transitions.Sights.{AreSights, edges_of}
use Rattle.tide_grow_shape.specs.transitions.Walks.{AreOfOne}
use Rattle.tide_grow_shape.specs.declared.transitions.sight.Sight.{Sight}
use Rattle.tide_grow_shape.proofs.growers_laws.TogetherLaws.{Grown_of, stands_by}
use Rattle.tide_grow_shape.proofs.growers.agreeing.growers_agree.Goals as goal

pub agrees_with-requires-clause-mine : goal.agrees_with-requires-clause-mine
agrees_with-requires-clause-mine c = (stands_by c.one.inside c.args.one.now c.table.inside.cells c.args.table.now c.one.view_is c.table.view_is c.requires.one c.one.invariant.stands).seen

pub agrees_with-requires-clause-theirs : goal.agrees_with-requires-clause-theirs
agrees_with-requires-clause-theirs c = subst (AreSights (name_of c.table.inside.cells)) (sym c.as_slice.ensures)
    (stands_by c.other.inside c.args.other.now c.table.inside.cells c.args.table.now c.other.view_is c.table.view_is c.requires.other c.other.invariant.stands).seen

pub returns : goal.returns
returns c = Grown_of (name_of c.table.inside.cells) c.one.inside c.other.inside c.args.one.now c.args.other.now c.one.view_is c.other.view_is
    (stands_by c.one.inside c.args.one.now c.table.inside.cells c.args.table.now c.one.view_is c.table.view_is c.requires.one c.one.invariant.stands)
    (stands_by c.other.inside c.args.other.now c.table.inside.cells c.args.table.now c.other.view_is c.table.view_is c.requires.other c.other.invariant.stands)
    (subst (λ (ss : List Sight). AreOfOne (edges_of c.one.inside.maker.sights ++ edges_of ss)) c.as_slice.ensures c.agrees_with.ensures)
