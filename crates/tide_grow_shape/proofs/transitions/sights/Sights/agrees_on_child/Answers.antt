use Rattle.tide_grow_shape.specs.transitions.Cells.{name_of}
use Rattle.tide_grow_shape.proofs.transitions_laws.SightLaws.{child_met, child_new}
use Rattle.tide_grow_shape.proofs.transitions.sights.Sights.agrees_on_child.Goals as goal

pub returns-in-Some : goal.returns-in-Some
returns-in-Some c = child_met (name_of c.args.cells.now) c.args.self.now c.in-Some.mine.now c.args.sight.now c.requires.sights c.in-Some.ensures.some.0 c.in-Some.ensures.some.1 c.agrees_on_child.ensures.parent c.agrees_on_child.ensures.key

pub returns-in-None : goal.returns-in-None
returns-in-None c = child_new c.args.self.now c.args.sight.now c.in-None.ensures.none
