use Rattle.tide_grow_shape.specs.transitions.Cells.{name_of}
use Rattle.tide_grow_shape.proofs.transitions_laws.SightLaws.{cell_met, cell_new}
use Rattle.tide_grow_shape.proofs.transitions.sights.Sights.agrees_on_cell.Goals as goal

pub returns-in-Some : goal.returns-in-Some
returns-in-Some c = cell_met (name_of c.args.cells.now) c.args.self.now c.in-Some.mine.now c.args.sight.now c.requires.sights c.in-Some.ensures.some.0 c.agrees.ensures

pub returns-in-None : goal.returns-in-None
returns-in-None c = cell_new c.args.self.now c.args.sight.now c.in-None.ensures.none
