use native.Mathlib.Omega.{arith}
use Rattle.tide_grow_shape.specs.transitions.Cells.{name_of}
use Rattle.tide_grow_shape.proofs.transitions_laws.MergeLaws.{agrees_all}
use Rattle.tide_grow_shape.proofs.transitions.sights.Sights.agrees_with.Goals as goal

pub returns : goal.returns
returns c = agrees_all (name_of c.args.cells.now) c.args.self.now c.args.others.now c.loop-sight.sight-index c.requires.mine c.requires.theirs c.loop-sight.invariant (omega arith)
