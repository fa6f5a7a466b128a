-- A key that stands again behind is named twice, and else the rest decides.
use Rattle.std.proofs.Common.{◌+◌, Bool, drop, sym, ◌∙◌, ap}
use Rattle.std.specs.Prelude.{◌||◌}
use Rattle.tide_shape.specs.Shapes.{names_twice}
use Rattle.tide_shape.proofs.DoubleLaws.{names_twice-rest}
use Rattle.tide_shape.proofs.shapes.has_double.Goals as goal

pub returns-then-contains : goal.returns-then-contains
returns-then-contains c =
    sym (names_twice-rest c.args.path.now c.loop-at.at c.contains.result c.loop-at-test.true c.loop-at.invariant c.contains.ensures.value
    ∙ ap (λ (again : Bool). again || names_twice (drop (c.loop-at.at + 1) c.args.path.now)) c.if-contains.true)

pub loop-at-preserved : goal.loop-at-preserved
loop-at-preserved c =
    sym (names_twice-rest c.args.path.now c.loop-at.at c.contains.result c.loop-at-test.true c.loop-at.invariant c.contains.ensures.value
    ∙ ap (λ (again : Bool). again || names_twice (drop (c.loop-at.at + 1) c.args.path.now)) c.if-contains.false)
