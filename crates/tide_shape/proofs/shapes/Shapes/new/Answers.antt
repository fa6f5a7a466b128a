-- The shapes of paths that name no key twice are a table.
use Rattle.std.proofs.Common.{sym, subst}
use Rattle.tide_shape.specs.ShapeTable.{IsShapeTable}
use Rattle.tide_shape.specs.Shapes.{names_twice}
use Rattle.tide_model.proofs.PositionLaws.{All-position}
use Rattle.tide_shape.proofs.TableLaws.{shapes_of_paths-is_table}
use Rattle.tide_shape.proofs.shapes.Shapes.new.Goals as goal

pub invariant_of-result : goal.invariant_of-result
invariant_of-result c =
    let paths = c.args.paths.now in
    let once = All-position names_twice paths (sym c.in_default.ensures) in
    record { is_table = subst IsShapeTable (sym c.in-Ok.ensures) (shapes_of_paths-is_table paths c.requires.sized once) }
