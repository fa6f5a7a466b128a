-- What is written is the line of the cell in each state that the snapshot is of.
use Rattle.std.proofs.Common.{length, subst, sym}
use Rattle.tide_shape.specs.Shapes.{shapes_of_paths}
use Rattle.tide_retained.specs.Contents.{HasKeysOf}
use Rattle.tide_snapshot.proofs.KeyLaws.{keys_are_named}
use Rattle.tide_snapshot.proofs.LineLaws.{line_failed, line_written}
use Rattle.tide_snapshot.proofs.snapshot.Snapshot.write_cell.Goals as goal

pub write_cell_line-requires : goal.write_cell_line-requires
write_cell_line-requires g c = record {
  keys = keys_are_named (length c.names_of.result.now) c.args.load.now.paths c.self.inside.retained.contents c.names_of.ensures.paths.named
      (subst (HasKeysOf (shapes_of_paths c.args.load.now.paths)) (sym c.self.view_is) c.requires.shapes);
}

pub returns-clause-whole : goal.returns-clause-whole
returns-clause-whole g c =
    line_written c.self.inside.retained c.args.self.now c.names_of.result.now c.args.load.now.keys c.self.invariant c.self.view_is c.names_of.ensures.names c.args.cell _ _
    c.write_cell_line.result c.requires.live c.write_cell_line.ensures.whole

pub returns-clause-part : goal.returns-clause-part
returns-clause-part g c =
    line_failed c.self.inside.retained c.args.self.now c.names_of.result.now c.args.load.now.keys c.self.invariant c.self.view_is c.names_of.ensures.names c.args.cell _ _
    c.write_cell_line.result c.requires.live c.write_cell_line.ensures.part
