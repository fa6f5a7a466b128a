-- What is written is the lines of each state that the snapshot is of.
use Rattle.std.proofs.Common.{length, subst, sym}
use Rattle.tide_shape.specs.Shapes.{shapes_of_paths}
use Rattle.tide_retained.specs.Contents.{HasKeysOf}
use Rattle.tide_snapshot.proofs.KeyLaws.{keys_are_named}
use Rattle.tide_snapshot.proofs.LineLaws.{lines_failed, lines_written}
use Rattle.tide_snapshot.proofs.snapshot.Snapshot.write_lines.Goals as goal

pub write_all_lines-requires : goal.write_all_lines-requires
write_all_lines-requires g c = record {
  keys = keys_are_named (length c.names_of.result.now) c.args.load.now.paths c.self.inside.retained.contents c.names_of.ensures.paths.named
      (subst (HasKeysOf (shapes_of_paths c.args.load.now.paths)) (sym c.self.view_is) c.requires.shapes);
}

pub returns-clause-whole : goal.returns-clause-whole
returns-clause-whole g c =
    lines_written c.self.inside.retained c.args.self.now c.names_of.result.now c.args.load.now.keys c.self.invariant c.self.view_is c.names_of.ensures.names _ _
    c.write_all_lines.result c.write_all_lines.ensures.whole

pub returns-clause-part : goal.returns-clause-part
returns-clause-part g c =
    lines_failed c.self.inside.retained c.args.self.now c.names_of.result.now c.args.load.now.keys c.self.invariant c.self.view_is c.names_of.ensures.names _ _
    c.write_all_lines.result c.write_all_lines.ensures.part
