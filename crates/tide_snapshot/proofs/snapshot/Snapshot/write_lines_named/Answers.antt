-- What is written is the lines of each state that the snapshot is of.
use Rattle.std.proofs.Common.{length, refl, subst, sym}
use Rattle.tide_snapshot.specs.Written.{HasNamedKeys}
use Rattle.tide_snapshot.proofs.LineLaws.{lines_failed, lines_written}
use Rattle.tide_snapshot.proofs.snapshot.Snapshot.write_lines_named.Goals as goal

pub write_all_lines-requires : goal.write_all_lines-requires
write_all_lines-requires g c = record {
  keys = subst (HasNamedKeys (length c.args.names.now)) (sym c.self.view_is) c.requires.named;
}

pub returns-clause-whole : goal.returns-clause-whole
returns-clause-whole g c =
    lines_written c.self.inside.retained c.args.self.now c.args.names.now c.args.names.now c.self.invariant c.self.view_is refl _ _
    c.write_all_lines.result c.write_all_lines.ensures.whole

pub returns-clause-part : goal.returns-clause-part
returns-clause-part g c =
    lines_failed c.self.inside.retained c.args.self.now c.args.names.now c.args.names.now c.self.invariant c.self.view_is refl _ _
    c.write_all_lines.result c.write_all_lines.ensures.part
