-- What the cell holds and then its path make the line, and a failed write leaves a part of it.
use Rattle.tide_io.proofs.ChainLaws.{AppendsPart-grown, OnErr-from, OnErr-then, OnOk-then}
use Rattle.tide_retained.specs.Retention.{path_of}
use Rattle.tide_snapshot.specs.Written.{held_line, way_text}
use Rattle.tide_snapshot.proofs.writing.write_line.Goals as goal

pub returns-in_err-write_held-clause-part : goal.returns-in_err-write_held-clause-part
returns-in_err-write_held-clause-part g c =
    OnErr-from c.from_residual.result
    (AppendsPart-grown _ _ (held_line c.args.names.now c.args.cell c.args.held.now) (way_text (path_of c.args.retained.now c.args.cell)) c.in_err-write_held.ensures.part)

pub returns-clause-whole : goal.returns-clause-whole
returns-clause-whole g c =
    OnOk-then _ _ _ (held_line c.args.names.now c.args.cell c.args.held.now) (way_text (path_of c.args.retained.now c.args.cell)) c.write_path.result c.in_ok-write_held.ensures.whole c.write_path.ensures.whole

pub returns-clause-part : goal.returns-clause-part
returns-clause-part g c =
    OnErr-then _ _ _ (held_line c.args.names.now c.args.cell c.args.held.now) (way_text (path_of c.args.retained.now c.args.cell)) c.write_path.result c.in_ok-write_held.ensures.whole c.write_path.ensures.part
