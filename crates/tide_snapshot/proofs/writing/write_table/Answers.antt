-- One write and then the other make the text, and a failed one leaves a part of it.
use Rattle.std.specs.Prelude.{codes}
use Rattle.tide_io.proofs.ChainLaws.{AppendsPart-grown, OnErr-from, OnErr-then, OnOk-then}
use Rattle.tide_snapshot.proofs.writing.write_table.Goals as goal

pub returns-in_err-write_all-clause-part : goal.returns-in_err-write_all-clause-part
returns-in_err-write_all-clause-part g c = OnErr-from c.from_residual.result (AppendsPart-grown _ _ (codes " pairs") _ c.in_err-write_all.ensures.part)

pub returns-clause-whole : goal.returns-clause-whole
returns-clause-whole g c = OnOk-then _ _ _ (codes " pairs") _ c.write_pairs.result c.in_ok-write_all.ensures.whole c.write_pairs.ensures.whole

pub returns-clause-part : goal.returns-clause-part
returns-clause-part g c = OnErr-then _ _ _ (codes " pairs") _ c.write_pairs.result c.in_ok-write_all.ensures.whole c.write_pairs.ensures.part
