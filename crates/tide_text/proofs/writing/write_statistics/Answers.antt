-- The two pieces make the line, and a failed write leaves a part of it.
use Rattle.tide_text.specs.lines.Line.{blackened_text, statistics_line, told_text}
use Rattle.tide_io.proofs.ChainLaws.{AppendsPart-grown, OnErr-from, OnErr-then, OnOk-then}
use Rattle.tide_text.proofs.writing.write_statistics.Goals as goal

pub returns-in_err-write_told-clause-part : goal.returns-in_err-write_told-clause-part
unfolding statistics_line
returns-in_err-write_told-clause-part g c =
    OnErr-from c.from_residual.result
    (AppendsPart-grown _ _ (told_text _ _ _ _ _) (blackened_text c.args.paused c.args.visited) c.in_err-write_told.ensures.part)

pub returns-clause-whole : goal.returns-clause-whole
unfolding statistics_line
returns-clause-whole g c =
    OnOk-then _ _ _ (told_text _ _ _ _ _) (blackened_text _ _) c.write_blackened.result c.in_ok-write_told.ensures.whole
    c.write_blackened.ensures.whole

pub returns-clause-part : goal.returns-clause-part
unfolding statistics_line
returns-clause-part g c =
    OnErr-then _ _ _ (told_text _ _ _ _ _) (blackened_text _ _) c.write_blackened.result c.in_ok-write_told.ensures.whole
    c.write_blackened.ensures.part
