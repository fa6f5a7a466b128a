-- The counts, the freed cells and the newline make the line, and a failed write leaves a part of it.
use Rattle.std.proofs.Common.{◌++◌}
use Rattle.std.specs.Prelude.{codes}
use Rattle.tide_text.specs.lines.Line.{counts_text, cycle_line, freed_text}
use Rattle.tide_io.proofs.ChainLaws.{Appends-then, AppendsPart-then, AppendsPart-grown, OnErr-from, OnErr-then, OnOk-then}
use Rattle.tide_text.proofs.writing.write_cycle.Goals as goal

pub returns-in_err-write_counts-clause-part : goal.returns-in_err-write_counts-clause-part
unfolding cycle_line
returns-in_err-write_counts-clause-part g c =
    let cells = AppendsPart-grown _ _ (counts_text _ _ _) (freed_text c.args.freed.now) c.in_err-write_counts.ensures.part in
    OnErr-from c.from_residual.result (AppendsPart-grown _ _ _ (codes "\n") cells)

pub returns-in_err-write_freed-clause-part : goal.returns-in_err-write_freed-clause-part
unfolding cycle_line
returns-in_err-write_freed-clause-part g c =
    let cells = AppendsPart-then _ _ _ _ _ c.in_ok-write_counts.ensures.whole c.in_err-write_freed.ensures.part in
    OnErr-from c.from_residual-in_err-write_freed.result (AppendsPart-grown _ _ (counts_text _ _ _ ++ freed_text _) (codes "\n") cells)

pub returns-clause-whole : goal.returns-clause-whole
unfolding cycle_line
returns-clause-whole g c =
    let cells = Appends-then _ _ _ (counts_text _ _ _) (freed_text _) c.in_ok-write_counts.ensures.whole c.in_ok-write_freed.ensures.whole in
    OnOk-then _ _ _ (counts_text _ _ _ ++ freed_text _) (codes "\n") c.write_all.result cells c.write_all.ensures.whole

pub returns-clause-part : goal.returns-clause-part
unfolding cycle_line
returns-clause-part g c =
    let cells = Appends-then _ _ _ (counts_text _ _ _) (freed_text _) c.in_ok-write_counts.ensures.whole c.in_ok-write_freed.ensures.whole in
    OnErr-then _ _ _ (counts_text _ _ _ ++ freed_text _) (codes "\n") c.write_all.result cells c.write_all.ensures.part
