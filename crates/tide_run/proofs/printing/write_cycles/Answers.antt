-- Answers to the goals of printing::write_cycles.
use Rattle.std.proofs.Common.{◌+◌, ◌∙◌, ap, take, drop, subst}
use Rattle.std.specs.List.{flat_map}
use Rattle.tide_io.specs.Faults.{AppendsPart}
use Rattle.tide_io.proofs.ChainLaws.{AppendsPart-then, AppendsPart-grown, OnErr-from}
use Rattle.tide_run.specs.Printing.{reported_line}
use Rattle.tide_run.proofs.Printed.{one_line_more, all_lines}
use Rattle.tide_run.proofs.printing.write_cycles.Goals as goal

pub returns-in_err-write_reported-clause-part : goal.returns-in_err-write_reported-clause-part
returns-in_err-write_reported-clause-part g c =
    let ids = c.args.report.now.ids in
    let xs = c.cycles-lines.result.now in
    let i = c.loop-line.line-index in
    let part = AppendsPart-then _ _ _ (flat_map (reported_line ids) (take i xs)) _ c.loop-line.invariant.written c.in_err-write_reported.ensures.part in
    let more = one_line_more (reported_line ids) xs i _ c.loop-line-test.true in
    let grown = AppendsPart-grown _ _ (flat_map (reported_line ids) (take (i + 1) xs)) (flat_map (reported_line ids) (drop (i + 1) xs)) (subst (AppendsPart _ _) more part) in
    OnErr-from c.from_residual.result (subst (AppendsPart _ _) (all_lines (reported_line ids) xs (i + 1) ∙ ap (flat_map (reported_line ids)) c.cycles-lines.ensures.cycles) grown)
