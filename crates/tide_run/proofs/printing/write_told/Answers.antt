-- The lines so far, one more, and those that are left.
use Rattle.std.proofs.Common.{◌+◌, take, drop, subst}
use Rattle.std.specs.List.{flat_map}
use Rattle.tide_io.specs.Faults.{AppendsPart}
use Rattle.tide_io.proofs.ChainLaws.{AppendsPart-then, AppendsPart-grown, OnErr-from}
use Rattle.tide_run.specs.Asked.{told_line}
use Rattle.tide_run.proofs.Printed.{one_line_more, all_lines}
use Rattle.tide_run.proofs.printing.write_told.Goals as goal

pub returns-in_err-write_statistics-clause-part : goal.returns-in_err-write_statistics-clause-part
returns-in_err-write_statistics-clause-part g c =
    let xs = c.args.told.now in
    let i = c.loop-cycle.cycle-index in
    let part = AppendsPart-then _ _ _ (flat_map told_line (take i xs)) _ c.loop-cycle.invariant.written c.in_err-write_statistics.ensures.part in
    let more = one_line_more told_line xs i _ c.loop-cycle-test.true in
    let grown = AppendsPart-grown _ _ (flat_map told_line (take (i + 1) xs)) (flat_map told_line (drop (i + 1) xs)) (subst (AppendsPart _ _) more part) in
    OnErr-from c.from_residual.result (subst (AppendsPart _ _) (all_lines told_line xs (i + 1)) grown)
