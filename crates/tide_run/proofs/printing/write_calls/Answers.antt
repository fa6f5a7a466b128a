-- Answers to the goals of printing::write_calls.
use Rattle.std.proofs.Common.{◌+◌, take, drop, subst}
use Rattle.std.specs.List.{flat_map}
use Rattle.tide_io.specs.Faults.{AppendsPart}
use Rattle.tide_io.proofs.ChainLaws.{AppendsPart-then, AppendsPart-grown, OnErr-from}
use Rattle.tide_run.specs.Printing.{answered_line}
use Rattle.tide_run.proofs.Printed.{one_line_more, all_lines}
use Rattle.tide_run.proofs.printing.write_calls.Goals as goal

pub returns-in_err-write_call-clause-part : goal.returns-in_err-write_call-clause-part
returns-in_err-write_call-clause-part g c =
    let keys = c.args.load.now.keys in
    let xs = c.args.calls.now in
    let i = c.loop-call.call-index in
    let part = AppendsPart-then _ _ _ (flat_map (answered_line keys) (take i xs)) _ c.loop-call.invariant.written c.in_err-write_call.ensures.part in
    let more = one_line_more (answered_line keys) xs i _ c.loop-call-test.true in
    let grown = AppendsPart-grown _ _ (flat_map (answered_line keys) (take (i + 1) xs)) (flat_map (answered_line keys) (drop (i + 1) xs)) (subst (AppendsPart _ _) more part) in
    OnErr-from c.from_residual.result (subst (AppendsPart _ _) (all_lines (answered_line keys) xs (i + 1)) grown)
