-- Answers to the goals of printing::write_mutators.
use Rattle.std.proofs.Common.{ℕ, ◌+◌, sym, subst, arith, add-one}
use Rattle.tide_io.specs.Faults.{AppendsPart}
use Rattle.tide_workload.specs.Words.{mutator_text, mutators_text}
use Rattle.tide_io.proofs.ChainLaws.{AppendsPart-then, AppendsPart-grown, OnErr-from}
use Rattle.tide_run.proofs.Printed.{mutators_rest}
use Rattle.tide_run.proofs.printing.write_mutators.Goals as goal

pub returns-in_err-write_calls_of-clause-part : goal.returns-in_err-write_calls_of-clause-part
returns-in_err-write_calls_of-clause-part g c =
    let ran = c.args.outcome.now in
    let m = c.loop-m.m in
    let part = AppendsPart-then _ _ _ (mutators_text ran.keys m ran.history) (mutator_text ran.keys m ran.history) c.loop-m.invariant.written c.in_err-write_calls_of.ensures.part in
    let rest = mutators_rest ran.keys (m + 1) ran.layout.mutators ran.history (omega (arith, c.loop-m-test.true, c.mutators-m-end.ensures.count)) in
    let old = g.K.Sink.held c.args.out.now in
    let new = g.K.Sink.held c.write_calls_of.new.out in
    let grown = AppendsPart-grown old new (mutators_text ran.keys (m + 1) ran.history) rest.0
    (subst (λ (n : ℕ). AppendsPart old new (mutators_text ran.keys n ran.history)) (sym (add-one m)) part) in
    OnErr-from c.from_residual.result (subst (AppendsPart old new) (sym rest.1) grown)
