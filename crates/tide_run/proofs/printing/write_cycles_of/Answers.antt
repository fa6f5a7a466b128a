-- Answers to the goals of printing::write_cycles_of.
use Rattle.std.proofs.Common.{ℕ, subst, List}
use Rattle.std.specs.Prelude.{OnOk, OnErr}
use Rattle.std.specs.Io.KnownBytes.{Appends}
use Rattle.tide_io.specs.Faults.{AppendsPart}
use Rattle.tide_run.proofs.Printed.{cycles_text}
use Rattle.tide_run.proofs.printing.write_cycles_of.Goals as goal

pub returns-clause-whole : goal.returns-clause-whole
returns-clause-whole g c =
    subst (λ (text : List ℕ). OnOk c.write_cycles.result (Appends (g.K.Sink.held c.args.out.now) (g.K.Sink.held c.write_cycles.new.out) text))
    (cycles_text c.args.outcome.now.layout c.args.outcome.now.history c.report.result.now c.report.ensures.ends) c.write_cycles.ensures.whole

pub returns-clause-part : goal.returns-clause-part
returns-clause-part g c =
    subst (λ (text : List ℕ). OnErr c.write_cycles.result (AppendsPart (g.K.Sink.held c.args.out.now) (g.K.Sink.held c.write_cycles.new.out) text))
    (cycles_text c.args.outcome.now.layout c.args.outcome.now.history c.report.result.now c.report.ensures.ends) c.write_cycles.ensures.part
