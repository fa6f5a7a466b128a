-- What is printed is told by whether there are counts.
use Rattle.std.proofs.Common.{sym, subst, Option}
use Rattle.std.specs.Prelude.{OnErr, OnOk}
use Rattle.std.specs.Io.KnownBytes.{Appends}
use Rattle.tide_io.specs.Faults.{AppendsPart}
use Rattle.tide_run.specs.Asked.{printed_with}
use Rattle.tide_workload.specs.Words.{Counts}
use Rattle.tide_run.proofs.printing.write_run.Goals as goal

pub returns-in-Some : goal.returns-in-Some
returns-in-Some g c =
    let old = g.K.Sink.held c.args.out.now in
    let new = g.K.Sink.held c.write_summary.new.out in
    let ran = c.args.done.now.outcome in
    let wrote = c.write_summary.ensures in
    record {
      whole = subst (λ (counts : Option Counts). OnOk c.write_summary.result (Appends old new (printed_with counts ran))) (sym c.in-Some.is) wrote.whole;
      part = subst (λ (counts : Option Counts). OnErr c.write_summary.result (AppendsPart old new (printed_with counts ran))) (sym c.in-Some.is) wrote.part;
      cause = wrote.cause;
    }

pub returns-in-None : goal.returns-in-None
returns-in-None g c =
    let old = g.K.Sink.held c.args.out.now in
    let new = g.K.Sink.held c.write_text.new.out in
    let ran = c.args.done.now.outcome in
    let wrote = c.write_text.ensures in
    record {
      whole = subst (λ (counts : Option Counts). OnOk c.write_text.result (Appends old new (printed_with counts ran))) (sym c.in-None.is) wrote.whole;
      part = subst (λ (counts : Option Counts). OnErr c.write_text.result (AppendsPart old new (printed_with counts ran))) (sym c.in-None.is) wrote.part;
      cause = wrote.cause;
    }
