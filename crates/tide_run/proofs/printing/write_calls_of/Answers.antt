-- Answers to the goals of printing::write_calls_of.
use Rattle.std.proofs.Common.{ℕ, ◌≡◌, ◌∙◌, ◌++◌, ap, sym, subst, List}
use Rattle.std.specs.Prelude.{OnOk, OnErr}
use Rattle.std.specs.Io.KnownBytes.{Appends}
use Rattle.std.specs.List.{flat_map}
use Rattle.tide_io.specs.Faults.{AppendsPart}
use Rattle.tide_model.specs.Script.{calls_of}
use Rattle.tide_workload.specs.Words.{call_lines, mutator_line}
use Rattle.tide_io.proofs.ChainLaws.{AppendsPart-grown, OnErr-from, OnErr-then, OnOk-then}
use Rattle.tide_run.specs.Printing.{answered_line}
use Rattle.tide_run.proofs.Printed.{calls_text}
use Rattle.tide_run.proofs.printing.write_calls_of.Goals as goal

pub returns-clause-whole : goal.returns-clause-whole
returns-clause-whole g c =
    let ran = c.args.outcome.now in
    let own = c.calls.result.now in
    let lines : flat_map (answered_line c.args.load.now.keys) own ≡ call_lines ran.keys (calls_of c.args.m ran.history) =
    ap (λ keys. flat_map (answered_line keys) own) (sym c.requires.keys) ∙ calls_text ran.keys c.args.m ran.history own c.calls.ensures.calls in
    subst (λ (text : List ℕ). OnOk c.write_calls.result (Appends (g.K.Sink.held c.args.out.now) (g.K.Sink.held c.write_calls.new.out) (mutator_line c.args.m ++ text))) lines
    (OnOk-then _ _ _ (mutator_line c.args.m) (flat_map (answered_line c.args.load.now.keys) own) c.write_calls.result c.in_ok-write_mutator.ensures.whole c.write_calls.ensures.whole)

pub returns-clause-part : goal.returns-clause-part
returns-clause-part g c =
    let ran = c.args.outcome.now in
    let own = c.calls.result.now in
    let lines : flat_map (answered_line c.args.load.now.keys) own ≡ call_lines ran.keys (calls_of c.args.m ran.history) =
    ap (λ keys. flat_map (answered_line keys) own) (sym c.requires.keys) ∙ calls_text ran.keys c.args.m ran.history own c.calls.ensures.calls in
    subst (λ (text : List ℕ). OnErr c.write_calls.result (AppendsPart (g.K.Sink.held c.args.out.now) (g.K.Sink.held c.write_calls.new.out) (mutator_line c.args.m ++ text))) lines
    (OnErr-then _ _ _ (mutator_line c.args.m) (flat_map (answered_line c.args.load.now.keys) own) c.write_calls.result c.in_ok-write_mutator.ensures.whole c.write_calls.ensures.part)

pub returns-in_err-write_mutator-clause-part : goal.returns-in_err-write_mutator-clause-part
returns-in_err-write_mutator-clause-part g c =
    let ran = c.args.outcome.now in
    OnErr-from c.from_residual.result
    (AppendsPart-grown _ _ (mutator_line c.args.m) (call_lines ran.keys (calls_of c.args.m ran.history)) c.in_err-write_mutator.ensures.part)
