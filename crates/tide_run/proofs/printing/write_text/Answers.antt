-- Answers to the goals of printing::write_text.
use Rattle.std.proofs.Common.{ℕ, ◌++◌, subst}
use Rattle.std.specs.Prelude.{OnOk, OnErr}
use Rattle.std.specs.Io.KnownBytes.{Appends}
use Rattle.tide_io.specs.Faults.{AppendsPart}
use Rattle.tide_model.specs.Cycle.{live_count}
use Rattle.tide_model.specs.History.{state_after}
use Rattle.tide_model.specs.State.{empty_state}
use Rattle.tide_workload.specs.Words.{live_line, mutators_text, cycles_from}
use Rattle.tide_io.proofs.ChainLaws.{Appends-then, AppendsPart-then, AppendsPart-grown, OnErr-from, OnErr-then, OnOk-then}
use Rattle.tide_run.proofs.printing.write_text.Goals as goal

pub returns-clause-whole : goal.returns-clause-whole
returns-clause-whole g c =
    let ran = c.args.outcome.now in
    let mutators = mutators_text ran.keys ran.layout.mutators ran.history in
    let cycles = cycles_from ran.layout empty_state ran.history in
    let both = Appends-then _ _ _ mutators cycles c.in_ok-write_mutators.ensures.whole c.in_ok-write_cycles_of.ensures.whole in
    subst (λ (n : ℕ). OnOk c.write_live.result (Appends (g.K.Sink.held c.args.out.now) (g.K.Sink.held c.write_live.new.out) ((mutators ++ cycles) ++ live_line n))) c.live.ensures
    (OnOk-then _ _ _ (mutators ++ cycles) (live_line c.live.result) c.write_live.result both c.write_live.ensures.whole)

pub returns-clause-part : goal.returns-clause-part
returns-clause-part g c =
    let ran = c.args.outcome.now in
    let mutators = mutators_text ran.keys ran.layout.mutators ran.history in
    let cycles = cycles_from ran.layout empty_state ran.history in
    let both = Appends-then _ _ _ mutators cycles c.in_ok-write_mutators.ensures.whole c.in_ok-write_cycles_of.ensures.whole in
    subst (λ (n : ℕ). OnErr c.write_live.result (AppendsPart (g.K.Sink.held c.args.out.now) (g.K.Sink.held c.write_live.new.out) ((mutators ++ cycles) ++ live_line n))) c.live.ensures
    (OnErr-then _ _ _ (mutators ++ cycles) (live_line c.live.result) c.write_live.result both c.write_live.ensures.part)

pub returns-in_err-write_cycles_of-clause-part : goal.returns-in_err-write_cycles_of-clause-part
returns-in_err-write_cycles_of-clause-part g c =
    let ran = c.args.outcome.now in
    let mutators = mutators_text ran.keys ran.layout.mutators ran.history in
    let both = AppendsPart-then _ _ _ mutators (cycles_from ran.layout empty_state ran.history) c.in_ok-write_mutators.ensures.whole c.in_err-write_cycles_of.ensures.part in
    OnErr-from c.from_residual-in_err-write_cycles_of.result
    (AppendsPart-grown _ _ _ (live_line (live_count ran.layout (state_after ran.layout ran.history))) both)

pub returns-in_err-write_mutators-clause-part : goal.returns-in_err-write_mutators-clause-part
returns-in_err-write_mutators-clause-part g c =
    let ran = c.args.outcome.now in
    OnErr-from c.from_residual.result
    (AppendsPart-grown _ _ _ (live_line (live_count ran.layout (state_after ran.layout ran.history)))
    (AppendsPart-grown _ _ _ (cycles_from ran.layout empty_state ran.history) c.in_err-write_mutators.ensures.part))
