-- Each mutator's replies are counted, and those of all are as many as the history's.
use Rattle.std.proofs.Common.{◌≡◌, ◌∙◌, ◌++◌, ap, arith, ℕ, List}
use Rattle.tide_model.specs.declared.op.Reply.{Reply}
use Rattle.tide_model.specs.Cycle.{live_count}
use Rattle.tide_model.specs.History.{state_after}
use Rattle.tide_workload.specs.Words.{counts_with}
use Rattle.tide_run.proofs.Counted.{counts_below, replies_below, replies_below-more, replies_of_calls}
use Rattle.tide_run.proofs.counting.counts_of.Goals as goal

pub loop-m-preserved : goal.loop-m-preserved
loop-m-preserved c =
    let ran = c.args.outcome.now in
    let live : ℕ = live_count ran.layout (state_after ran.layout ran.history) in
    c.in_ok-count_calls.ensures ran.layout.mutators live (replies_below c.loop-m.m ran.history) c.loop-m.invariant
    ∙ ap (λ (replies : List Reply). counts_with ran.layout.mutators (replies_below c.loop-m.m ran.history ++ replies) live)
    (replies_of_calls c.loop-m.m ran.history c.calls.result.now c.calls.ensures.calls)
    ∙ ap (λ (replies : List Reply). counts_with ran.layout.mutators replies live) (replies_below-more c.loop-m.m ran.history)

pub returns : goal.returns
returns c =
    let ran = c.args.outcome.now in
    let live : ℕ = live_count ran.layout (state_after ran.layout ran.history) in
    let all : c.loop-m.m ≡ ran.layout.mutators = (let past = c.loop-m-test.false in let within = c.loop-m.auto.m-end in let end = c.mutators-m-end.ensures.count in omega (arith, past, within, end)) in
    c.loop-m.invariant
    ∙ ap (λ (n : ℕ). counts_with ran.layout.mutators (replies_below n ran.history) live) all
    ∙ counts_below ran.layout.mutators ran.history live c.mutators.ensures.no_others
