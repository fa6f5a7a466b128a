-- Each call's reply is counted.
use Rattle.std.proofs.Common.{◌≤◌, ◌∙◌, ◌++◌, ap, arith, length, take, take_all, List, append_assoc}
use Rattle.std.specs.Prelude.{map}
use Rattle.tide_model.specs.declared.op.Reply.{Reply}
use Rattle.tide_periods.specs.declared.answered.Answered.{Answered}
use Rattle.tide_workload.specs.Words.{counts_with}
use Rattle.tide_run.proofs.Counted.{one_call_more}
use Rattle.tide_run.proofs.counting.count_calls.Goals as goal

pub loop-call-preserved : goal.loop-call-preserved
loop-call-preserved c = λ mutators live replies is.
    let calls : List Answered = c.args.calls.now in
    let i = c.loop-call.call-index in
    let made : List Reply = map (λ (call : Answered). call.reply) (take i calls) in
    c.in_ok-add.ensures mutators live (replies ++ made) (c.loop-call.invariant mutators live replies is)
    ∙ ap (λ (all : List Reply). counts_with mutators all live)
    (append_assoc replies made _ ∙ ap (λ (more : List Reply). replies ++ more) (one_call_more calls i _ c.loop-call-test.true))

pub returns : goal.returns
returns c = λ mutators live replies is.
    let calls : List Answered = c.args.calls.now in
    let past : length calls ≤ c.loop-call.call-index = (let over = c.loop-call-test.false in omega (arith, over)) in
    c.loop-call.invariant mutators live replies is
    ∙ ap (λ (these : List Answered). counts_with mutators (replies ++ map (λ (call : Answered). call.reply) these) live)
    (take_all c.loop-call.call-index calls past)
