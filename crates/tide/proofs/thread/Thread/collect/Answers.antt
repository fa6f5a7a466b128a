-- A cycle is asked for between two calls that empty the register for operands.
use Rattle.std.proofs.Common.{ℕ, inl, inr, subst, ◌∙◌}
use Rattle.std.specs.Prelude.{Err, Ok}
use Rattle.tide.proofs.Passed.{same_stop}
use Rattle.tide.proofs.Replies.{collect_goes_on, done_later, is_asked_for}
use Rattle.tide.specs.Threads.{HasCalled, HasDone, calling_of}
use Rattle.tide_server.specs.tide_model.declared.op.Op.TheVariants.{Collect, Drop}
use Rattle.tide_server.specs.tide_model.declared.op.Reply.{Reply}
use Rattle.tide_server.specs.tide_model.declared.op.Reply.TheVariants.{Asked}
use Rattle.tide.proofs.thread.Thread.collect.Goals as goal

pub returns-in_err-set : goal.returns-in_err-set
returns-in_err-set g c =
    let why = c.in_err-set.field-0.0 in
    let old = calling_of c.args.self.now in
    record {
      collected = inl (
        why,
        subst (λ (at : ℕ). HasDone old (calling_of c.set.new.self) (Drop at) (Err why)) c.scratch-at.ensures
            c.in_err-set.ensures.done,
        same_stop c.from_residual.result why c.from_residual.ensures.1,
      );
      stack = c.set.ensures.stack;
    }

pub returns-in_err-call : goal.returns-in_err-call
returns-in_err-call g c = absurd (collect_goes_on (calling_of c.set.new.self) (calling_of c.call.new.self)
    c.in_err-call.field-0.0 c.set.new.self.here c.in_err-call.ensures.called)

pub returns : goal.returns
returns g c =
    let old = calling_of c.args.self.now in
    let emptied = calling_of c.set.new.self in
    let asked = calling_of c.call.new.self in
    let reply = c.in_ok-call.field-0 in
    let at = c.scratch-at.ensures in
    let asks : HasCalled emptied asked Collect (Ok Asked) = subst (λ (r : Reply). HasCalled emptied asked Collect (Ok r))
    (is_asked_for emptied.own asked.own reply c.in_ok-call.ensures.called.0) c.in_ok-call.ensures.called in
    record {
      collected = inr (record {
        emptied = emptied;
        asked = asked;
        empties = subst (λ (at : ℕ). HasDone old emptied (Drop at) (Ok tt)) at c.in_ok-set.ensures.done;
        asks = asks;
        goes_on = subst (λ (at : ℕ). HasDone asked (calling_of c.set-2.new.self) (Drop at) c.set-2.result) at
            c.set-2.ensures.done;
        later = λ is. (done_later emptied asked (calling_of c.set-2.new.self) (Drop c.scratch-at.result) c.set-2.result
            asks c.set-2.ensures.done is).0;
        cycle = λ is. (done_later emptied asked (calling_of c.set-2.new.self) (Drop c.scratch-at.result) c.set-2.result
            asks c.set-2.ensures.done is).1;
      });
      stack = c.set-2.ensures.stack ∙ c.call.ensures.stack ∙ c.set.ensures.stack;
    }
