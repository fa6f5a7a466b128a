-- It is added where its key was absent, and only there.
use Rattle.std.proofs.Common.{ap, inl, inr, subst, sym, true≢false}
use Rattle.std.specs.Prelude.{Ok, Result, is_ok}
use Rattle.tide.proofs.Passed.{same_reply, same_stop}
use Rattle.tide.specs.Keyed.{SetsOrAdds}
use Rattle.tide.specs.Threads.{HasCalled, calling_of}
use Rattle.tide.specs.declared.stop.Stop.{Stop}
use Rattle.tide_server.specs.tide_model.declared.op.Op.TheVariants.{SetProp}
use Rattle.tide_server.specs.tide_model.declared.op.Reply.{Reply}
use Rattle.tide.proofs.thread.Thread.set_or_add.Goals as goal

pub returns-in_err-reply-clause-done : goal.returns-in_err-reply-clause-done
returns-in_err-reply-clause-done g c =
    let why = c.in_err-reply.field-0.0 in
    subst (λ (r : Result Reply Stop). SetsOrAdds c.args.src c.args.key c.args.val (calling_of c.args.self.now)
    (calling_of c.call.new.self) r) (sym (same_stop c.from_residual.result why c.from_residual.ensures.1))
    (inl (c.in_err-reply.ensures.called, λ is. true≢false (sym (ap is_ok is))))

pub returns-then-is_absent-clause-done : goal.returns-then-is_absent-clause-done
returns-then-is_absent-clause-done g c =
    inr (
      calling_of c.call.new.self,
      subst (λ (r : Reply). HasCalled (calling_of c.args.self.now)
          (calling_of c.call.new.self) (SetProp c.args.src c.args.key c.args.val) (Ok r))
          (c.is_absent.ensures.absent c.if-is_absent.true) c.in_ok-reply.ensures.called,
      c.call-then-is_absent.ensures.called,
    )

pub returns-clause-done : goal.returns-clause-done
returns-clause-done g c =
    inl (c.in_ok-reply.ensures.called, λ is. c.is_absent.ensures.other c.if-is_absent.false (same_reply _ _ is))
