-- It is who is asked that does it.
use Rattle.std.proofs.Common.{◌≡◌, ◌∙◌, refl, sym}
use Rattle.tide_c.proofs.Answered.{again_is_told, done_is_told, else_is_untold, none_is_said, one_is_said}
use Rattle.tide_c.proofs.Exported.{by_member}
use Rattle.tide_c.specs.Calls.{HasAnswered, told_by}
use Rattle.tide_c.specs.Operations.{said}
use Rattle.tide_c.specs.declared.status.Status.TheVariants.{Operation}
use Rattle.tide_c.proofs.party.Party.call.Goals as goal
use Rattle.tide_c.proofs.party.Party.call.Goals.{then-eq-via-then-eq, then-eq-via-else-eq+then-eq-2}

pub returns-in_default-read-clause-called : goal.returns-in_default-read-clause-called
returns-in_default-read-clause-called c =
    by_member (HasAnswered c.args.operation c.args.answer.now c.args.answer.now) c.args.self.now _ c.in-Member.member
    c.in-Member.member Operation c.in-Member.is refl
    (none_is_said c.args.operation c.args.answer.now c.in-Member.member (sym c.read.ensures.said ∙ c.in_default-read.is))

pub returns-then-eq-clause-called : goal.returns-then-eq-clause-called
returns-then-eq-clause-called c =
    let status = c.call-status.result in let reply = c.call-status.new.reply in let before = c.args.answer.now in
    let told : told_by status reply before ≡ said reply = elim c.then-eq.branch [
      | then-eq-via-then-eq w ↦ done_is_told status reply before (sym c.eq.ensures ∙ w.if-eq.true)
      | then-eq-via-else-eq+then-eq-2 w ↦ again_is_told status reply before (sym w.eq-else-eq.ensures ∙ w.if-eq-2.true)
    ] in
    by_member (HasAnswered c.args.operation c.args.answer.now c.of.result) c.args.self.now _ c.in-Member.member
    c.call-status.new.self c.call-status.result c.in-Member.is refl
    (one_is_said c.args.operation c.args.answer.now c.of.result c.in-Member.member c.call-status.new.self c.in-Some.op
    c.call-status.new.reply c.call-status.result (sym c.read.ensures.said ∙ c.in-Some.is) c.call-status.ensures.called
    (c.of.ensures ∙ sym told))

pub returns-else-eq-2-clause-called : goal.returns-else-eq-2-clause-called
returns-else-eq-2-clause-called c =
    by_member (HasAnswered c.args.operation c.args.answer.now c.args.answer.now) c.args.self.now _ c.in-Member.member
    c.call-status.new.self c.call-status.result c.in-Member.is refl
    (one_is_said c.args.operation c.args.answer.now c.args.answer.now c.in-Member.member c.call-status.new.self c.in-Some.op
    c.call-status.new.reply c.call-status.result (sym c.read.ensures.said ∙ c.in-Some.is) c.call-status.ensures.called
    (sym (else_is_untold c.call-status.result c.call-status.new.reply c.args.answer.now (sym c.eq.ensures ∙ c.if-eq.false)
    (sym c.eq-else-eq.ensures ∙ c.if-eq-2.false))))
