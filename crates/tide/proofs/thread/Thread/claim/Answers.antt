-- What is answered tells whether the claim was made.
use Rattle.std.proofs.Common.{ℕ, ◌∙◌, ap, inr, sym}
use Rattle.std.specs.Prelude.{Err, Ok}
use Rattle.tide.proofs.Passed.{same_stop}
use Rattle.tide.specs.Keyed.{claimed_by}
use Rattle.tide.proofs.thread.Thread.claim.Goals as goal

pub returns-in_err-call-clause-claims : goal.returns-in_err-call-clause-claims
returns-in_err-call-clause-claims g c =
    let why = c.in_err-call.field-0.0 in
    inr (
      λ is. c.if-src-scratch.false (is ∙ sym c.scratch.ensures),
      Err why,
      c.in_err-call.ensures.called,
      same_stop c.from_residual.result why c.from_residual.ensures.1,
    )

pub returns-clause-claims : goal.returns-clause-claims
returns-clause-claims g c =
    let reply = c.in_ok-call.field-0 in
    inr (
      λ is. c.if-src-scratch.false (is ∙ sym c.scratch.ensures),
      Ok reply,
      c.in_ok-call.ensures.called,
      c.claimed.ensures ∙ ap (λ (who : ℕ). claimed_by who reply) c.number-who.ensures,
    )
