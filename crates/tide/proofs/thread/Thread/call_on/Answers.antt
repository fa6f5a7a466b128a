-- A claim comes before what is done, and its end behind it.
use Rattle.std.proofs.Common.{inl, inr}
use Rattle.tide.proofs.Passed.{same_stop}
use Rattle.tide.specs.Threads.{calling_of}
use Rattle.tide.proofs.thread.Thread.call_on.Goals as goal

pub returns-in_err-claimed-clause-done : goal.returns-in_err-claimed-clause-done
returns-in_err-claimed-clause-done g c =
    let why = c.in_err-claimed.field-0.0 in
    inl (why, c.in_err-claimed.ensures.claims, same_stop c.from_residual.result why c.from_residual.ensures.1)

pub returns-clause-done : goal.returns-clause-done
returns-clause-done g c = inr (record {
  claimed = c.in_ok-claimed.claimed;
  from = calling_of c.claim.new.self;
  to = calling_of c.call-answer.new.self;
  claims = c.in_ok-claimed.ensures.claims;
  done = c.call-answer.ensures.called;
  releases = c.release.ensures.releases;
})
