-- The status tells whether all was printed, or the sink failed.
use Rattle.std.proofs.Common.{arith, inl, inr, refl}
use Rattle.std.proofs.KnownBytes.{Keeps-refl}
use Rattle.tide_run.proofs.program.print.Goals as goal

pub returns-in-Ok : goal.returns-in-Ok
returns-in-Ok g c = record {
  status = inl refl;
  outcome = refl;
  printed = λ _. c.in-Ok.ensures.whole;
  part = λ is. absurd (omega (arith, is));
  handed_on = λ _. c.in-Ok.ensures.handed_on;
  write_fault = λ is. absurd (omega (arith, is));
  quiet = λ _. Keeps-refl (g.E.Sink.held c.args.err.now);
  told = λ not_whole. absurd (not_whole refl);
  later_out = c.print_run.ensures.cause.later;
  later_err = omega arith;
}

pub returns : goal.returns
returns g c = record {
  status = inr refl;
  outcome = refl;
  printed = λ is. absurd (omega (arith, is));
  part = λ _. c.in-Err.ensures.part;
  handed_on = λ is. absurd (omega (arith, is));
  write_fault = λ _. c.in-Err.ensures.cause.failed;
  quiet = λ is. absurd (omega (arith, is));
  told = λ _. c.tell.ensures;
  later_out = c.print_run.ensures.cause.later;
  later_err = c.tell.ensures.later;
}
