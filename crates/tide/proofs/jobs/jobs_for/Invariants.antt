-- Those that came so far have a job.
use Rattle.std.proofs.Common.{◌≡◌}
use Rattle.std.specs.Prelude.{None, Some, map}
use Rattle.tide.proofs.jobs.jobs_for.Given as goal

abbrev pub invariant-loop-member : goal.invariant-loop-member
invariant-loop-member g l = l.jobs.items ≡ map (λ m. record { member = Some m; answer = None }) l.yielded
