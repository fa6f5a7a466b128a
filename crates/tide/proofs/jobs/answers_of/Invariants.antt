-- The answers of the jobs that came so far are kept, and there is room for the others.
use Rattle.std.proofs.Common.{◌≡◌, ◌+◌, ◌≤◌, length}
use Rattle.std.specs.Prelude.{All, IsSome, Some, map, vec_capacity}
use Rattle.std.specs.Vec.Iter.{into_iter_items}
use Rattle.tide.proofs.jobs.answers_of.Given as goal

abbrev pub invariant-loop-job : goal.invariant-loop-job
invariant-loop-job g l = record {
  kept : map (λ answer. Some answer) l.answers.items ≡ map (λ job. job.answer) l.yielded;
  room : length l.answers.items + length (into_iter_items l.job-iterator) ≤ vec_capacity l.answers;
  each : All (λ job. IsSome job.answer) (into_iter_items l.job-iterator);
}
