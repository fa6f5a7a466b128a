-- At most one cell was marked for each place.
use Rattle.std.proofs.Common.{◌≤◌}
use Rattle.check_words.proofs.marking.runs.set_marks.Given as goal

abbrev pub invariant-loop-at : goal.invariant-loop-at
invariant-loop-at l = l.count ≤ l.at
