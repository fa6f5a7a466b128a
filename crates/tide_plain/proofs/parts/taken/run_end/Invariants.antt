use Rattle.std.proofs.Common.{◌≡◌, ◌≤◌, ◌<◌, ◌-◌, ℕ, true, false, get_or}
use Rattle.tide_plain.proofs.parts.taken.run_end.Given as goal

abbrev pub invariant-loop-number : goal.invariant-loop-number
invariant-loop-number l = record {
  after : l.from ≤ l.number;
  taken : (other : ℕ) → l.from ≤ other → other < l.number → get_or l.flags other false ≡ true;
}

abbrev pub decreases-loop-number : goal.decreases-loop-number
decreases-loop-number l = l.end - l.number
