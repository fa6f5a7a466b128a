use Rattle.std.proofs.Common.{◌≡◌, ◌≤◌, ◌<◌, ◌-◌, ℕ, true, false, get_or}
use Rattle.tide_plain.proofs.parts.taken.Taken.lowest_free.Given as goal

abbrev pub invariant-loop-number : goal.invariant-loop-number
invariant-loop-number l = record {
  after : l.first ≤ l.number;
  taken : (other : ℕ) → l.first ≤ other → other < l.number → get_or l.self-inside.flags.items other false ≡ true;
}

abbrev pub decreases-loop-number : goal.decreases-loop-number
decreases-loop-number l = l.end - l.number
