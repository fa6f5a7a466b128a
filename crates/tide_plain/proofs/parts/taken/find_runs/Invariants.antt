use Rattle.std.proofs.Common.{◌≡◌, ◌≤◌, ◌<◌, ◌*◌, ℕ, true, false, get_or}
use Rattle.tide_plain.proofs.parts.taken.find_runs.Given as goal

abbrev pub invariant-loop-span : goal.invariant-loop-span
invariant-loop-span l = (span number : ℕ) → span < l.span → 64 * span ≤ number → number < get_or l.runs span 0 → get_or l.flags number false ≡ true
