-- What the loop of in_turn::calls_of_each keeps.
use Rattle.std.proofs.Common.{◌≡◌, map}
use Rattle.tide_periods.proofs.in_turn.calls_of_each.Given as goal

abbrev pub invariant-loop-cursor : goal.invariant-loop-cursor
invariant-loop-cursor l = map (λ own. own.items) l.calls.items ≡ map (λ cursor. cursor.calls.items) l.yielded
