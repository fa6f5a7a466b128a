-- What the loop of on_threads::calls_of_each keeps.
use Rattle.std.proofs.Common.{◌≡◌, map}
use Rattle.tide_threads.specs.Acting.{cursors_in}
use Rattle.tide_threads.proofs.on_threads.calls_of_each.Given as goal

abbrev pub invariant-loop-padded : goal.invariant-loop-padded
invariant-loop-padded l = map (λ own. own.items) l.calls.items ≡ map (λ cursor. cursor.calls.items) (cursors_in l.yielded)
