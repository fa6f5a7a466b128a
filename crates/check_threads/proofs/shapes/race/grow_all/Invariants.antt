use Rattle.std.proofs.Common.{◌≡◌, ◌<◌, ◌^◌}
use Rattle.check_threads.proofs.shapes.race.grow_all.Given as goal

abbrev pub invariant-loop-turn : goal.invariant-loop-turn
invariant-loop-turn g l = (l.number < 1000) × (l.step < 2 ^ 32) × (l.grower.table ≡ l.table)
