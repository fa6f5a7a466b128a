use Rattle.std.proofs.Common.{◌≡◌, All, length}
use Rattle.check_threads.proofs.shapes.race.growers_of.Given as goal

abbrev pub invariant-loop-place : goal.invariant-loop-place
invariant-loop-place l = All (λ grower. grower.table ≡ l.table) l.growers.items × (length l.growers.items ≡ l._place)
