-- What the loop of on_threads::deferred_by keeps.
use Rattle.std.proofs.Common.{◌≡◌, ◌-◌, ◌^◌, take}
use Rattle.std.specs.Prelude.{min}
use Rattle.tide_threads.specs.Acting.{races_in}
use Rattle.tide_threads.proofs.on_threads.deferred_by.Given as goal

abbrev pub invariant-loop-padded : goal.invariant-loop-padded
invariant-loop-padded l = l.deferred ≡ min (races_in (take l.padded-index l.participants)) (2 ^ 64 - 1)
