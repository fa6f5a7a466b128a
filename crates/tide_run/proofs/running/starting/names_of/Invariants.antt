-- What the loops of starting::names_of keep.
use Rattle.std.proofs.Common.{◌≡◌, map, take}
use Rattle.tide_run.proofs.running.starting.names_of.Given as goal

abbrev pub invariant-loop-key : goal.invariant-loop-key
invariant-loop-key l = map (λ name. name.items) l.names.items ≡ take l.key l.load.keys
