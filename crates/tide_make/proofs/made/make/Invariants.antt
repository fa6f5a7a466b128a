-- What the loop of made::make keeps: the scripts of the mutators before this one are there.
use Rattle.std.proofs.Common.{◌≡◌, map}
use Rattle.tide_make.specs.Made.{scripts_below}
use Rattle.tide_make.proofs.made.make.Given as goal

abbrev pub invariant-loop-mutator : goal.invariant-loop-mutator
invariant-loop-mutator l = map (λ ops. ops.items) l.scripts.items ≡ scripts_below l.number l.mutator
