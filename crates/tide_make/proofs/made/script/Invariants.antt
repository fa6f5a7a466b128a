-- What the loop of made::script keeps: the rounds before this one are there, and as much was drawn.
use Rattle.std.proofs.Common.{◌≡◌}
use Rattle.tide_make.specs.Made.{rounds_of}
use Rattle.tide_make.specs.Rounds.{seed_after}
use Rattle.tide_make.proofs.made.script.Given as goal

abbrev pub invariant-loop-round : goal.invariant-loop-round
invariant-loop-round l = record {
  ops : l.ops.items ≡ rounds_of l.number l.mutator l.round;
  seed : l.seed ≡ seed_after l.number l.mutator l.round;
}
