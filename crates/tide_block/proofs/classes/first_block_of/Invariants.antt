-- What holds at each turn of the loop of `first_block_of`.
use Rattle.std.proofs.Common.{◌≡◌, ◌*◌, ◌≤◌}
use Rattle.tide_model.specs.Layout.{first_block_of}
use Rattle.tide_block.proofs.classes.first_block_of.Given as goal

abbrev pub invariant-loop-smaller : goal.invariant-loop-smaller
invariant-loop-smaller l = record {
  first : l.block ≡ first_block_of l.layout l.smaller;
  few : l.block ≤ 262144 * l.smaller;
}
