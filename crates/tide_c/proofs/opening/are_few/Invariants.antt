-- The classes that came so far have few blocks.
use Rattle.std.proofs.Common.{ℕ, ◌<◌, ◌≤◌}
use Rattle.std.specs.Prelude.{slice_index}
use Rattle.tide.specs.tide_layout.Limits.{most_blocks}
use Rattle.tide_c.proofs.opening.are_few.Given as goal

abbrev pub invariant-loop-class : goal.invariant-loop-class
invariant-loop-class l = (class : ℕ) → class < l.class → slice_index l.fn.blocks class ≤ most_blocks
