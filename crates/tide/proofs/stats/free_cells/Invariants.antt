-- The free cells of the classes so far are told.
use Rattle.std.proofs.Common.{ℕ, ◌≡◌, ◌+◌, ◌*◌, ◌<◌, length, slice_index}
use Rattle.tide_server.specs.tide_model.Layout.{blocks_of}
use Rattle.tide.proofs.stats.free_cells.Given as goal

abbrev pub invariant-loop-class : goal.invariant-loop-class
invariant-loop-class l = record {
  long : length l.free ≡ 5;
  told : (k : ℕ) → k < l.class → slice_index l.live k + slice_index l.free k ≡ 64 * blocks_of l.layout k;
}
