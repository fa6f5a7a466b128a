-- The numbers that were counted and summed are those of the history.
use Rattle.std.proofs.Common.{ℕ, ◌+◌, ◌*◌, ◌≤◌, ◌<◌, ◌∙◌, ap, arith, List}
use Rattle.std.specs.Prelude.{slice_index}
use Rattle.tide.proofs.Counting.{few_live}
use Rattle.tide_server.specs.Keepers.{view_of}
use Rattle.tide_server.specs.tide_heap.tide_layout.Region.{word_count}
use Rattle.tide_server.specs.tide_model.History.{state_after}
use Rattle.tide_server.specs.tide_model.Layout.{Layout, blocks_of}
use Rattle.tide_server.specs.tide_table.tide_statistics.declared.sums.CycleSums.{CycleSums}
use Rattle.tide.proofs.host.sum_up.Goals as goal

-- no more cells of a class live than it has
pub gather-requires : goal.gather-requires
gather-requires c = record { within = λ class below. within class below }
  where
    within : (class : ℕ) → class < 5 → slice_index c.live_cells-live.result class
        ≤ 64 * blocks_of c.layout.result.now class
    within class below =
        let layout = c.args.standing.now.heap.key.layout in
        let live = c.live_cells-live.ensures.live class below in
        let few = few_live layout (state_after layout (view_of c.args.keeper.now).seen) class in
        let same = ap (λ (l : Layout). 64 * blocks_of l class) c.layout.ensures in
        omega (arith, live, few, same)

pub returns-clause-told : goal.returns-clause-told
returns-clause-told c =
    let counts = c.requires.counted in
    let told = c.gather.ensures in
    let gathered = told.counted in
    let sums = c.sums.ensures ∙ c.live_cells-live.ensures.sums.0 in
    let summed = c.requires.finished.summed in
    record {
      parts = gathered.parts ∙ counts.parts;
      full_cycles = gathered.full_cycles ∙ ap (λ (s : CycleSums). s.full_cycles) sums ∙ summed.full_cycles;
      eden_cycles = gathered.eden_cycles ∙ ap (λ (s : CycleSums). s.eden_cycles) sums ∙ summed.eden_cycles;
      paused = gathered.paused ∙ ap (λ (s : CycleSums). s.paused) sums ∙ summed.paused;
      visited = gathered.visited ∙ ap (λ (s : CycleSums). s.visited) sums ∙ summed.visited;
      born = gathered.born ∙ ap (λ (s : CycleSums). s.born) sums ∙ summed.born;
      freed = gathered.freed ∙ counts.freed;
      kept = gathered.kept ∙ counts.kept;
      live = λ class below. ap (λ (l : List ℕ). slice_index l class) told.live ∙ c.live_cells-live.ensures.live class below;
      free = λ class below. ap (λ (l : List ℕ). slice_index l class + slice_index c.gather.result.free class) told.live
          ∙ told.free class below ∙ ap (λ (l : Layout). 64 * blocks_of l class) c.layout.ensures;
      bytes = told.bytes ∙ ap (λ (l : Layout). 8 * word_count l) c.layout.ensures;
    }
