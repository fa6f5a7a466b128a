-- What the numbers of a run say of its history.
use Rattle.std.specs.Prelude.{ℕ, ◌≡◌, ◌+◌, ◌*◌, ◌<◌, List, length, min, slice_index}
use Rattle.tide.specs.Counted.{kept_after}
use Rattle.tide.specs.declared.stats.Stats.{Stats}
use Rattle.tide.specs.declared.stats.Tally.{Tally}
use Rattle.tide_server.specs.tide_heap.tide_layout.Region.{word_count}
use Rattle.tide_server.specs.tide_model.History.{state_after}
use Rattle.tide_server.specs.tide_model.Layout.{Layout, blocks_of}
use Rattle.tide_server.specs.tide_model.Periods.{open_count}
use Rattle.tide_server.specs.tide_model.declared.entry.Event.{Event}
use Rattle.tide_server.specs.tide_report.Ends.{all_freed, ends_in}
use Rattle.tide_server.specs.tide_table.Census.{live_in}
use Rattle.tide_server.specs.tide_table.tide_statistics.Sums.{all_born, all_paused, all_visited, eden_cycles_in, full_cycles_in, most}
use Rattle.tide_server.specs.tide_table.tide_statistics.declared.sums.CycleSums.{CycleSums}

-- The numbers are those of a history, each as far as 64 bits go: of its parts, of the full and the Eden cycles that
-- ended in it, of the cells that by its entries its pauses and its visitors made black, of its births, and of the cells
-- that its cycles freed; how many cells the last cycle kept; how many of each class live in the state behind it, and how
-- many others there are, which are free where nothing is dead; and how many bytes the heap's words take.
pub record TellsRun (layout : Layout) (seen : List Event) (stats : Stats) : Type 0 where
  pub parts : stats.parts ≡ min (open_count seen) most
  pub full_cycles : stats.full_cycles ≡ min (full_cycles_in seen) most
  pub eden_cycles : stats.eden_cycles ≡ min (eden_cycles_in seen) most
  pub paused : stats.paused ≡ min (all_paused seen) most
  pub visited : stats.visited ≡ min (all_visited seen) most
  pub born : stats.born ≡ min (all_born seen) most
  pub freed : stats.freed ≡ min (length (all_freed (ends_in layout seen))) most
  pub kept : stats.kept ≡ kept_after 0 (ends_in layout seen)
  pub live : (class : ℕ) → class < 5 → slice_index stats.live class ≡ live_in layout (state_after layout seen) class
  pub free : (class : ℕ) → class < 5 →
      slice_index stats.live class + slice_index stats.free class ≡ 64 * blocks_of layout class
  pub bytes : stats.bytes ≡ 8 * word_count layout

-- the numbers are those that were counted behind turns, and those of the keeper's sums
pub record HasGathered (tally : Tally) (sums : CycleSums) (stats : Stats) : Type 0 where
  pub parts : stats.parts ≡ tally.parts
  pub full_cycles : stats.full_cycles ≡ sums.full_cycles
  pub eden_cycles : stats.eden_cycles ≡ sums.eden_cycles
  pub paused : stats.paused ≡ sums.paused
  pub visited : stats.visited ≡ sums.visited
  pub born : stats.born ≡ sums.born
  pub freed : stats.freed ≡ tally.freed
  pub kept : stats.kept ≡ tally.kept
