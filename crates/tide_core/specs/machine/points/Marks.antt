-- Points on marked cells: that the cycle retains them, that what stood in the cycle is live, and how many are black.
use Rattle.std.specs.Prelude.{ℕ, ◌≡◌, ◌+◌, ◌<◌, ◌≤◌, true, List, ◌==◌, Some, Contains, if◌then◌else◌}
use Rattle.tide_core.specs.wave.FrozenWave.{blackened_count}
use Rattle.tide_core.specs.machine.Scanning.{IsTrue}
use Rattle.tide_core.specs.machine.World.{total}
use Rattle.tide_core.specs.declared.machine.view.Scan.{Scan}
use Rattle.tide_core.specs.declared.machine.view.View.{View}
use Rattle.tide_model.specs.Cycle.{cycle_span}
use Rattle.tide_model.specs.Graph.{IsRetained}
use Rattle.tide_model.specs.History.{state_after, is_begin}
use Rattle.tide_model.specs.Layout.{Layout, cell_count}
use Rattle.tide_model.specs.References.{IsLive}
use Rattle.tide_model.specs.Since.{visits_since}
use Rattle.tide_model.specs.declared.entry.Event.{Event}
use Rattle.tide_words.specs.heap.Heap.{Heap}
use Rattle.tide_words.specs.marking.Colours.{is_marking, IsMarked, IsStamped}
use Rattle.tide_model.specs.Old.{IsSpared}
use Rattle.tide_words.specs.tide_layout.declared.region.Region.TheVariants as region

-- what stood at some moment of the cycle that marks retains each marked cell, together with the old cells where it is
-- an Eden cycle; and so what a scan will mark
pub record RunningMarkedIsRetained (layout : Layout) (heap : Heap) (part : ℕ → View) (log : List Event) : Type 0 where
  pub marked : is_marking heap ≡ true → (cell : ℕ) → cell < cell_count layout → IsMarked heap cell →
      IsRetained (cycle_span layout log) (IsSpared layout log) cell
  -- a scanned cell got its colour in the running cycle, since a visitor made it black
  pub scanned : (p : ℕ) (scan : Scan) → (part p).scan ≡ Some scan → IsStamped heap scan.cell
  pub buffered : (p cell : ℕ) (scan : Scan) → (part p).scan ≡ Some scan → Contains scan.buffer cell →
      IsTrue scan (heap region.Structure scan.cell) → (cycle_span layout log).link scan.cell cell

-- what stood at some moment of the cycle that marks names only cells that are live now
pub record SpanIsLive (layout : Layout) (heap : Heap) (log : List Event) : Type 0 where
  pub roots : is_marking heap ≡ true → (cell : ℕ) → (cycle_span layout log).root cell →
      IsLive (state_after layout log) cell
  pub links : is_marking heap ≡ true → (source cell : ℕ) → (cycle_span layout log).link source cell →
      IsLive (state_after layout log) source × IsLive (state_after layout log) cell
  pub triples : is_marking heap ≡ true → (table key cell : ℕ) → (cycle_span layout log).triple table key cell →
      IsLive (state_after layout log) cell
  pub group_mates : is_marking heap ≡ true → (one other : ℕ) → (cycle_span layout log).group_mate one other →
      IsLive (state_after layout log) one × IsLive (state_after layout log) other

-- the visits of a view that began in the part with this number
abbrev pub counted_in : ℕ → View → ℕ
counted_in period v = if v.begun == period then v.visits else 0

-- the black cells that weren't born in the cycle nor are spared by it are at most as many as visits were entered and
-- are counted by views
pub record RunningBlackIsCounted (layout : Layout) (heap : Heap) (part : ℕ → View) (log : List Event) : Type 0 where
  pub counted : is_marking heap ≡ true →
      blackened_count layout heap log ≤ visits_since is_begin log + total (counted_in (heap region.Period 0)) part
