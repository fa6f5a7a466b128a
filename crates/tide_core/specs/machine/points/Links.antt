-- The point on links from black cells to unmarked ones, and who answers for them.
use Rattle.std.specs.Prelude.{ℕ, ◌≡◌, ◌<◌, false, List, length, ◌⊎◌, Option, None, Some, Contains}
use Rattle.tide_core.specs.machine.Scanning.{Place, slot, property, IsUnread, IsTrue}
use Rattle.tide_core.specs.declared.machine.view.Scan.{Scan}
use Rattle.tide_core.specs.declared.machine.view.View.{View}
use Rattle.tide_model.specs.History.{state_after}
use Rattle.tide_model.specs.Layout.{Layout}
use Rattle.tide_model.specs.References.{IsLive}
use Rattle.tide_model.specs.State.{State}
use Rattle.tide_model.specs.declared.entry.Event.{Event}
use Rattle.tide_model.specs.declared.val.Val.TheVariants.{Cell}
use Rattle.tide_words.specs.heap.Heap.{Heap}
use Rattle.tide_words.specs.marking.Colours.{IsBlack}
use Rattle.tide_words.specs.marking.Marked.{is_marked}
use Rattle.tide_core.specs.machine.Duties.{StillOwes}
use Rattle.tide_words.specs.tide_layout.declared.region.Region.TheVariants as region

-- a live cell holds the other at this place
abbrev pub LinkAt : State → ℕ → Place → ℕ → Type 0
LinkAt state source (slot n) cell = IsLive state source × ((state.cells source).slots n ≡ Cell cell)
LinkAt state source (property n) cell =
    IsLive state source × (n < length (state.cells source).keys) × ((state.cells source).properties n ≡ Cell cell)

-- A scan of the source answers for the link: while it may mark what it reads, it hasn't read the place yet, or has the
-- cell in its buffer. One that may not will make the source grey again.
abbrev pub ScanExcuses : Heap → ℕ → Place → ℕ → Option Scan → Type 0
ScanExcuses heap source place cell None = ⊥
ScanExcuses heap source place cell (Some scan) =
    (scan.cell ≡ source) × (IsTrue scan (heap region.Structure source) →
    ((scan.agreed ≡ false) × IsUnread scan place) ⊎ Contains scan.buffer cell)

-- the view answers for a link from a black cell to an unmarked one: it owes the barrier on the source still, or scans
-- it
abbrev pub Excuses : Heap → ℕ → Place → ℕ → View → Type 0
Excuses heap source place cell v = StillOwes heap v.duty source ⊎ ScanExcuses heap source place cell v.scan

-- some participant answers for the link
pub record IsExcused (heap : Heap) (part : ℕ → View) (source : ℕ) (place : Place) (cell : ℕ) : Type 0 where
  pub by : ℕ
  pub excuse : Excuses heap source place cell (part by)

-- a link from a black cell to an unmarked one stands only while someone answers for it, also where no cycle marks
pub record RunningBlackPointsToMarked (layout : Layout) (heap : Heap) (part : ℕ → View) (log : List Event)
    : Type 0 where
  pub excused : (source : ℕ) (place : Place) (cell : ℕ) →
      LinkAt (state_after layout log) source place cell → IsBlack heap source → is_marked heap cell ≡ false →
      IsExcused heap part source place cell
