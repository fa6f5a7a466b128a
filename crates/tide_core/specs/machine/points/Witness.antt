-- The point on what is left for the visitors: while none of them has made a cell black, one of them has a grey cell to
-- meet.
use Rattle.std.specs.Int.{bit_at}
use Rattle.std.specs.Prelude.{ℕ, ◌≡◌, ◌≢◌, ◌%◌, ◌+◌, ◌<◌, ◌≤◌, ◌⊎◌, true, Contains}
use Rattle.tide_words.specs.tide_layout.declared.region.Region.TheVariants as region
use Rattle.tide_core.specs.machine.World.{first_visitor}
use Rattle.tide_core.specs.declared.machine.view.Round.{Round}
use Rattle.tide_core.specs.declared.machine.view.View.{View}
use Rattle.tide_core.specs.machine.points.Marks.{counted_in}
use Rattle.tide_model.specs.Layout.{Layout, block_of_cell, cell_count}
use Rattle.tide_words.specs.heap.Heap.{Heap}
use Rattle.tide_words.specs.marking.Colours.{is_marking, IsGrey}

-- the participant is a visitor of the layout
abbrev pub IsVisitor : Layout → ℕ → Type 0
IsVisitor layout p = (first_visitor ≤ p) × (p < first_visitor + layout.visitors)

-- the shared grey word of a block, as a round names it
abbrev pub shared_round : ℕ → Round
shared_round block = record { region = region.GreyShared; block = block }

-- in its round the view hasn't found the shared grey word of the block 0
abbrev pub LacksShared : View → ℕ → Type 0
LacksShared v block = Contains v.round (shared_round block) → ⊥

-- The cell is left for this view: its bit stands in its shared grey word, and the view hasn't begun in the open part or
-- hasn't found that word 0; or the view holds the cell, and hasn't found that word 0.
pub data IsLeftFor (heap : Heap) (v : View) (cell : ℕ) : Type 0 where
  in_word : bit_at (heap region.GreyShared (block_of_cell cell)) (cell % 64) ≡ 1 →
      (v.begun ≢ heap region.Period 0) ⊎ LacksShared v (block_of_cell cell) → IsLeftFor heap v cell
  in_hand : Contains v.held cell → LacksShared v (block_of_cell cell) → IsLeftFor heap v cell

-- a grey cell that is left for some visitor
pub record IsLeft (layout : Layout) (heap : Heap) (part : ℕ → View) : Type 0 where
  pub cell : ℕ
  pub within : cell < cell_count layout
  pub grey : IsGrey heap cell
  pub who : ℕ
  pub is_visitor : IsVisitor layout who
  pub left : IsLeftFor heap (part who) cell

-- while a cycle marks and no visitor counts a cell that it made black in the open part, there is one
abbrev pub GreyIsLeft : Layout → Heap → (ℕ → View) → Type 0
GreyIsLeft layout heap part =
    is_marking heap ≡ true → 0 < layout.visitors →
    ((p : ℕ) → IsVisitor layout p → counted_in (heap region.Period 0) (part p) ≡ 0) → IsLeft layout heap part
