-- Points on who holds grey cells.
use Rattle.std.specs.Prelude.{ℕ, ◌≡◌, ◌+◌, ◌<◌, false, [], None, if◌then◌else◌}
use Rattle.tide_core.specs.machine.World.{World, total, holds}
use Rattle.tide_core.specs.declared.machine.view.View.{View}
use Rattle.tide_model.specs.Layout.{Layout, cell_count}
use Rattle.tide_words.specs.heap.Heap.{Heap}
use Rattle.tide_words.specs.marking.Colours.{is_marking, is_grey, IsGrey}
use Rattle.tide_words.specs.marking.Marking.{bits_of}

-- a cell is grey exactly where it has a holder, and then it has one: a bit of a grey word, or a view
pub record RunningGreyIsHeld (layout : Layout) (heap : Heap) (part : ℕ → View) : Type 0 where
  pub held : (cell : ℕ) → cell < cell_count layout →
      bits_of heap cell + total (holds cell) part ≡ (if is_grey heap cell then 1 else 0)

-- where no cycle marks, nobody holds a cell or scans
pub record RestsWhereIdle (heap : Heap) (part : ℕ → View) : Type 0 where
  pub held : is_marking heap ≡ false → (p : ℕ) → (part p).held ≡ []
  pub scans : is_marking heap ≡ false → (p : ℕ) → (part p).scan ≡ None

-- the cell is grey and has one holder: a bit of a grey word, or a view
pub record IsHeldGrey (w : World) (cell : ℕ) : Type 0 where
  pub grey : IsGrey w.heap cell
  pub held : bits_of w.heap cell + total (holds cell) w.part ≡ 1
