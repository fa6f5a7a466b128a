-- Publish stack: a visitor sets the bits of cells that it holds, in the shared grey word of their block.
use Rattle.std.specs.Int.{bit_at}
use Rattle.std.specs.Prelude.{ℕ, ◌≡◌, ◌+◌, ◌*◌, ◌%◌, ◌<◌, ◌==◌, ◌&&◌, not, filter, Contains}
use Rattle.tide_words.specs.tide_layout.Region.{cell_block_count}
use Rattle.tide_core.specs.machine.May.{RunsAsVisitor}
use Rattle.tide_core.specs.machine.World.{World}
use Rattle.tide_core.specs.declared.machine.view.View.{View}
use Rattle.tide_model.specs.Layout.{Layout, block_of_cell}

-- the visitor holds the cells no more whose bits it gave to the word of a block
abbrev pub published_view : ℕ → ℕ → View → View
published_view block mask v = record v {
  held = filter (λ cell. not ((block_of_cell cell == block) && (bit_at mask (cell % 64) == 1))) v.held;
}

-- each bit is of a cell that the visitor holds
pub record MayPublish (layout : Layout) (w : World) (me block mask : ℕ) : Type 0 where
  pub runner : RunsAsVisitor layout w me
  pub within : block < cell_block_count layout
  pub held : (k : ℕ) → k < 64 → bit_at mask k ≡ 1 → Contains (w.part me).held (64 * block + k)
