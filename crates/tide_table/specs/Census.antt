-- How many cells of each class live.
use Rattle.std.specs.Prelude.{ℕ, ◌+◌, ◌*◌, Bool}
use Rattle.tide_heap.specs.tide_block.Places.{first_cell_of}
use Rattle.tide_model.specs.Layout.{Layout, blocks_of}
use Rattle.tide_model.specs.Numbers.{count_where}
use Rattle.tide_model.specs.State.{State, is_live}

-- how many cells of a class pass a test: its cells lie in its blocks, 64 in each, from its first cell on
abbrev pub count_in_class : (ℕ → Bool) → Layout → ℕ → ℕ
count_in_class test layout class = count_where (λ at. test (first_cell_of layout class + at)) (64 * blocks_of layout class)

-- how many cells of a class live
abbrev pub live_in : Layout → State → ℕ → ℕ
live_in layout state class = count_in_class (λ cell. is_live (state.cells cell).status) layout class
