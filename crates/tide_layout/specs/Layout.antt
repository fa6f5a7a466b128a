-- What a layout's fields say.
use Rattle.std.specs.Prelude.{ℕ, ◌≡◌, List, map, sum_by, take}
use Rattle.std.specs.List.{range_with_len}
use Rattle.tide_model.specs.Layout.{Layout, array_count, cell_count}
use Rattle.tide_layout.specs.declared.firsts.Firsts.{Firsts}
use Rattle.tide_layout.specs.Firsts.{firsts_of}
use Rattle.tide_layout.specs.declared.numbers.Numbers.{Numbers}
use Rattle.tide_layout.specs.Limits.{IsWithinLimits}
use Rattle.tide_layout.specs.Region.{regions, room_of}

-- the plain numbers of a layout
abbrev pub layout_of : Numbers → Layout
layout_of numbers = record {
  cell_blocks = numbers.cell_blocks;
  array_blocks = numbers.array_blocks;
  registers = numbers.registers;
  strong = numbers.strong;
  weak = numbers.weak;
  mutators = numbers.mutators;
  visitors = numbers.visitors;
}

-- where each region begins, and last where all of them end
unfoldable pub starts_of : Layout → List ℕ
starts_of layout = map (λ count. sum_by (room_of layout) (take count regions)) (range_with_len 0 23)

-- a layout in its limits, with the starts of its regions, the numbers of its cells and arrays and where each of their
-- classes begins
pub record IsLaidOut (layout : Layout) (starts : List ℕ) (cells arrays : ℕ) (cell_firsts array_firsts : Firsts) : Type 0 where
  pub limits : IsWithinLimits layout
  pub begins : starts ≡ starts_of layout
  pub all_cells : cells ≡ cell_count layout
  pub all_arrays : arrays ≡ array_count layout
  pub of_cells : cell_firsts ≡ firsts_of layout.cell_blocks 0
  pub of_arrays : array_firsts ≡ firsts_of layout.array_blocks 5
