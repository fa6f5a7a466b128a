-- How large a layout may be.
use Rattle.std.specs.Prelude.{ℕ, ◌≡◌, ◌≤◌, List, length, slice_index}
use Rattle.tide_model.specs.Layout.{Layout, blocks_of}

-- how many blocks a class has at most: with all else at its limit too, the place of each word stays below 2^32
abbrev pub most_blocks : ℕ
most_blocks = 262144

-- how many cells, or arrays, five such classes have
abbrev pub most_cells : ℕ
most_cells = 83886080

-- how many words a heap has at most: those of a layout with each number at its limit
abbrev pub most_words : ℕ
most_words = 3149272505

-- each of these classes has few blocks
abbrev pub HasFewBlocks : List ℕ → Type 0
HasFewBlocks blocks = (class : ℕ) → slice_index blocks class ≤ most_blocks

-- each number of the layout is in its limit; none but the numbers of classes is asked to be more than 0
pub record IsWithinLimits (layout : Layout) : Type 0 where
  pub five_cell_classes : length layout.cell_blocks ≡ 5
  pub five_array_classes : length layout.array_blocks ≡ 5
  pub few_blocks : (class : ℕ) → blocks_of layout class ≤ most_blocks
  pub few_registers : layout.registers ≤ 250
  pub few_strong : layout.strong ≤ 65535
  pub few_weak : layout.weak ≤ 65535
  pub few_mutators : layout.mutators ≤ 16
  pub few_visitors : layout.visitors ≤ 8
