-- What contracts see of a store that a run stands on.
use Rattle.std.specs.Prelude.{ℕ}
use Rattle.tide_model.specs.Layout.{Layout}
use Rattle.tide_model.specs.Refused.{ShapeLists}
use Rattle.tide_layout.specs.Region.{block_count}

-- what never changes of a store
pub record Setting : Type 0 where
  pub layout : Layout
  pub shapes : ShapeLists

-- how many blocks there are: those of cells, and then those of arrays
abbrev pub blocks_in : Setting → ℕ
blocks_in setting = block_count setting.layout
