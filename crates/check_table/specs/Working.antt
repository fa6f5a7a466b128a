-- The layouts of these parts, and what a look leaves.
use Rattle.std.specs.Prelude.{ℕ, ◌≡◌, ◌<◌}
use Rattle.tide_heap.specs.tide_layout.Slots.{HasSlot}
use Rattle.tide_heap.specs.tide_core.declared.machine.view.View.{View}
use Rattle.tide_model.specs.Layout.{Layout}

-- the layout has all that a mutator of these parts steps on
pub record HasAll (layout : Layout) : Type 0 where
  pub registers : 0 < layout.registers
  pub strong : 0 < layout.strong
  pub weak : 0 < layout.weak
  pub slot : HasSlot layout 0 0

-- the layout has two mutators and no visitors, and all that these mutators step on
pub record IsSmall (layout : Layout) : Type 0 where
  pub two : layout.mutators ≡ 2
  pub no_visitors : layout.visitors ≡ 0
  pub has : HasAll layout

-- nothing changed but the word that its last step found
pub record HasLooked (v u : View) : Type 0 where
  pub found : ℕ
  pub is : u ≡ record v { found = found }
