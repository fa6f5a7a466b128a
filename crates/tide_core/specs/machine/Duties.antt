-- What a view's duty and its growth say of a cell.
use Rattle.std.specs.Prelude.{ℕ, ◌≡◌, Bool, true, false}
use Rattle.tide_core.specs.declared.machine.view.Duty.{Duty}
use Rattle.tide_core.specs.declared.machine.view.Growth.{Growth}
use Rattle.tide_core.specs.declared.machine.view.View.{View}
use Rattle.tide_words.specs.tide_layout.declared.region.Region.TheVariants.{Colour}
use Rattle.tide_words.specs.heap.Heap.{Heap}
use Rattle.tide_core.specs.declared.machine.view.Duty.TheVariants as duty
use Rattle.tide_core.specs.declared.machine.view.Growth.TheVariants as growth

-- the barrier on the cell is owed, and the cell's colour isn't loaded yet
abbrev pub AwaitsLoad : Duty → ℕ → Type 0
AwaitsLoad (duty.Barrier c) cell = c ≡ cell
AwaitsLoad _ cell = ⊥

-- the barrier on the cell is owed, and makes it grey if it is black: its colour isn't loaded yet, or its word is still
-- the one that was loaded
abbrev pub StillOwes : Heap → Duty → ℕ → Type 0
StillOwes heap (duty.Barrier c) cell = c ≡ cell
StillOwes heap (duty.Regrey c word) cell = (c ≡ cell) × (heap Colour cell ≡ word)
StillOwes heap duty.Nothing cell = ⊥
StillOwes heap (duty.Push c) cell = ⊥
StillOwes heap (duty.Born c) cell = ⊥
StillOwes heap (duty.PushRace c) cell = ⊥

-- the colour of the cell, which was just taken, is owed
abbrev pub OwesColour : Duty → ℕ → Type 0
OwesColour (duty.Born c) cell = c ≡ cell
OwesColour _ cell = ⊥

-- a growth of the cell's array is under way
abbrev pub GrowsOn : Growth → ℕ → Type 0
GrowsOn growth.Nothing cell = ⊥
GrowsOn (growth.Filling c array old new) cell = c ≡ cell
GrowsOn (growth.Nuked c array old new) cell = c ≡ cell
GrowsOn (growth.Stored c array old new) cell = c ≡ cell

-- a growth is under way
abbrev pub is_growing : Growth → Bool
is_growing growth.Nothing = false
is_growing (growth.Filling cell array old new) = true
is_growing (growth.Nuked cell array old new) = true
is_growing (growth.Stored cell array old new) = true

-- the view grows the cell's array, and owes the barrier on the cell
pub record GrowsAndOwes (v : View) (cell : ℕ) : Type 0 where
  pub grows : GrowsOn v.growth cell
  pub owes : AwaitsLoad v.duty cell

-- the structure is nuked, in a growth
abbrev pub nuked_growth : Growth → Growth
nuked_growth (growth.Filling cell array old new) = growth.Nuked cell array old new
nuked_growth growth.Nothing = growth.Nothing
nuked_growth (growth.Nuked cell array old new) = growth.Nuked cell array old new
nuked_growth (growth.Stored cell array old new) = growth.Stored cell array old new

-- the array is stored, in a growth
abbrev pub stored_growth : Growth → Growth
stored_growth (growth.Nuked cell array old new) = growth.Stored cell array old new
stored_growth growth.Nothing = growth.Nothing
stored_growth (growth.Filling cell array old new) = growth.Filling cell array old new
stored_growth (growth.Stored cell array old new) = growth.Stored cell array old new
