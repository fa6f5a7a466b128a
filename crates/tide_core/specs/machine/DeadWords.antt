-- Which words may differ from what the store has there, while a block is swept.
use Rattle.std.specs.Prelude.{ℕ, ◌≡◌}
use Rattle.tide_words.specs.tide_layout.Slots.{index_of_slot, index_of_element, HasSlot, HasElement}
use Rattle.tide_words.specs.tide_layout.declared.region.Region.{Region}
use Rattle.tide_words.specs.tide_layout.declared.region.Region.TheVariants as region
use Rattle.tide_model.specs.Layout.{Layout}
use Rattle.tide_model.specs.State.{State, dead}

-- the word may differ from what the store has there: it is of a dead cell or array, or it tells which are dead
abbrev pub IsOfDead : Layout → State → Region → ℕ → Type 0
IsOfDead layout state region.Structure cell = (state.cells cell).status ≡ dead
IsOfDead layout state region.Array cell = (state.cells cell).status ≡ dead
IsOfDead layout state region.Claim cell = (state.cells cell).status ≡ dead
IsOfDead layout state region.Group cell = (state.cells cell).status ≡ dead
IsOfDead layout state region.Slots index = (cell slot : ℕ) × HasSlot layout cell slot ×
    (index_of_slot layout cell slot ≡ index) × ((state.cells cell).status ≡ dead)
IsOfDead layout state region.Elements index = (array place : ℕ) × HasElement layout array place ×
    (index_of_element layout array place ≡ index) × (state.arrays array ≡ dead)
IsOfDead layout state region.Dead index = Unit {0}
IsOfDead layout state _ index = ⊥
