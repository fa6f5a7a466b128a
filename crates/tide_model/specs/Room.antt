-- When an allocation may be refused for want of room.
use Rattle.std.specs.Prelude.{ℕ, ◌≡◌, ◌<◌, ◌≤◌, true, false, List, length, max, take}
use Rattle.tide_model.specs.declared.entry.Event.{Event}
use Rattle.tide_model.specs.Layout.{Layout, IsBlockOf, cell_count, array_count, block_of_cell, block_of_array}
use Rattle.tide_model.specs.State.{State, is_free}
use Rattle.tide_model.specs.Cycle.{HasDead}
use Rattle.tide_model.specs.History.{state_after, state_at, is_call_of, is_open, moment_after_last}
use Rattle.tide_model.specs.Since.{TakenAreSwept, WasTaken, since}

-- nothing of the block is free
pub record IsFullBlock (layout : Layout) (state : State) (block : ℕ) : Type 0 where
  pub cells : (cell : ℕ) → cell < cell_count layout → block_of_cell cell ≡ block → is_free (state.cells cell).status ≡ false
  pub arrays : (array : ℕ) → array < array_count layout → block_of_array layout array ≡ block → is_free (state.arrays array) ≡ false

-- what is dead in the block, if anything is, was taken to be swept
abbrev pub DeadIsTaken : Layout → List Event → ℕ → Type 0
DeadIsTaken layout history block = HasDead layout (state_after layout history) block → WasTaken history block

-- the first moment that a refusal may speak of: right after the mutator's last entry, or after the last Open if
-- that is later
abbrev pub window_start : ℕ → List Event → ℕ
window_start who before =
    max (moment_after_last (λ event. is_call_of who event.entry) before) (moment_after_last (λ event. is_open event.entry) before)

-- when an allocation may be refused for room: each block of the class was full at some moment of the window, and had
-- nothing dead then that wasn't taken to be swept
abbrev pub StandsFull : Layout → List Event → ℕ → ℕ → Type 0
StandsFull layout before who class =
    (block : ℕ) → IsBlockOf layout class block →
    (moment : ℕ) × (window_start who before ≤ moment) × (moment ≤ length before)
    × IsFullBlock layout (state_at layout before moment) block × DeadIsTaken layout (take moment before) block

-- no other mutator is active
abbrev pub IsAlone : Layout → State → ℕ → Type 0
IsAlone layout state who = (other : ℕ) → other < layout.mutators → state.active other ≡ true → other ≡ who

-- A refusal for room stands where no block has room. Where no other mutator is active, each block that was taken in
-- this part is swept before it: one who retired had finished its sweeps.
pub record StandsRefused (layout : Layout) (before : List Event) (who class : ℕ) : Type 0 where
  pub full : StandsFull layout before who class
  pub alone : IsAlone layout (state_after layout before) who → TakenAreSwept (since is_open before)
