-- What a store of a word leaves its caller to do, and when a barrier is owed still.
use Rattle.std.proofs.Common.{ℕ, ◌≡◌, refl, Bool, true, false, ◌∙◌}
use Rattle.std.specs.Prelude.{if◌then◌else◌}
use Rattle.tide_core.specs.machine.Duties.{OwesColour, AwaitsLoad, StillOwes}
use Rattle.tide_core.specs.machine.World.{pushes}
use Rattle.tide_core.specs.declared.machine.view.Duty.{Duty}
use Rattle.tide_words.specs.heap.Heap.{Heap}
use Rattle.tide_core.specs.declared.machine.view.Duty.TheVariants as duty
use Rattle.tide_words.specs.tide_layout.declared.region.Region.TheVariants as region

abbrev pub barrier_if : Bool → ℕ → Duty
barrier_if test cell = if test then duty.Barrier cell else duty.Nothing

pub pushes_barrier : (test : Bool) (cell other : ℕ) → pushes (barrier_if test cell) other ≡ 0
pushes_barrier true cell other = refl
pushes_barrier false cell other = refl

pub colour_barrier : (test : Bool) (cell other : ℕ) → OwesColour (barrier_if test cell) other → ⊥
colour_barrier true cell other owes = owes
colour_barrier false cell other owes = owes

-- after a store of a reference the barrier is owed, whatever the colours are
pub owes_barrier : (heap : Heap) (cell_word : Bool) (cell : ℕ) → cell_word ≡ true → StillOwes heap (barrier_if cell_word cell) cell
owes_barrier heap true cell w = refl
owes_barrier heap false cell w = absurd (cc)

-- and its cell's colour isn't loaded yet
pub awaits_barrier : (cell_word : Bool) (cell : ℕ) → cell_word ≡ true → AwaitsLoad (barrier_if cell_word cell) cell
awaits_barrier true cell w = refl
awaits_barrier false cell w = absurd (cc)

-- a barrier whose cell's colour isn't loaded yet is owed still, whatever the colours are
pub awaits_owes : (heap : Heap) (d : Duty) (cell : ℕ) → AwaitsLoad d cell → StillOwes heap d cell
awaits_owes heap (duty.Barrier c) cell owes = owes
awaits_owes heap (duty.Regrey c word) cell owes = absurd owes
awaits_owes heap duty.Nothing cell owes = absurd owes
awaits_owes heap (duty.Push c) cell owes = absurd owes
awaits_owes heap (duty.Born c) cell owes = absurd owes
awaits_owes heap (duty.PushRace c) cell owes = absurd owes

-- a barrier is owed still where its cell's word is as it was
pub still_owes : (old new : Heap) (d : Duty) (cell : ℕ) → new region.Colour cell ≡ old region.Colour cell →
    StillOwes old d cell → StillOwes new d cell
still_owes old new (duty.Barrier c) cell same owes = owes
still_owes old new (duty.Regrey c word) cell same owes = (owes.0, same ∙ owes.1)
still_owes old new duty.Nothing cell same owes = absurd owes
still_owes old new (duty.Push c) cell same owes = absurd owes
still_owes old new (duty.Born c) cell same owes = absurd owes
still_owes old new (duty.PushRace c) cell same owes = absurd owes
