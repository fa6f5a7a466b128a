-- The words that no sweep has differ, in a machine that has the running wave.
use Rattle.std.proofs.Common.{ℕ, ◌≡◌, ◌≢◌, refl, arith, true}
use Rattle.tide_words.specs.tide_layout.Slots.{HasElement, HasSlot, index_of_element, index_of_slot}
use Rattle.tide_words.specs.tide_layout.declared.region.Region.{Region}
use Rattle.tide_words.specs.tide_layout.declared.region.Region.TheVariants as region
use Rattle.tide_core.proofs.machine_laws.steps.Unsettled.{own_settled, settled_claim, settled_element, settled_group, settled_region, settled_slot, settled_array, settled_structure, unsettled_cases}
use Rattle.tide_core.specs.machine.Owed.{IsOwnWord, Unsettles}
use Rattle.tide_core.specs.machine.RunningWave.{RunningWave}
use Rattle.tide_core.specs.machine.World.{World}
use Rattle.tide_model.specs.History.{state_after}
use Rattle.tide_model.specs.Layout.{Layout}
use Rattle.tide_model.specs.Refused.{ShapeLists}
use Rattle.tide_model.specs.State.{State, dead}
use Rattle.tide_words.specs.marking.Colours.{is_marking}

module _ (layout : Layout) (shapes : ShapeLists) (w : World) (wave : RunningWave layout shapes w) where
  abbrev state : State
  state = state_after layout w.log

  -- while a cycle marks, all are
  pub marks_settled : is_marking w.heap ≡ true → (at : Region) (index p word : ℕ) → Unsettles (w.part p) at index word → ⊥
  marks_settled marks at index p word un =
      let (s, is, how) = unsettled_cases (w.part p).sweeping at index word un in
      let taken = wave.sweeps.named.taken p s.block (record { sweeping = s; is = is; of_block = refl }) in
      let idle = taken.0 in
      absurd (cc)

  -- a mutator's own words are
  pub own_now : (q : ℕ) (at : Region) (index : ℕ) → IsOwnWord layout state q at index → (p word : ℕ) →
      Unsettles (w.part p) at index word → ⊥
  own_now = own_settled layout shapes w.heap w.part state wave.words wave.sweeps.named wave.refs

  -- so are the words of free bits, of registers and of handles
  pub free_now : (block p word : ℕ) → Unsettles (w.part p) region.Free block word → ⊥
  free_now = settled_region layout shapes w.heap w.part state wave.words wave.sweeps.named region.Free refl
      (λ t. omega (arith, t))

  pub active_now : (index p word : ℕ) → Unsettles (w.part p) region.Active index word → ⊥
  active_now = settled_region layout shapes w.heap w.part state wave.words wave.sweeps.named region.Active refl
      (λ t. omega (arith, t))

  pub register_now : (index p word : ℕ) → Unsettles (w.part p) region.Registers index word → ⊥
  register_now = settled_region layout shapes w.heap w.part state wave.words wave.sweeps.named region.Registers refl
      (λ t. omega (arith, t))

  pub strong_now : (index p word : ℕ) → Unsettles (w.part p) region.Strong index word → ⊥
  strong_now = settled_region layout shapes w.heap w.part state wave.words wave.sweeps.named region.Strong refl
      (λ t. omega (arith, t))

  pub weak_now : (index p word : ℕ) → Unsettles (w.part p) region.Weak index word → ⊥
  weak_now = settled_region layout shapes w.heap w.part state wave.words wave.sweeps.named region.Weak refl
      (λ t. omega (arith, t))

  -- and those of a cell that isn't dead, and of an array that isn't
  pub structure_now : (cell : ℕ) → (state.cells cell).status ≢ dead → (p word : ℕ) →
      Unsettles (w.part p) region.Structure cell word → ⊥
  structure_now = settled_structure layout shapes w.heap w.part state wave.words wave.sweeps.named

  pub array_now : (cell : ℕ) → (state.cells cell).status ≢ dead → (p word : ℕ) →
      Unsettles (w.part p) region.Array cell word → ⊥
  array_now = settled_array layout shapes w.heap w.part state wave.words wave.sweeps.named

  pub claim_now : (cell : ℕ) → (state.cells cell).status ≢ dead → (p word : ℕ) →
      Unsettles (w.part p) region.Claim cell word → ⊥
  claim_now = settled_claim layout shapes w.heap w.part state wave.words wave.sweeps.named

  pub group_now : (cell : ℕ) → (state.cells cell).status ≢ dead → (p word : ℕ) →
      Unsettles (w.part p) region.Group cell word → ⊥
  group_now = settled_group layout shapes w.heap w.part state wave.words wave.sweeps.named

  pub slot_now : (cell slot : ℕ) → HasSlot layout cell slot → (state.cells cell).status ≢ dead → (p word : ℕ) →
      Unsettles (w.part p) region.Slots (index_of_slot layout cell slot) word → ⊥
  slot_now = settled_slot layout shapes w.heap w.part state wave.words wave.sweeps.named

  pub element_now : (array place : ℕ) → HasElement layout array place → state.arrays array ≢ dead → (p word : ℕ) →
      Unsettles (w.part p) region.Elements (index_of_element layout array place) word → ⊥
  element_now = settled_element layout shapes w.heap w.part state wave.words wave.sweeps.named
