-- A reading depends on the words of its own regions alone: the roots, and cells, arrays and claims.
use Rattle.std.proofs.Common.{ℕ, ◌≡◌, ◌<◌, refl, ◌∙◌, ap, arith, Bool, true, false}
use Rattle.tide_model.specs.Layout.{Layout, cell_count}
use Rattle.tide_model.specs.Refused.{ShapeLists}
use Rattle.std.specs.Prelude.{◌==◌}
use Rattle.tide_model.specs.State.{CellState, Phase as CyclePhase, State}
use Rattle.tide_layout.specs.declared.region.Region.{Region}
use Rattle.tide_layout.specs.declared.region.Region.TheVariants.{Period, Phase, Base, Active, Call, Stopped, Registers, Strong, Weak, Colour, Structure, Array, Claim, Group, Slots, Elements, Free, Dead, GreyShared, GreyMutator, GreyRace, Swept}
use Rattle.tide_words.specs.forms.ColourWord.{phase_of}
use Rattle.tide_words.specs.heap.Heap.{Heap, SameIn, write}
use Rattle.tide_words.specs.heap.Reading.{PartsRead, RootsRead}
use Rattle.tide_layout.specs.Region.{index_of_register, tag}
use Rattle.tide_words.proofs.heap_laws.ReadingLaws.{AreArraysRead-same, AreClaimsRead-same, BitsAreApart-same, IsValueOf-same, SameIn-write, tags-apart}
use Rattle.tide_layout.proofs.SlotPlaces.{index_of_register-below}
use Rattle.tide_words.proofs.heap_laws.CellReading.{CellReads-kept, SameCellWords}

-- a region that tells the roots, or the phase and from which cycle on colours count
abbrev pub is_root_region : Region → Bool
is_root_region Period = false
is_root_region Phase = true
is_root_region Base = true
is_root_region Active = true
is_root_region Call = false
is_root_region Stopped = false
is_root_region Registers = true
is_root_region Strong = true
is_root_region Weak = true
is_root_region Colour = false
is_root_region Structure = false
is_root_region Array = false
is_root_region Claim = false
is_root_region Group = false
is_root_region Slots = false
is_root_region Elements = false
is_root_region Free = false
is_root_region Dead = false
is_root_region GreyShared = false
is_root_region GreyMutator = false
is_root_region GreyRace = false
is_root_region Swept = false

-- the words of the roots are the same in two heaps
abbrev pub SameRoots : Layout → Heap → Heap → Type 0
SameRoots layout old new = (region : Region) → is_root_region region ≡ true → SameIn layout region old new

-- and so are those of cells, arrays and claims
abbrev pub SameParts : Layout → Heap → Heap → Type 0
SameParts layout old new = (cell : ℕ) (held : CellState) → cell < cell_count layout → SameCellWords layout old new cell held

pub SameRoots-write : (layout : Layout) (heap : Heap) (region : Region) (index word : ℕ) → is_root_region region ≡ false → SameRoots layout heap (write heap region index word)
SameRoots-write layout heap region index word is_none other is_one =
    SameIn-write layout heap region other index word (tags-apart is_root_region region other is_none is_one)

pub SameRoots-then : (layout : Layout) (one two three : Heap) → SameRoots layout one two → SameRoots layout two three → SameRoots layout one three
SameRoots-then layout one two three first second region is index below = second region is index below ∙ first region is index below

-- roots whose words are the same, those of the phase and the base apart, read as before, but for the phase
pub RootsRead-phase : (layout : Layout) (old new : Heap) (state : State) (phase : CyclePhase) →
    ((region : Region) → is_root_region region ≡ true → (tag region == tag Phase) ≡ false → (tag region == tag Base) ≡ false → SameIn layout region old new) →
    phase_of (new Phase 0) ≡ phase →
    RootsRead layout old state → RootsRead layout new (record state { phase = phase })
RootsRead-phase layout old new state phase same is reads = record {
  phase = is;
  active = λ who within. same Active refl refl refl who within ∙ reads.active who within;
  registers = λ who register in_mutators in_registers. IsValueOf-same (state.registers who register)
      (old Registers (index_of_register layout who register)) (new Registers (index_of_register layout who register))
      (same Registers refl refl refl (index_of_register layout who register) (index_of_register-below layout who register in_mutators in_registers)) (reads.registers who register in_mutators in_registers);
  strong = λ handle within. IsValueOf-same (state.strong handle) (old Strong handle) (new Strong handle) (same Strong refl refl refl handle within) (reads.strong handle within);
  weak = λ handle within. IsValueOf-same (state.weak handle) (old Weak handle) (new Weak handle) (same Weak refl refl refl handle within) (reads.weak handle within);
  past_active = reads.past_active;
  past_registers = reads.past_registers;
  past_strong = reads.past_strong;
  past_weak = reads.past_weak;
}

-- roots whose words are the same read as before
pub RootsRead-same : (layout : Layout) (old new : Heap) (state : State) → SameRoots layout old new → RootsRead layout old state → RootsRead layout new state
RootsRead-same layout old new state same reads =
    RootsRead-phase layout old new state state.phase (λ region is no_phase no_base. same region is) (ap phase_of (same Phase refl 0 (omega arith)) ∙ reads.phase) reads

-- the parts where the words of all cells, arrays and claims are the same
pub PartsRead-same : (layout : Layout) (shapes : ShapeLists) (old new : Heap) (state : State) → SameParts layout old new → SameIn layout Free old new → SameIn layout Dead old new →
    PartsRead layout shapes old state → PartsRead layout shapes new state
PartsRead-same layout shapes old new state same same_free same_dead parts = record {
  cells = λ cell within. CellReads-kept layout shapes old new cell (state.cells cell) within (same cell (state.cells cell) within) (parts.cells cell within);
  arrays = AreArraysRead-same layout old new state.cells state.arrays same_free same_dead parts.arrays;
  claims = AreClaimsRead-same layout old new state.claims (λ cell within. (same cell (state.cells cell) within).claim) parts.claims;
  apart = BitsAreApart-same layout old new same_free same_dead parts.apart;
  past_cells = parts.past_cells;
  past_arrays = parts.past_arrays;
  past_claims = parts.past_claims;
  claimed = parts.claimed;
}
