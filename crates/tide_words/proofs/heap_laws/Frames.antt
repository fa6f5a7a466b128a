-- Which words of a cell a write leaves.
use Rattle.std.proofs.Common.{ℕ, ◌≡◌, ◌≢◌, ◌%◌, ◌<◌, refl, ◌∙◌, ap, subst, arith, Bool, true, false, Some, length}
use Rattle.std.proofs.lemmas.Bool.{or_left, or_right}
use Rattle.std.specs.Prelude.{◌==◌, ◌||◌}
use Rattle.tide_model.specs.Layout.{Layout, block_of_cell}
use Rattle.tide_model.specs.Refused.{ShapeLists}
use Rattle.tide_model.specs.State.{CellState, Phase as CyclePhase, State, live}
use Rattle.tide_layout.specs.declared.region.Region.{Region}
use Rattle.tide_layout.specs.declared.region.Region.TheVariants.{Period, Phase, Base, Active, Call, Stopped, Registers, Strong, Weak, Colour, Structure, Array, Claim, Group, Slots, Elements, Free, Dead, GreyShared, GreyMutator, GreyRace, Swept}
use Rattle.tide_layout.specs.Region.{tag}
use Rattle.tide_words.specs.forms.ColourWord.{phase_of}
use Rattle.tide_words.specs.heap.Heap.{Heap, SameIn, write}
use Rattle.tide_words.specs.heap.Reading.{PartsRead, ReadsAs, cell_status, status_by}
use Rattle.tide_layout.specs.Slots.{index_of_element, index_of_slot, width_of_array, width_of_cell}
use Rattle.tide_words.proofs.heap_laws.HeapLaws.{write-other_index}
use Rattle.tide_words.proofs.heap_laws.ReadingLaws.{SameIn-write, tags-apart}
use Rattle.tide_layout.proofs.SlotPlaces.{index_of_element-alone, index_of_element-below, index_of_slot-alone, index_of_slot-below}
use Rattle.tide_words.proofs.heap_laws.CellReading.{SameCellWords}
use Rattle.tide_words.proofs.heap_laws.Parts.{PartsRead-same, RootsRead-phase, RootsRead-same, SameParts, is_root_region}

-- a region that tells cells, arrays or claims
abbrev pub is_part_region : Region → Bool
is_part_region Period = false
is_part_region Phase = false
is_part_region Base = false
is_part_region Active = false
is_part_region Call = false
is_part_region Stopped = false
is_part_region Registers = false
is_part_region Strong = false
is_part_region Weak = false
is_part_region Colour = false
is_part_region Structure = true
is_part_region Array = true
is_part_region Claim = true
is_part_region Group = true
is_part_region Slots = true
is_part_region Elements = true
is_part_region Free = true
is_part_region Dead = true
is_part_region GreyShared = false
is_part_region GreyMutator = false
is_part_region GreyRace = false
is_part_region Swept = false

-- a write to another region leaves a region of the parts
pub SameIn-part : (layout : Layout) (heap : Heap) (region other : Region) (index word : ℕ) → is_part_region region ≡ false → is_part_region other ≡ true →
    SameIn layout other heap (write heap region index word)
SameIn-part layout heap region other index word is_none is_one = SameIn-write layout heap region other index word (tags-apart is_part_region region other is_none is_one)

-- where these regions are the same, so are every cell's words
pub SameParts-regions : (layout : Layout) (old new : Heap) → ((region : Region) → is_part_region region ≡ true → SameIn layout region old new) → SameParts layout old new
SameParts-regions layout old new same cell held within = record {
  status =
      ap (λ (w : ℕ). status_by w (new Dead (block_of_cell cell)) (cell % 64) live) (same Free refl (block_of_cell cell) (omega (arith, within)))
      ∙ ap (λ (w : ℕ). status_by (old Free (block_of_cell cell)) w (cell % 64) live) (same Dead refl (block_of_cell cell) (omega (arith, within)));
  structure = same Structure refl cell within;
  array = same Array refl cell within;
  claim = same Claim refl cell within;
  group = same Group refl cell within;
  slots = λ slot has. same Slots refl (index_of_slot layout cell slot) (index_of_slot-below layout cell slot has);
  elements = λ alive array place is below has. same Elements refl (index_of_element layout array place) (index_of_element-below layout array place has);
}

-- and the parts read as before
pub PartsRead-regions : (layout : Layout) (shapes : ShapeLists) (old new : Heap) (state : State) → ((region : Region) → is_part_region region ≡ true → SameIn layout region old new) →
    PartsRead layout shapes old state → PartsRead layout shapes new state
PartsRead-regions layout shapes old new state same parts = PartsRead-same layout shapes old new state (SameParts-regions layout old new same) (same Free refl) (same Dead refl) parts

-- a region that a reading looks at
abbrev pub is_read : Region → Bool
is_read region = is_root_region region || is_part_region region

-- a heap with the same words in each region that is read reads as the same state
pub ReadsAs-same : (layout : Layout) (shapes : ShapeLists) (old new : Heap) (state : State) → ((region : Region) → is_read region ≡ true → SameIn layout region old new) →
    ReadsAs layout shapes old state → ReadsAs layout shapes new state
ReadsAs-same layout shapes old new state same reads = record {
  roots = RootsRead-same layout old new state (λ region is. same region (or_left (is_root_region region) (is_part_region region) is)) reads.roots;
  parts = PartsRead-regions layout shapes old new state (λ region is. same region (or_right (is_root_region region) (is_part_region region) is)) reads.parts;
}

-- a heap with the same words in each region that is read but the phase and the base reads as the state in that phase
pub ReadsAs-phase : (layout : Layout) (shapes : ShapeLists) (old new : Heap) (state : State) (phase : CyclePhase) →
    ((region : Region) → is_read region ≡ true → (tag region == tag Phase) ≡ false → (tag region == tag Base) ≡ false → SameIn layout region old new) →
    phase_of (new Phase 0) ≡ phase → ReadsAs layout shapes old state → ReadsAs layout shapes new (record state { phase = phase })
ReadsAs-phase layout shapes old new state phase same is reads = record {
  roots = RootsRead-phase layout old new state phase (λ region root. same region (or_left (is_root_region region) (is_part_region region) root)) is reads.roots;
  parts = PartsRead-regions layout shapes old new state (λ region part. same region (or_right (is_root_region region) (is_part_region region) part)
      (tags-apart is_part_region Phase region refl part) (tags-apart is_part_region Base region refl part)) reads.parts;
}

-- a write to a region that isn't read leaves the reading
pub ReadsAs-write_unread : (layout : Layout) (shapes : ShapeLists) (heap : Heap) (state : State) (region : Region) (index word : ℕ) → is_read region ≡ false →
    ReadsAs layout shapes heap state → ReadsAs layout shapes (write heap region index word) state
ReadsAs-write_unread layout shapes heap state region index word unread reads =
    ReadsAs-same layout shapes heap (write heap region index word) state
    (λ other read. SameIn-write layout heap region other index word (tags-apart is_read region other unread read)) reads

-- the words of two steps
pub SameCellWords-then : (layout : Layout) (one two three : Heap) (cell : ℕ) (held : CellState) → SameCellWords layout one two cell held → SameCellWords layout two three cell held →
    SameCellWords layout one three cell held
SameCellWords-then layout one two three cell held first second = record {
  status = second.status ∙ first.status;
  structure = second.structure ∙ first.structure;
  array = second.array ∙ first.array;
  claim = second.claim ∙ first.claim;
  group = second.group ∙ first.group;
  slots = λ slot has. second.slots slot has ∙ first.slots slot has;
  elements = λ alive array place is below has. second.elements alive array place is below has ∙ first.elements alive array place is below has;
}

module _ (layout : Layout) (heap : Heap) (cell word : ℕ) (held : CellState) where
  -- the words of another cell
  pub else-structure : (other : ℕ) → cell ≢ other → SameCellWords layout heap (write heap Structure other word) cell held
  else-structure other apart = record {
    status = refl;
    structure = write-other_index heap Structure other cell word apart;
    array = refl;
    claim = refl;
    group = refl;
    slots = λ slot has. refl;
    elements = λ alive array place is below has. refl;
  }

  pub else-array : (other : ℕ) → cell ≢ other → SameCellWords layout heap (write heap Array other word) cell held
  else-array other apart = record {
    status = refl;
    structure = refl;
    array = write-other_index heap Array other cell word apart;
    claim = refl;
    group = refl;
    slots = λ slot has. refl;
    elements = λ alive array place is below has. refl;
  }

  pub else-claim : (other : ℕ) → cell ≢ other → SameCellWords layout heap (write heap Claim other word) cell held
  else-claim other apart = record {
    status = refl;
    structure = refl;
    array = refl;
    claim = write-other_index heap Claim other cell word apart;
    group = refl;
    slots = λ slot has. refl;
    elements = λ alive array place is below has. refl;
  }

  pub else-group : (other : ℕ) → cell ≢ other → SameCellWords layout heap (write heap Group other word) cell held
  else-group other apart = record {
    status = refl;
    structure = refl;
    array = refl;
    claim = refl;
    group = write-other_index heap Group other cell word apart;
    slots = λ slot has. refl;
    elements = λ alive array place is below has. refl;
  }

  pub else-slot : (other slot : ℕ) → cell ≢ other → slot < width_of_cell layout other → SameCellWords layout heap (write heap Slots (index_of_slot layout other slot) word) cell held
  else-slot other slot apart inside = record {
    status = refl;
    structure = refl;
    array = refl;
    claim = refl;
    group = refl;
    slots = λ at has. write-other_index heap Slots (index_of_slot layout other slot) (index_of_slot layout cell at) word
        (λ same. apart (index_of_slot-alone layout other cell slot at inside has.slot_within same).0);
    elements = λ alive array place is below has. refl;
  }

  -- the words of a cell that hasn't this element
  pub else-element : (array element : ℕ) → element < width_of_array layout array →
      (held.status ≡ live → held.array ≡ Some array → element < length held.keys → ⊥) → SameCellWords layout heap (write heap Elements (index_of_element layout array element) word) cell held
  else-element array element inside not_own = record {
    status = refl;
    structure = refl;
    array = refl;
    claim = refl;
    group = refl;
    slots = λ slot has. refl;
    elements = λ alive own place is below has. write-other_index heap Elements (index_of_element layout array element) (index_of_element layout own place) word
        (λ same. let both = index_of_element-alone layout array own element place inside has.element_within same in
        not_own alive (is ∙ ap (λ (a : ℕ). Some a) both.0) (subst (λ (n : ℕ). n < length held.keys) both.1 below));
  }

  -- the words of a cell whose status is as before
  pub else-free : (block : ℕ) → cell_status (write heap Free block word) cell ≡ cell_status heap cell → SameCellWords layout heap (write heap Free block word) cell held
  else-free block same = record {
    status = same;
    structure = refl;
    array = refl;
    claim = refl;
    group = refl;
    slots = λ slot has. refl;
    elements = λ alive array place is below has. refl;
  }
