-- A property is appended to a cell whose array is full: it takes an array and copies its elements.
use Rattle.std.proofs.Common.{ℕ, ◌≡◌, ◌≢◌, ◌+◌, ◌%◌, ◌<◌, ◌≤◌, refl, sym, ◌∙◌, ap, subst, arith, Bool, true, false, [], ◌∷◌, ◌++◌, Option, Some, None, length, length-append, inl, inr}
use Rattle.std.proofs.lemmas.Bool.{cases_eq, cases_order, eq-eqb, ne_eqb}
use Rattle.std.proofs.lemmas.Option.{none-some, same_Some}
use Rattle.std.specs.Int.{bit_at}
use Rattle.std.specs.Prelude.{◌⊎◌, if◌then◌else◌}
use Rattle.tide_model.specs.declared.val.Val.{Val}
use Rattle.tide_model.specs.Applied.{add_property, spend}
use Rattle.tide_model.specs.Layout.{Layout, array_count, block_of_array, block_of_cell, cell_count}
use Rattle.tide_model.specs.Numbers.{put_at}
use Rattle.tide_model.specs.References.{IsLive, RefsAreLive}
use Rattle.tide_model.specs.Refused.{ShapeLists}
use Rattle.tide_model.specs.State.{CellState, State, Status, free, is_free, live, spent}
use Rattle.tide_model.proofs.ReferenceLaws.{put_at_elim}
use Rattle.tide_words.specs.tide_layout.declared.region.Region.{Region}
use Rattle.tide_words.specs.tide_layout.declared.region.Region.TheVariants.{Active, Array, Call, Claim, Colour, Dead, Elements, Free, GreyMutator, GreyRace, GreyShared, Group, Period, Phase, Base, Registers, Slots, Stopped, Strong, Structure, Swept, Weak}
use Rattle.tide_words.specs.heap.Heap.{Heap}
use Rattle.tide_words.specs.heap.Reading.{AreArraysRead, BitsAreApart, CellReads, IsNamedAmong, IsValueOf, PartsRead, PropertyReads, ReadsAs, TakenReads, array_status, cell_status, element_word, slot_word}
use Rattle.tide_words.specs.tide_layout.Region.{block_count}
use Rattle.tide_words.specs.tide_layout.Slots.{HasElement, HasSlot, index_of_slot, width_of_array}
use Rattle.tide_words.specs.forms.ValueWord.{HasU32}
use Rattle.tide_words.proofs.heap_laws.ReadingLaws.{AreClaimsRead-same, HasSlot-class, IsValueOf-same}
use Rattle.tide_words.proofs.tide_layout.SlotPlaces.{index_of_slot-below}
use Rattle.tide_call.specs.Grown.{IsGrown, is_grown_region}
use Rattle.tide_words.proofs.heap_laws.CellLaw.{CellReads-live, past-put}
use Rattle.tide_words.proofs.heap_laws.CellReading.{CellReads-kept, IsTableOf-kept, SameCellWords}
use Rattle.tide_call.proofs.reading_laws.FreeBits.{BitsAreApart-taken, free_bit, spent_bits, status-else, status-taken}
use Rattle.tide_words.proofs.heap_laws.Parts.{RootsRead-same, is_root_region}
use Rattle.tide_call.proofs.reading_laws.PropertyReading.{IsStructureOf-whole}
use Rattle.tide_call.specs.ShapeWord.{IsShapeWord, whole_word}

-- a growth writes no region of which a test says so, where it says so of none of the four that a growth writes
pub not_grown : (test : Region → Bool) → test Structure ≡ false → test Array ≡ false → test Elements ≡ false → test Free ≡ false →
    (region : Region) → test region ≡ true → is_grown_region region ≡ false
not_grown test no_structure no_array no_elements no_free Period is = refl
not_grown test no_structure no_array no_elements no_free Phase is = refl
not_grown test no_structure no_array no_elements no_free Base is = refl
not_grown test no_structure no_array no_elements no_free Active is = refl
not_grown test no_structure no_array no_elements no_free Call is = refl
not_grown test no_structure no_array no_elements no_free Stopped is = refl
not_grown test no_structure no_array no_elements no_free Registers is = refl
not_grown test no_structure no_array no_elements no_free Strong is = refl
not_grown test no_structure no_array no_elements no_free Weak is = refl
not_grown test no_structure no_array no_elements no_free Colour is = refl
not_grown test no_structure no_array no_elements no_free Structure is = absurd (cc)
not_grown test no_structure no_array no_elements no_free Array is = absurd (cc)
not_grown test no_structure no_array no_elements no_free Claim is = refl
not_grown test no_structure no_array no_elements no_free Group is = refl
not_grown test no_structure no_array no_elements no_free Slots is = refl
not_grown test no_structure no_array no_elements no_free Elements is = absurd (cc)
not_grown test no_structure no_array no_elements no_free Free is = absurd (cc)
not_grown test no_structure no_array no_elements no_free Dead is = refl
not_grown test no_structure no_array no_elements no_free GreyShared is = refl
not_grown test no_structure no_array no_elements no_free GreyMutator is = refl
not_grown test no_structure no_array no_elements no_free GreyRace is = refl
not_grown test no_structure no_array no_elements no_free Swept is = refl

-- an array that a cell gives up is spent, and no other is
spend-same : (arrays : ℕ → Status) (from : Option ℕ) (array : ℕ) → from ≡ Some array → spend arrays from array ≡ spent
spend-same arrays None array is = absurd (none-some array is)
spend-same arrays (Some source) array is = ap (λ (b : Bool). if b then spent else arrays array) (eq-eqb array source (sym (same_Some source array is)))

spend-else : (arrays : ℕ → Status) (from : Option ℕ) (array : ℕ) → from ≢ Some array → spend arrays from array ≡ arrays array
spend-else arrays None array apart = refl
spend-else arrays (Some source) array apart = ap (λ (b : Bool). if b then spent else arrays array) (ne_eqb array source (λ is. apart (ap (λ (a : ℕ). Some a) (sym is))))

-- an array is the one that was given up, or isn't
is_given : (from : Option ℕ) (array : ℕ) → (from ≡ Some array) ⊎ (from ≢ Some array)
is_given None array = inr (none-some array)
is_given (Some source) array = elim (cases_eq source array) [
  | inl same ↦ inl (ap (λ (a : ℕ). Some a) same)
  | inr apart ↦ inr (λ is. apart (same_Some source array is))
]

module _ (layout : Layout) (shapes : ShapeLists) (old new : Heap) (state : State) (cell taken key shape : ℕ) (value : Val)
    (within : cell < cell_count layout) (alive : IsLive state cell) (refs : RefsAreLive state)
    (inside : taken < array_count layout) (wide : length (state.cells cell).keys < width_of_array layout taken) (was_free : state.arrays taken ≡ free)
    (is_shape : IsShapeWord shapes ((state.cells cell).keys ++ key ∷ []) shape) (fits : HasU32 value)
    (grown : IsGrown layout old new cell taken (state.cells cell).array (length (state.cells cell).keys) shape value)
    (reads : ReadsAs layout shapes old state) where
  abbrev after : State
  after = add_property state cell key value (Some taken)

  abbrev held : CellState
  held = record (state.cells cell) {
    keys = (state.cells cell).keys ++ key ∷ [];
    properties = put_at (state.cells cell).properties (length (state.cells cell).keys) value;
    array = Some taken;
  }

  parts : PartsRead layout shapes old state
  parts = reads.parts

  was : CellReads layout shapes old cell (state.cells cell)
  was = parts.cells cell within

  read : TakenReads layout shapes old cell (state.cells cell)
  read = was.taken (ap is_free alive)

  -- no live cell had the array
  not_named : IsNamedAmong state.cells taken → ⊥
  not_named (x, is_live, has) = absurd (let bad = sym was_free ∙ refs.arrays_are_live x taken is_live has in cc)

  not_dead : bit_at (old Dead (block_of_array layout taken)) (taken % 64) ≡ 0
  not_dead = parts.apart (block_of_array layout taken) (taken % 64) (omega (arith, inside)) (omega arith)
      (free_bit (old Free (block_of_array layout taken)) (old Dead (block_of_array layout taken)) (taken % 64) spent refl (sym (parts.arrays.unnamed taken inside not_named) ∙ was_free))

  taken_block : block_of_array layout taken < block_count layout
  taken_block = omega (arith, inside)

  cell_same : (x : ℕ) → x < cell_count layout → cell_status new x ≡ cell_status old x
  cell_same x in_cells = status-else layout old new (block_of_array layout taken) (taken % 64) (omega arith) taken_block
      grown.free_bit (grown.others Dead refl) (block_of_cell x) (x % 64) live (omega (arith, in_cells)) (omega arith)
      (λ same. absurd (omega (arith, same, in_cells)))

  array_same : (array : ℕ) (otherwise : Status) → array < array_count layout → array ≢ taken →
      array_status layout new array otherwise ≡ array_status layout old array otherwise
  array_same array otherwise in_arrays apart =
      status-else layout old new (block_of_array layout taken) (taken % 64) (omega arith) taken_block
      grown.free_bit (grown.others Dead refl) (block_of_array layout array) (array % 64) otherwise (omega (arith, in_arrays))
      (omega arith) (λ same also. apart (omega (arith, same, also)))

  array_taken : array_status layout new taken live ≡ live
  array_taken = status-taken layout old new (block_of_array layout taken) (taken % 64) (omega arith) taken_block
      grown.free_bit (grown.others Dead refl) live not_dead

  slot_same : (x slot : ℕ) → HasSlot layout x slot → slot_word layout new x slot ≡ slot_word layout old x slot
  slot_same x slot has = grown.others Slots refl (index_of_slot layout x slot) (index_of_slot-below layout x slot has)

  others : (x : ℕ) → x < cell_count layout → x ≢ cell → SameCellWords layout old new x (state.cells x)
  others x in_cells apart = record {
    status = cell_same x in_cells;
    structure = grown.structures x in_cells apart;
    array = grown.arrays x in_cells apart;
    claim = grown.others Claim refl x in_cells;
    group = grown.others Group refl x in_cells;
    slots = λ slot has. slot_same x slot has;
    elements = λ is_live array place is below has. grown.elements array place has (λ same. not_named (x, is_live, is ∙ ap (λ (a : ℕ). Some a) same));
  }

  property : (place : ℕ) → place < length held.keys → PropertyReads layout new held place
  property place below = (let both = by_place place (subst (λ (n : ℕ). place < n) (length-append (state.cells cell).keys (key ∷ [])) below) in (taken, refl, both.0, both.1))
    where
      nearer : (a b : ℕ) → a < b + 1 → a ≢ b → a < b
      nearer a b below apart = elim (cases_order a b) [
        | inl same ↦ absurd (apart same)
        | inr ordered ↦ elim ordered [ inl less ↦ less | inr more ↦ absurd (omega arith) ]
      ]

      by_place : (place : ℕ) → place < length (state.cells cell).keys + 1 → HasElement layout taken place × IsValueOf (held.properties place) (element_word layout new taken place)
      by_place = put_at_elim (λ n v. n < length (state.cells cell).keys + 1 → HasElement layout taken n × IsValueOf v (element_word layout new taken n)) (state.cells cell).properties (length (state.cells cell).keys) value
          (λ below. (record { array_within = inside; element_within = wide }, record { number = fits; is_word = sym grown.last }))
          (λ n apart below.
          let before = nearer n (length (state.cells cell).keys) below apart in
          let (source, is, has, stood) = was.properties alive n before in (
            record { array_within = inside; element_within = omega (arith, before, wide) },
            IsValueOf-same ((state.cells cell).properties n) (element_word layout old source n) (element_word layout new taken n) (grown.copied source n is has before) stood,
          ))

  here : CellReads layout shapes new cell held
  here = CellReads-live layout shapes new cell held alive (cell_same cell within ∙ sym was.status ∙ alive) (record {
    keys = IsStructureOf-whole shapes held.keys shape (new Structure cell) is_shape (grown.structure ∙ ap (whole_word shape) (sym (length-append (state.cells cell).keys (key ∷ []))));
    array = grown.array;
    group = grown.others Group refl cell within ∙ read.group;
    group_number = read.group_number;
    slots = λ slot below. IsValueOf-same ((state.cells cell).slots slot) (slot_word layout old cell slot) (slot_word layout new cell slot) (slot_same cell slot (HasSlot-class layout cell slot within below)) (read.slots slot below);
    past_slots = read.past_slots;
    table = λ is. IsTableOf-kept layout old new cell (state.cells cell).pairs (slot_same cell) (read.table is);
    no_table = read.no_table;
  }) property

  -- who has an array afterwards
  named : (array : ℕ) → IsNamedAmong after.cells array → (array ≡ taken) ⊎ ((x : ℕ) × (x ≢ cell) × IsLive state x × ((state.cells x).array ≡ Some array))
  named array (x, is_live, has) = put_at_elim (λ n (h : CellState). h.status ≡ live → h.array ≡ Some array → (array ≡ taken) ⊎ ((x : ℕ) × (x ≢ cell) × IsLive state x × ((state.cells x).array ≡ Some array))) state.cells cell held
      (λ is own. inl (sym (same_Some taken array own))) (λ n apart is own. inr (n, apart, is, own)) x is_live has

  -- another cell that has an array has it still
  named_else : (array x : ℕ) → x ≢ cell → IsLive state x → (state.cells x).array ≡ Some array → IsNamedAmong after.cells array
  named_else array x apart is own = (
    x,
    put_at_elim (λ n (h : CellState). n ≢ cell → (state.cells n).status ≡ live → h.status ≡ live) state.cells cell held (λ bad s. absurd (bad refl)) (λ n a not_cell s. s) x apart is,
    put_at_elim (λ n (h : CellState). n ≢ cell → (state.cells n).array ≡ Some array → h.array ≡ Some array) state.cells cell held (λ bad s. absurd (bad refl)) (λ n a not_cell s. s) x apart own,
  )

  named_here : IsNamedAmong after.cells taken
  named_here = (
    cell,
    put_at_elim (λ n (h : CellState). n ≡ cell → h.status ≡ live) state.cells cell held (λ is. alive) (λ n apart is. absurd (apart is)) cell refl,
    put_at_elim (λ n (h : CellState). n ≡ cell → h.array ≡ Some taken) state.cells cell held (λ is. refl) (λ n apart is. absurd (apart is)) cell refl,
  )

  arrays_read : AreArraysRead layout new after.cells after.arrays
  arrays_read = record {
    named = λ array in_arrays is. elim (cases_eq array taken) [
      | inl same ↦ subst (λ (a : ℕ). after.arrays a ≡ array_status layout new a live) (sym same) (at_taken ∙ sym array_taken)
      | inr apart ↦ elim (named array is) [
        | inl bad ↦ absurd (apart bad)
        | inr (x, not_cell, is_live, own) ↦
            at_else array apart ∙ spend-else state.arrays (state.cells cell).array array (λ given. not_cell (refs.arrays_are_own x cell array is_live alive own given))
            ∙ parts.arrays.named array in_arrays (x, is_live, own) ∙ sym (array_same array live in_arrays apart)
      ]
    ];
    unnamed = λ array in_arrays isnt. elim (cases_eq array taken) [
      | inl same ↦ absurd (isnt (subst (λ (a : ℕ). IsNamedAmong after.cells a) (sym same) named_here))
      | inr apart ↦ at_else array apart ∙ elim (is_given (state.cells cell).array array) [
        | inl given ↦
            let was_live = sym (parts.arrays.named array in_arrays (cell, alive, given)) ∙ refs.arrays_are_live cell array alive given in
            spend-same state.arrays (state.cells cell).array array given
            ∙ sym (spent_bits (old Free (block_of_array layout array)) (old Dead (block_of_array layout array)) (array % 64) was_live) ∙ sym (array_same array spent in_arrays apart)
        | inr kept ↦
            spend-else state.arrays (state.cells cell).array array kept
            ∙ parts.arrays.unnamed array in_arrays (λ (x, is_live, own). isnt (named_else array x (λ same. kept (sym (ap (λ (c : ℕ). (state.cells c).array) same) ∙ own)) is_live own))
            ∙ sym (array_same array spent in_arrays apart)
      ]
    ];
  }
    where
      at_taken : after.arrays taken ≡ live
      at_taken = ap (λ (b : Bool). if b then live else spend state.arrays (state.cells cell).array taken) (eq-eqb taken taken refl)

      at_else : (array : ℕ) → array ≢ taken → after.arrays array ≡ spend state.arrays (state.cells cell).array array
      at_else array apart = ap (λ (b : Bool). if b then live else spend state.arrays (state.cells cell).array array) (ne_eqb array taken apart)

  apart_read : BitsAreApart layout new
  apart_read = BitsAreApart-taken layout old new (block_of_array layout taken) (taken % 64) (omega arith) taken_block
      grown.free_bit (grown.others Dead refl) parts.apart

  past_arrays : (array : ℕ) → array_count layout ≤ array → after.arrays array ≡ free
  past_arrays = put_at_elim (λ n (s : Status). array_count layout ≤ n → s ≡ free) (spend state.arrays (state.cells cell).array) taken live (λ past. absurd (omega (arith, past, inside)))
      (λ n apart past. elim (is_given (state.cells cell).array n) [
        | inl given ↦ absurd (let bad = sym (parts.past_arrays n past) ∙ refs.arrays_are_live cell n alive given in cc)
        | inr kept ↦ spend-else state.arrays (state.cells cell).array n kept ∙ parts.past_arrays n past
      ])

  pub Reading-grown : ReadsAs layout shapes new (add_property state cell key value (Some taken))
  Reading-grown = record {
    roots = RootsRead-same layout old new state (λ region is. grown.others region (not_grown is_root_region refl refl refl refl region is)) reads.roots;
    parts = record {
      cells = put_at_elim (λ x (h : CellState). x < cell_count layout → CellReads layout shapes new x h) state.cells cell held (λ in_cells. here)
          (λ x apart in_cells. CellReads-kept layout shapes old new x (state.cells x) in_cells (others x in_cells apart) (parts.cells x in_cells));
      arrays = arrays_read;
      claims = AreClaimsRead-same layout old new state.claims (grown.others Claim refl) parts.claims;
      apart = apart_read;
      past_cells = past-put layout state.cells cell held within parts.past_cells;
      past_arrays = past_arrays;
      past_claims = parts.past_claims;
      claimed = parts.claimed;
    };
  }
