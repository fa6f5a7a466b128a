-- A free cell is born: its free bit is taken.
use Rattle.tide_words.proofs.tide_layout.SlotPlaces.{index_of_slot-below, index_of_element-below}
use Rattle.tide_call.specs.Taken.{IsTakenBit}
use Rattle.tide_words.specs.tide_layout.Region.{block_count}
use Rattle.std.proofs.Common.{ℕ, ◌≡◌, ◌%◌, ◌<◌, refl, sym, ◌∙◌, arith, [], Some, None, inl, ◌≢◌}
use Rattle.std.proofs.lemmas.Option.{none-some}
use Rattle.std.specs.Int.{bit_at}
use Rattle.std.specs.Prelude.{slice_get}
use Rattle.tide_model.specs.declared.val.Val.{Val}
use Rattle.tide_model.specs.Applied.{put_cell}
use Rattle.tide_model.specs.Layout.{Layout, block_of_array, block_of_cell, cell_count, array_count}
use Rattle.tide_model.specs.Refused.{ShapeLists}
use Rattle.tide_model.specs.State.{CellState, State, Status, blank_cell, free, live, spent}
use Rattle.tide_model.proofs.ReferenceLaws.{put_at_elim}
use Rattle.tide_words.specs.tide_layout.declared.region.Region.TheVariants.{Array, Claim, Dead, Elements, Free, Group, Slots, Structure}
use Rattle.tide_words.specs.heap.Heap.{Heap}
use Rattle.tide_words.specs.heap.Written.{IsBitPut}
use Rattle.tide_words.specs.heap.Reading.{CellReads, IsNamedAmong, IsPairOf, IsTableOf, IsZeroed, ReadsAs, array_status, slot_word, cell_status}
use Rattle.tide_words.specs.tide_layout.Slots.{HasSlot, index_of_slot, index_of_element}
use Rattle.tide_words.proofs.form_laws.FormLaws.{pair_word-pos}
use Rattle.tide_words.proofs.heap_laws.ReadingLaws.{AreClaimsRead-same, HasSlot-class, tags-apart}
use Rattle.tide_words.proofs.heap_laws.CellLaw.{CellReads-live, past-put}
use Rattle.tide_words.proofs.heap_laws.CellReading.{CellReads-kept, SameCellWords}
use Rattle.tide_call.proofs.reading_laws.FreeBits.{BitsAreApart-taken, IsTakenBit-put, free_bit, status-else, status-taken}
use Rattle.tide_words.proofs.heap_laws.Parts.{RootsRead-same, is_root_region}

-- a table without words has no pairs
pub IsTableOf-zeroed : (layout : Layout) (heap : Heap) (table : ℕ) → ((place : ℕ) → HasSlot layout table place → slot_word layout heap table place ≡ 0) → IsTableOf layout heap table (λ key. None)
IsTableOf-zeroed layout heap table zeroed = record {
  forms = λ place has. inl (zeroed place has);
  said = λ place key value has is. absurd (no_pair place key value has is);
  stands = λ key value is. absurd (none-some value is);
  once = λ one other key value another has also is is_other. absurd (no_pair one key value has is);
}
  where
    no_pair : (place key : ℕ) (value : Val) → HasSlot layout table place → IsPairOf key value (slot_word layout heap table place) → ⊥
    no_pair place key value has is =
        let zero_is = zeroed place has in
        let is_word = is.is_word in
        let positive = pair_word-pos key value in
        omega (arith, positive, zero_is, is_word)

module _ (layout : Layout) (shapes : ShapeLists) (old new : Heap) (state : State) (cell : ℕ)
    (within : cell < cell_count layout) (was_free : (state.cells cell).status ≡ free)
    (empty_shape : slice_get shapes 0 ≡ Some [])
    (put : IsBitPut layout old new Free (block_of_cell cell) (cell % 64) 0) (reads : ReadsAs layout shapes old state) where
  block_within : (x : ℕ) → x < cell_count layout → block_of_cell x < block_count layout
  block_within x inside = omega (arith, inside)

  taken : IsTakenBit layout old new (block_of_cell cell) (cell % 64)
  taken = IsTakenBit-put layout old new (block_of_cell cell) (cell % 64) put

  zeroed : IsZeroed layout old cell
  zeroed = (reads.parts.cells cell within).zeroed was_free

  not_dead : bit_at (old Dead (block_of_cell cell)) (cell % 64) ≡ 0
  not_dead = reads.parts.apart (block_of_cell cell) (cell % 64) (block_within cell within) (omega arith)
      (free_bit (old Free (block_of_cell cell)) (old Dead (block_of_cell cell)) (cell % 64) live refl
      (sym ((reads.parts.cells cell within).status) ∙ was_free))

  status : (x : ℕ) → x < cell_count layout → x ≢ cell → cell_status new x ≡ cell_status old x
  status x inside apart = status-else layout old new (block_of_cell cell) (cell % 64) (omega arith)
      (block_within cell within) taken (put.others Dead refl) (block_of_cell x) (x % 64) live (block_within x inside) (omega arith)
      (λ same also. apart (omega (arith, same, also)))

  slot_same : (x slot : ℕ) → HasSlot layout x slot → slot_word layout new x slot ≡ slot_word layout old x slot
  slot_same x slot has = put.others Slots refl (index_of_slot layout x slot) (index_of_slot-below layout x slot has)

  others : (x : ℕ) → x < cell_count layout → x ≢ cell → SameCellWords layout old new x (state.cells x)
  others x inside apart = record {
    status = status x inside apart;
    structure = put.others Structure refl x inside;
    array = put.others Array refl x inside;
    claim = put.others Claim refl x inside;
    group = put.others Group refl x inside;
    slots = slot_same x;
    elements = λ alive array place is below has.
        put.others Elements refl (index_of_element layout array place) (index_of_element-below layout array place has);
  }

  born : CellReads layout shapes new cell (blank_cell live)
  born = CellReads-live layout shapes new cell (blank_cell live) refl
      (status-taken layout old new (block_of_cell cell) (cell % 64) (omega arith) (block_within cell within) taken
      (put.others Dead refl) live not_dead) (record {
        keys = record {
          shape = 0;
          is_shape = empty_shape;
          few_shapes = omega arith;
          few_keys = omega arith;
          is_word = sym (put.others Structure refl cell within ∙ zeroed.structure);
        };
        array = put.others Array refl cell within ∙ zeroed.array;
        group = put.others Group refl cell within ∙ zeroed.group;
        group_number = omega arith;
        slots = λ slot below. let has = HasSlot-class layout cell slot within below in
            record { number = tt; is_word = sym (slot_same cell slot has ∙ zeroed.slots slot has) };
        past_slots = λ slot past. refl;
        table = λ is. IsTableOf-zeroed layout new cell (λ place has. slot_same cell place has ∙ zeroed.slots place has);
        no_table = λ is key. refl;
      }) (λ place below. absurd (omega (arith, below)))

  array_else : (array : ℕ) (otherwise : Status) → array < array_count layout →
      array_status layout new array otherwise ≡ array_status layout old array otherwise
  array_else array otherwise inside = status-else layout old new (block_of_cell cell) (cell % 64) (omega arith)
      (block_within cell within) taken (put.others Dead refl) (block_of_array layout array) (array % 64) otherwise
      (omega (arith, inside)) (omega arith) (λ same. absurd (omega (arith, same, within)))

  named : (array : ℕ) → IsNamedAmong (put_cell state cell (blank_cell live)).cells array → IsNamedAmong state.cells array
  named array (x, alive, has) = put_at_elim
      (λ n (held : CellState). held.status ≡ live → held.array ≡ Some array → IsNamedAmong state.cells array)
      state.cells cell (blank_cell live)
      (λ is own. absurd (none-some array own)) (λ n apart is own. (n, is, own)) x alive has

  named_still : (array : ℕ) → IsNamedAmong state.cells array →
      IsNamedAmong (put_cell state cell (blank_cell live)).cells array
  named_still array (x, alive, has) = (
    x,
    put_at_elim (λ n (held : CellState). (state.cells n).status ≡ live → held.status ≡ live) state.cells cell
        (blank_cell live) (λ is. refl) (λ n apart is. is) x alive,
    put_at_elim (λ n (held : CellState).
        (state.cells n).status ≡ live → (state.cells n).array ≡ Some array → held.array ≡ Some array)
        state.cells cell (blank_cell live)
        (λ is own. absurd (let bad = sym is ∙ was_free in cc)) (λ n apart is own. own) x alive has,
  )

  -- then a blank cell is live there
  pub Reading-birth : ReadsAs layout shapes new (put_cell state cell (blank_cell live))
  Reading-birth = record {
    roots = RootsRead-same layout old new state
        (λ region is. put.others region (tags-apart is_root_region Free region refl is)) reads.roots;
    parts = record {
      cells = put_at_elim (λ x (held : CellState). x < cell_count layout → CellReads layout shapes new x held)
          state.cells cell (blank_cell live) (λ inside. born)
          (λ x apart inside. CellReads-kept layout shapes old new x (state.cells x) inside (others x inside apart)
          (reads.parts.cells x inside));
      arrays = record {
        named = λ array inside is. reads.parts.arrays.named array inside (named array is) ∙ sym (array_else array live inside);
        unnamed = λ array inside isnt. reads.parts.arrays.unnamed array inside (λ is. isnt (named_still array is))
            ∙ sym (array_else array spent inside);
      };
      claims = AreClaimsRead-same layout old new state.claims (put.others Claim refl) reads.parts.claims;
      apart = BitsAreApart-taken layout old new (block_of_cell cell) (cell % 64) (omega arith) (block_within cell within)
          taken (put.others Dead refl) reads.parts.apart;
      past_cells = past-put layout state.cells cell (blank_cell live) within reads.parts.past_cells;
      past_arrays = reads.parts.past_arrays;
      past_claims = reads.parts.past_claims;
      claimed = reads.parts.claimed;
    };
  }
