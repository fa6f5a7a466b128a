-- A property is set, and a property is appended to an array with room.
use Rattle.std.proofs.Common.{ℕ, ◌≡◌, ◌≢◌, ◌+◌, ◌<◌, refl, sym, ◌∙◌, ap, subst, arith, List, [], ◌∷◌, ◌++◌, Some, None, length, length-append, inl, inr}
use Rattle.std.proofs.lemmas.Option.{same_Some}
use Rattle.tide_model.specs.declared.val.Val.{Val}
use Rattle.tide_model.specs.Applied.{add_property, put_cell}
use Rattle.tide_model.specs.Layout.{Layout, cell_count}
use Rattle.tide_model.specs.Numbers.{put_at}
use Rattle.tide_model.specs.References.{IsLive}
use Rattle.tide_model.specs.Refused.{ShapeLists}
use Rattle.tide_model.specs.State.{CellState, State, is_free}
use Rattle.tide_model.proofs.ReferenceLaws.{put_at_elim}
use Rattle.tide_words.specs.tide_layout.declared.region.Region.TheVariants.{Elements, Structure}
use Rattle.tide_words.specs.heap.Heap.{Heap, write}
use Rattle.tide_words.specs.heap.Reading.{CellReads, IsStructureOf, IsValueOf, PropertyReads, ReadsAs, TakenReads, element_word}
use Rattle.tide_words.specs.tide_layout.Slots.{HasElement, index_of_element}
use Rattle.tide_words.specs.forms.ValueWord.{HasU32, val_word}
use Rattle.tide_words.proofs.heap_laws.HeapLaws.{write-same}
use Rattle.tide_words.proofs.tide_layout.SlotPlaces.{index_of_element-alone}
use Rattle.tide_call.specs.ShapeWord.{IsShapeWord, whole_word}
use Rattle.tide_words.proofs.heap_laws.CellLaw.{CellReads-live, ReadsAs-cell}
use Rattle.tide_words.proofs.heap_laws.CellReading.{IsTableOf-kept, SameCellWords}
use Rattle.tide_words.proofs.heap_laws.Frames.{SameCellWords-then, else-element, else-structure}
use Rattle.tide_words.proofs.heap_laws.Parts.{SameRoots-then, SameRoots-write}
use Rattle.tide_call.proofs.reading_laws.RootReading.{IsValueOf-else, IsValueOf-written}

-- no other live cell has the array
abbrev pub IsOwnArray : State → ℕ → ℕ → Type 0
IsOwnArray state cell array = (other : ℕ) → other ≢ cell → IsLive state other → (state.cells other).array ≡ Some array → ⊥

pub IsStructureOf-whole : (shapes : ShapeLists) (keys : List ℕ) (shape word : ℕ) → IsShapeWord shapes keys shape → word ≡ whole_word shape (length keys) → IsStructureOf shapes keys word
IsStructureOf-whole shapes keys shape word is same = record { shape = shape; is_shape = is.is_shape; few_shapes = is.few_shapes; few_keys = is.few_keys; is_word = sym same }

module _ (layout : Layout) (shapes : ShapeLists) (heap : Heap) (state : State) (cell array : ℕ) (within : cell < cell_count layout) (alive : IsLive state cell)
    (has_array : (state.cells cell).array ≡ Some array) (own : IsOwnArray state cell array) (reads : ReadsAs layout shapes heap state) where
  was : CellReads layout shapes heap cell (state.cells cell)
  was = reads.parts.cells cell within

  taken : TakenReads layout shapes heap cell (state.cells cell)
  taken = was.taken (ap is_free alive)

  -- the cell's property at a place stands in this array
  at_place : (place : ℕ) → place < length (state.cells cell).keys → HasElement layout array place × IsValueOf ((state.cells cell).properties place) (element_word layout heap array place)
  at_place place below =
      let (other, is, has, value) = was.properties alive place below in
      let same : other ≡ array = same_Some other array (sym is ∙ has_array) in
      subst (λ (a : ℕ). HasElement layout a place × IsValueOf ((state.cells cell).properties place) (element_word layout heap a place)) same (has, value)

  abbrev element_set : ℕ → Val → Heap
  element_set place value = write heap Elements (index_of_element layout array place) (val_word value)

  -- an element of it that is written, and the others
  element : (place : ℕ) (value : Val) → HasElement layout array place → HasU32 value → (at : ℕ) → (at ≢ place → HasElement layout array at × IsValueOf ((state.cells cell).properties at) (element_word layout heap array at)) →
      PropertyReads layout (element_set place value) (record (state.cells cell) { properties = put_at (state.cells cell).properties place value }) at
  element place value has fits at else_at = (let both = elements at else_at in (array, has_array, both.0, both.1))
    where
      elements : (at : ℕ) → (at ≢ place → HasElement layout array at × IsValueOf ((state.cells cell).properties at) (element_word layout heap array at)) →
          HasElement layout array at × IsValueOf (put_at (state.cells cell).properties place value at) (element_word layout (element_set place value) array at)
      elements = put_at_elim (λ n v. (n ≢ place → HasElement layout array n × IsValueOf ((state.cells cell).properties n) (element_word layout heap array n)) →
          HasElement layout array n × IsValueOf v (element_word layout (element_set place value) array n)) (state.cells cell).properties place value
          (λ h. (has, IsValueOf-written heap Elements (index_of_element layout array place) value fits))
          (λ n apart h. (
            (h apart).0,
            IsValueOf-else heap Elements (index_of_element layout array place) (index_of_element layout array n) (val_word value) ((state.cells cell).properties n)
                (λ same. apart (index_of_element-alone layout array array place n has.element_within (h apart).0.element_within same).1) (h apart).1,
          ))

  else_words : (place : ℕ) (value : Val) → HasElement layout array place → (x : ℕ) → x ≢ cell → SameCellWords layout heap (element_set place value) x (state.cells x)
  else_words place value has x apart = else-element layout heap x (val_word value) (state.cells x) array place has.element_within (λ is_live is below. own x apart is_live is)

  -- a property has another value
  pub Reading-property : (place : ℕ) (value : Val) → place < length (state.cells cell).keys → HasU32 value →
      ReadsAs layout shapes (write heap Elements (index_of_element layout array place) (val_word value)) (put_cell state cell (record (state.cells cell) { properties = put_at (state.cells cell).properties place value }))
  Reading-property place value below fits =
      let has : HasElement layout array place = (at_place place below).0 in
      ReadsAs-cell layout shapes heap (element_set place value) state cell (record (state.cells cell) { properties = put_at (state.cells cell).properties place value }) within
      (SameRoots-write layout heap Elements (index_of_element layout array place) (val_word value) refl) (λ index inside. refl) (λ index inside. refl) (λ index inside. refl)
      (λ x inside apart. else_words place value has x apart) reads refl refl
      (CellReads-live layout shapes (element_set place value) cell (record (state.cells cell) { properties = put_at (state.cells cell).properties place value }) alive (sym was.status ∙ alive) (record {
        keys = taken.keys;
        array = taken.array;
        group = taken.group;
        group_number = taken.group_number;
        slots = taken.slots;
        past_slots = taken.past_slots;
        table = λ is. IsTableOf-kept layout heap (element_set place value) cell (state.cells cell).pairs (λ at has_at. refl) (taken.table is);
        no_table = taken.no_table;
      }) (λ at inside. element place value has fits at (λ apart. at_place at inside)))

  -- a property is appended at the place after the last
  pub Reading-appended : (key shape : ℕ) (value : Val) → HasElement layout array (length (state.cells cell).keys) → IsShapeWord shapes ((state.cells cell).keys ++ key ∷ []) shape → HasU32 value →
      ReadsAs layout shapes (write (write heap Elements (index_of_element layout array (length (state.cells cell).keys)) (val_word value)) Structure cell (whole_word shape (length (state.cells cell).keys + 1)))
      (add_property state cell key value None)
  Reading-appended key shape value has is_shape fits =
      ReadsAs-cell layout shapes heap new state cell held within
      (SameRoots-then layout heap one new (SameRoots-write layout heap Elements (index_of_element layout array count) (val_word value) refl) (SameRoots-write layout one Structure cell word refl))
      (λ index inside. refl) (λ index inside. refl) (λ index inside. refl)
      (λ x inside apart. SameCellWords-then layout heap one new x (state.cells x) (else_words count value has x apart) (else-structure layout one x word (state.cells x) cell apart)) reads refl refl
      (CellReads-live layout shapes new cell held alive (sym was.status ∙ alive) (record {
        keys = IsStructureOf-whole shapes ((state.cells cell).keys ++ key ∷ []) shape (new Structure cell) is_shape (write-same one Structure cell word ∙ ap (whole_word shape) (sym (length-append (state.cells cell).keys (key ∷ []))));
        array = taken.array;
        group = taken.group;
        group_number = taken.group_number;
        slots = taken.slots;
        past_slots = taken.past_slots;
        table = λ is. IsTableOf-kept layout heap new cell (state.cells cell).pairs (λ at has_at. refl) (taken.table is);
        no_table = taken.no_table;
      }) (λ at inside. (let longer = length-append (state.cells cell).keys (key ∷ []) in
      element count value has fits at (λ apart. at_place at (nearer at count (subst (λ (n : ℕ). at < n) longer inside) apart)))))
    where
      count : ℕ
      count = length (state.cells cell).keys

      one : Heap
      one = element_set count value

      word : ℕ
      word = whole_word shape (count + 1)

      new : Heap
      new = write one Structure cell word

      held : CellState
      held = record (state.cells cell) { keys = (state.cells cell).keys ++ key ∷ []; properties = put_at (state.cells cell).properties count value }

      nearer : (a b : ℕ) → a < b + 1 → a ≢ b → a < b
      nearer a b below apart = elim (Rattle.std.proofs.lemmas.Bool.cases_order a b) [
        | inl same ↦ absurd (apart same)
        | inr ordered ↦ elim ordered [ inl less ↦ less | inr more ↦ absurd (omega arith) ]
      ]
