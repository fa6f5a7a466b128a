-- Which array has a cell's properties, and what a change of them leaves.
use Rattle.std.proofs.Common.{ℕ, ◌≡◌, ◌≢◌, ◌<◌, refl, sym, ◌∙◌, ap, subst, arith, true, false, List, [], length, get_or, Option, None, Some, inl, inr}
use Rattle.std.proofs.lemmas.Bool.{cases_lt}
use Rattle.std.proofs.lemmas.List.{get_or-set_same, get_or-set_other, get_or_past}
use Rattle.std.specs.Prelude.{◌==◌, slice_set}
use Rattle.tide_model.specs.declared.val.Val.{Val}
use Rattle.tide_model.specs.declared.val.Val.TheVariants.{Empty}
use Rattle.tide_model.specs.Applied.{put_cell, exchange_array, is_array_full}
use Rattle.tide_model.specs.Layout.{array_count, capacity_of}
use Rattle.tide_model.specs.Numbers.{put_at}
use Rattle.tide_model.specs.Refused.{ShapeLists}
use Rattle.tide_model.specs.References.{IsLive}
use Rattle.tide_model.specs.State.{CellState, free, live}
use Rattle.tide_shape.specs.ShapeTable.{keys_of}
use Rattle.tide_plain.specs.stored.Stored.{Stored}
use Rattle.tide_plain.specs.declared.parts.stored_cell.StoredCell.{StoredCell}
use Rattle.tide_plain.specs.declared.statuses.ArrayStatus.{ArrayStatus}
use Rattle.tide_plain.specs.declared.statuses.ArrayStatus.TheVariants.{Free}
use Rattle.tide_plain.specs.statuses.Statuses.{arrays_of, status_of}
use Rattle.tide_plain.specs.parts.PartLists.{blank_stored, no_elements}
use Rattle.tide_plain.specs.stored.Stored.{properties_of, live_cell}
use Rattle.tide_plain.specs.stored.Contents.{state_of, stored_at, IsStored, IsSound}
use Rattle.tide_plain.specs.stored.Properties.{IsOwnArray, IsPut, with_array, with_property}
use Rattle.tide_plain.proofs.stored_laws.CellLaws.{flag_from_live, cell_from_flag, cells_of-put}
use Rattle.tide_plain.proofs.stored_laws.StoredCellLaws.{live_is-stored}

-- a cell whose array isn't full has keys
pub keys_from-room : (cell : CellState) → is_array_full cell ≡ false → cell.keys ≢ []
keys_from-room cell room none =
    let e : is_array_full cell ≡ true = ap (λ (keys : List ℕ). length keys == capacity_of (length keys)) none in
    let clash : true ≡ false = sym e ∙ room in cc

-- what an array holds of which an element changes, what another one holds, and one that is filled anew
pub properties_of-put : (elements : List (List Val)) (array place : ℕ) (value : Val) (row changed : List Val) → row ≡ get_or elements array no_elements → array < length elements →
    IsPut row changed place value → (k : ℕ) → properties_of (slice_set elements array changed) (Some array) k ≡ put_at (properties_of elements (Some array)) place value k
properties_of-put elements array place value row changed is within put k =
    ap (λ (r : List Val). get_or r k Empty) (get_or-set_same elements array changed no_elements within)
    ∙ put k
    ∙ ap (λ (r : List Val). put_at (λ j. get_or r j Empty) place value k) is

pub properties_of-other : (elements : List (List Val)) (array : ℕ) (row : List Val) (other : Option ℕ) → (other ≡ Some array → ⊥) →
    (k : ℕ) → properties_of (slice_set elements array row) other k ≡ properties_of elements other k
properties_of-other elements array row None differs k = refl
properties_of-other elements array row (Some other) differs k =
    ap (λ (r : List Val). get_or r k Empty) (get_or-set_other elements array other row no_elements (λ e. differs (ap Some e)))

pub properties_of-filled : (elements : List (List Val)) (array : ℕ) (row : List Val) → array < length elements →
    (k : ℕ) → properties_of (slice_set elements array row) (Some array) k ≡ get_or row k Empty
properties_of-filled elements array row within k = ap (λ (r : List Val). get_or r k Empty) (get_or-set_same elements array row no_elements within)

-- a live array is one of the layout
pub array_within : (contents : Stored) (array : ℕ) → IsStored contents → (state_of contents).arrays array ≡ live → array < array_count contents.layout
array_within contents array stored is = elim (cases_lt array (length contents.statuses)) [
  | inl below ↦ let all = stored.all_statuses in omega (arith, below, all)
  | inr past ↦ absurd (let clash : free ≡ live = sym (ap status_of (get_or_past contents.statuses array Free past)) ∙ is in cc)
]

-- the keys of a live cell are those of the shape that is stored for it
pub keys_are-stored : (contents : Stored) (cell : ℕ) (stored : StoredCell) → IsLive (state_of contents) cell → stored ≡ stored_at contents cell →
    keys_of contents.shapes stored.shape ≡ ((state_of contents).cells cell).keys
keys_are-stored contents cell stored is_live is_stored =
    ap (λ (s : StoredCell). keys_of contents.shapes s.shape) is_stored ∙ sym (ap (λ (c : CellState). c.keys) (live_is-stored contents cell is_live))

-- the array that is stored for a live cell is live, and no other live cell's
pub own-stored : (contents : Stored) (cell array : ℕ) (stored : StoredCell) → IsSound contents → IsLive (state_of contents) cell → stored ≡ stored_at contents cell → stored.array ≡ Some array →
    IsOwnArray (state_of contents) cell array
own-stored contents cell array stored sound is_live is_stored is =
    let has : ((state_of contents).cells cell).array ≡ Some array = ap (λ (c : CellState). c.array) (live_is-stored contents cell is_live) ∙ ap (λ (s : StoredCell). s.array) (sym is_stored) ∙ is in
    record {
      is_live = is_live;
      has = has;
      alone = λ other other_live other_has. sound.references.arrays_are_own other cell array other_live is_live other_has has;
    }

pub own_within : (contents : Stored) (cell array : ℕ) → IsSound contents → IsOwnArray (state_of contents) cell array → array < array_count contents.layout
own_within contents cell array sound own =
    array_within contents array sound.stored (sound.references.arrays_are_live cell array own.is_live own.has)

-- a live cell with properties has an array of its own
pub own_array : (contents : Stored) (cell : ℕ) → IsSound contents → IsLive (state_of contents) cell → ((state_of contents).cells cell).keys ≢ [] →
    (array : ℕ) × (array < array_count contents.layout) × IsOwnArray (state_of contents) cell array
own_array contents cell sound is_live some = step (stored_at contents cell).array refl
  where
    step : (old : Option ℕ) → (stored_at contents cell).array ≡ old → (array : ℕ) × (array < array_count contents.layout) × IsOwnArray (state_of contents) cell array
    step None is = absurd (let e = sound.stored.arrays cell is_live (λ none. some (sym (keys_are-stored contents cell (stored_at contents cell) is_live refl) ∙ none)) in cc)
    step (Some array) is =
        let own = own-stored contents cell array (stored_at contents cell) sound is_live refl is in
        (array, own_within contents cell array sound own, own)

-- the array that is a cell's own is stored for it, and for no other live cell
pub own_is-stored : (contents : Stored) (cell array : ℕ) → IsOwnArray (state_of contents) cell array → (stored_at contents cell).array ≡ Some array
own_is-stored contents cell array own = sym (ap (λ (c : CellState). c.array) (live_is-stored contents cell own.is_live)) ∙ own.has

others_differ : (contents : Stored) (cell array other : ℕ) → IsOwnArray (state_of contents) cell array → other ≢ cell →
    get_or contents.are_live other false ≡ true → (stored_at contents other).array ≡ Some array → ⊥
others_differ contents cell array other own differs flag has =
    let is = cell_from_flag contents.shapes contents.elements contents.are_live contents.cells other flag in
    differs (own.alone other (ap (λ (c : CellState). c.status) is) (ap (λ (c : CellState). c.array) is ∙ has))

-- what a live cell is after an element of its own array, or of another's, has changed
live_cell-put : (shapes : ShapeLists) (elements : List (List Val)) (array place : ℕ) (value : Val) (row changed : List Val) (stored : StoredCell) → row ≡ get_or elements array no_elements →
    array < length elements → IsPut row changed place value → stored.array ≡ Some array →
    live_cell shapes (slice_set elements array changed) stored
    ≡ record (live_cell shapes elements stored) { properties = put_at (live_cell shapes elements stored).properties place value }
live_cell-put shapes elements array place value row changed stored is within put has = λ i. record (live_cell shapes elements stored) { properties = λ k. same k i }
  where
    same : (k : ℕ) → properties_of (slice_set elements array changed) stored.array k ≡ put_at (properties_of elements stored.array) place value k
    same = subst (λ (o : Option ℕ). (k : ℕ) → properties_of (slice_set elements array changed) o k ≡ put_at (properties_of elements o) place value k) (sym has)
        (properties_of-put elements array place value row changed is within put)

live_cell-other : (shapes : ShapeLists) (elements : List (List Val)) (array : ℕ) (row : List Val) (stored : StoredCell) → (stored.array ≡ Some array → ⊥) →
    live_cell shapes (slice_set elements array row) stored ≡ live_cell shapes elements stored
live_cell-other shapes elements array row stored differs =
    λ i. record (live_cell shapes elements stored) { properties = λ k. properties_of-other elements array row stored.array differs k i }

-- an element of a cell's own array changes
pub state_of-property : (contents : Stored) (cell array place : ℕ) (value : Val) (row changed : List Val) → row ≡ get_or contents.elements array no_elements →
    array < length contents.elements → IsPut row changed place value → IsOwnArray (state_of contents) cell array →
    state_of (record contents { elements = slice_set contents.elements array changed })
    ≡ put_cell (state_of contents) cell (record ((state_of contents).cells cell) { properties = put_at ((state_of contents).cells cell).properties place value })
state_of-property contents cell array place value row changed is within put own =
    (λ i. record (state_of contents) {
      cells = λ n. cells_of-put contents.shapes contents.elements (slice_set contents.elements array changed)
          contents.are_live contents.cells contents.cells cell
          (record (live_cell contents.shapes contents.elements (stored_at contents cell)) { properties = put_at (properties_of contents.elements (stored_at contents cell).array) place value })
          (flag_from_live contents.shapes contents.elements contents.are_live contents.cells cell own.is_live)
          (live_cell-put contents.shapes contents.elements array place value row changed (stored_at contents cell) is within put (own_is-stored contents cell array own))
          (λ other differs flag. live_cell-other contents.shapes contents.elements array changed (stored_at contents other) (others_differ contents cell array other own differs flag))
          n i;
    })
    ∙ ap (λ (c : CellState). put_cell (state_of contents) cell (record c { properties = put_at c.properties place value })) (sym (live_is-stored contents cell own.is_live))

-- a cell gets another shape and the property behind those that it has
pub state_of-append : (contents : Stored) (cell array shape place : ℕ) (value : Val) (stored : StoredCell) (row changed : List Val) → stored ≡ stored_at contents cell → row ≡ get_or contents.elements array no_elements →
    cell < length contents.cells → array < length contents.elements → IsPut row changed place value → place ≡ length ((state_of contents).cells cell).keys →
    IsOwnArray (state_of contents) cell array →
    state_of (record contents { cells = slice_set contents.cells cell (record stored { shape = shape }); elements = slice_set contents.elements array changed })
    ≡ with_property (state_of contents) cell (keys_of contents.shapes shape) value
state_of-append contents cell array shape place value stored row changed is_stored is in_cells within put last own =
    ap (λ (s : StoredCell). state_of (record contents { cells = slice_set contents.cells cell (record s { shape = shape }); elements = slice_set contents.elements array changed })) is_stored
    ∙ (λ i. record (state_of contents) {
      cells = λ n. cells_of-put contents.shapes contents.elements (slice_set contents.elements array changed)
          contents.are_live contents.cells (slice_set contents.cells cell shaped) cell
          (record (live_cell contents.shapes contents.elements shaped) { properties = put_at (properties_of contents.elements shaped.array) place value })
          (flag_from_live contents.shapes contents.elements contents.are_live contents.cells cell own.is_live)
          (ap (live_cell contents.shapes (slice_set contents.elements array changed)) (get_or-set_same contents.cells cell shaped blank_stored in_cells)
          ∙ live_cell-put contents.shapes contents.elements array place value row changed shaped is within put (own_is-stored contents cell array own))
          (λ other differs flag. ap (live_cell contents.shapes (slice_set contents.elements array changed)) (get_or-set_other contents.cells cell other shaped blank_stored differs)
          ∙ live_cell-other contents.shapes contents.elements array changed (stored_at contents other) (others_differ contents cell array other own differs flag))
          n i;
    })
    ∙ ap (λ (c : CellState). put_cell (state_of contents) cell (record c { keys = keys_of contents.shapes shape; properties = put_at c.properties place value })) (sym (live_is-stored contents cell own.is_live))
    ∙ ap (λ (k : ℕ). put_cell (state_of contents) cell (record ((state_of contents).cells cell) { keys = keys_of contents.shapes shape; properties = put_at ((state_of contents).cells cell).properties k value })) last
  where
    shaped : StoredCell
    shaped = record (stored_at contents cell) { shape = shape }

-- a cell has a free array in place of its old one, with what that holds
pub state_of-exchange : (contents : Stored) (cell taken : ℕ) (old : Option ℕ) (stored : StoredCell) (row : List Val) (statuses : List ArrayStatus) → IsSound contents → IsLive (state_of contents) cell →
    stored ≡ stored_at contents cell → old ≡ (stored_at contents cell).array → cell < length contents.cells → taken < length contents.elements → (state_of contents).arrays taken ≡ free →
    ((place : ℕ) → get_or row place Empty ≡ properties_of contents.elements old place) →
    ((array : ℕ) → arrays_of statuses array ≡ exchange_array (arrays_of contents.statuses) old (Some taken) array) →
    state_of (record contents { cells = slice_set contents.cells cell (record stored { array = Some taken }); statuses = statuses; elements = slice_set contents.elements taken row })
    ≡ with_array (state_of contents) cell (Some taken)
state_of-exchange contents cell taken old stored row statuses sound is_live is_stored is_old in_cells within is_free same_row exchanged =
    ap (λ (s : StoredCell). state_of (record contents { cells = slice_set contents.cells cell (record s { array = Some taken }); statuses = statuses; elements = slice_set contents.elements taken row })) is_stored
    ∙ (λ i. record (state_of contents) {
      cells = λ n. cells_of-put contents.shapes contents.elements (slice_set contents.elements taken row)
          contents.are_live contents.cells (slice_set contents.cells cell changed) cell
          (record (live_cell contents.shapes contents.elements (stored_at contents cell)) { array = Some taken })
          (flag_from_live contents.shapes contents.elements contents.are_live contents.cells cell is_live)
          (ap (live_cell contents.shapes (slice_set contents.elements taken row)) (get_or-set_same contents.cells cell changed blank_stored in_cells)
          ∙ (λ j. record (live_cell contents.shapes contents.elements (stored_at contents cell)) { array = Some taken; properties = λ k. same k j }))
          (λ other differs flag. ap (live_cell contents.shapes (slice_set contents.elements taken row)) (get_or-set_other contents.cells cell other changed blank_stored differs)
          ∙ live_cell-other contents.shapes contents.elements taken row (stored_at contents other) (not_taken other flag))
          n i;
      arrays = λ n. exchanged n i;
    })
    ∙ ap (λ (o : Option ℕ). record (state_of contents) {
      cells = put_at (state_of contents).cells cell (record (live_cell contents.shapes contents.elements (stored_at contents cell)) { array = Some taken });
      arrays = exchange_array (state_of contents).arrays o (Some taken);
    }) is_old
    ∙ ap (λ (c : CellState). record (state_of contents) {
      cells = put_at (state_of contents).cells cell (record c { array = Some taken });
      arrays = exchange_array (state_of contents).arrays c.array (Some taken);
    }) (sym (live_is-stored contents cell is_live))
  where
    changed : StoredCell
    changed = record (stored_at contents cell) { array = Some taken }

    same : (k : ℕ) → properties_of (slice_set contents.elements taken row) (Some taken) k ≡ properties_of contents.elements (stored_at contents cell).array k
    same k = properties_of-filled contents.elements taken row within k ∙ same_row k ∙ ap (λ (o : Option ℕ). properties_of contents.elements o k) is_old

    not_taken : (other : ℕ) → get_or contents.are_live other false ≡ true → (stored_at contents other).array ≡ Some taken → ⊥
    not_taken other flag has =
        let is = cell_from_flag contents.shapes contents.elements contents.are_live contents.cells other flag in
        let alive = sound.references.arrays_are_live other taken (ap (λ (c : CellState). c.status) is) (ap (λ (c : CellState). c.array) is ∙ has) in
        let clash : free ≡ live = sym is_free ∙ alive in cc

-- the array that is stored for a live cell is one of those that are stored
pub array_in-range : (contents : Stored) (cell array : ℕ) → IsSound contents → IsLive (state_of contents) cell → (stored_at contents cell).array ≡ Some array → array < length contents.elements
array_in-range contents cell array sound is_live is =
    let below = own_within contents cell array sound (own-stored contents cell array (stored_at contents cell) sound is_live refl is) in
    omega (arith, below, sound.stored.all_elements)
