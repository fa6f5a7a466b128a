-- What a cell that gets one more property goes through.
use Rattle.std.proofs.Common.{ℕ, ◌≡◌, ◌<◌, ◌≤◌, refl, sym, ◌∙◌, ap, arith, Bool, true, false, List, [], ◌∷◌, ◌++◌, length, get_or, length-append, Option, None, Some}
use Rattle.std.proofs.lemmas.Bool.{eq-eqb, ne_eqb, eqb-true, false_from_ne_true}
use Rattle.std.proofs.lemmas.Option.{cond_some, slice_get_within, get_or_from_slice_get}
use Rattle.std.specs.List.{position_or_len}
use Rattle.std.specs.Prelude.{◌==◌, if◌then◌else◌, is_some, nat_lt, position, slice_get, slice_set, Contains, IfNone, IfSome}
use Rattle.tide_model.specs.declared.val.Val.{Val}
use Rattle.tide_model.specs.declared.val.Val.TheVariants.{Empty}
use Rattle.tide_model.specs.Applied.{add_property, array_after, exchange_array, is_array_full, place_of}
use Rattle.tide_model.specs.Layout.{array_count, capacity_of}
use Rattle.tide_model.specs.Numbers.{put_at, is_among}
use Rattle.tide_model.specs.Refused.{ShapeLists, is_shape}
use Rattle.tide_model.specs.References.{IsLive, RefsAreLive}
use Rattle.tide_model.specs.State.{State, CellState, free, live}
use Rattle.tide_model.proofs.NumberLaws.{among_from_contains, contains_from_among}
use Rattle.tide_shape.proofs.KeyLaws.{fewer_keys}
use Rattle.tide_plain.specs.declared.statuses.ArrayStatus.{ArrayStatus}
use Rattle.tide_plain.specs.declared.parts.stored_cell.StoredCell.{StoredCell}
use Rattle.tide_plain.specs.parts.Changes.{elements_of}
use Rattle.tide_plain.specs.statuses.Statuses.{arrays_of}
use Rattle.tide_plain.specs.stored.Stored.{Stored, properties_of}
use Rattle.tide_plain.specs.stored.Contents.{state_of, stored_at, IsSound, IsStored}
use Rattle.tide_plain.specs.stored.Properties.{with_array, with_property, IsOwnArray}
use Rattle.tide_plain.proofs.stored_laws.PropertyLaws.{own-stored, own_within, state_of-exchange}
use Rattle.tide_plain.proofs.parts_laws.Copies.{get_or-copies}

-- keys to which a look-up finds another are fewer than 64
pub fewer_keys-found : (contents : Stored) (key : ℕ) (keys : List ℕ) (found : Option ℕ) → IsStored contents → IfSome found (λ next. slice_get contents.shapes next ≡ Some (keys ++ key ∷ [])) →
    IfSome found (λ next. length keys < 64)
fewer_keys-found contents key keys None stored there = tt
fewer_keys-found contents key keys (Some next) stored there = fewer_keys contents.shapes next key keys stored.table there

-- a value that was put at a place is there
pub put_at-here : {X : Type 0} (f : ℕ → X) (place : ℕ) (value : X) → put_at f place value place ≡ value
put_at-here f place value = ap (λ (b : Bool). if b then value else f place) (eq-eqb place place refl)

-- an array that was free is a cell's own once it was taken for it
pub IsOwnArray-taken : (state : State) (cell taken : ℕ) → RefsAreLive state → IsLive state cell → state.arrays taken ≡ free → IsOwnArray (with_array state cell (Some taken)) cell taken
IsOwnArray-taken state cell taken references is_live is_free = record {
  is_live = ap (λ (c : CellState). c.status) (put_at-here state.cells cell changed) ∙ is_live;
  has = ap (λ (c : CellState). c.array) (put_at-here state.cells cell changed);
  alone = λ other alive has. step other (other == cell) refl alive has;
}
  where
    changed : CellState
    changed = record (state.cells cell) { array = Some taken }

    step : (other : ℕ) (b : Bool) → (other == cell) ≡ b → (if b then changed else state.cells other).status ≡ live → (if b then changed else state.cells other).array ≡ Some taken → other ≡ cell
    step other true e alive has = eqb-true other cell e
    step other false e alive has =
        let is = references.arrays_are_live other taken alive has in
        let clash : free ≡ live = sym is_free ∙ is in absurd (cc)

-- the array that is stored for a live cell is within a bound
pub array_below : (contents : Stored) (cell bound : ℕ) (stored : StoredCell) → IsSound contents → IsLive (state_of contents) cell → stored ≡ stored_at contents cell →
    bound ≡ array_count contents.layout → IfSome stored.array (λ array. array < bound)
array_below contents cell bound stored sound is_live is_stored is_bound = step stored.array refl
  where
    step : (old : Option ℕ) → stored.array ≡ old → IfSome old (λ array. array < bound)
    step None is = tt
    step (Some array) is =
        let below = own_within contents cell array sound (own-stored contents cell array stored sound is_live is_stored is) in
        omega (arith, below, is_bound)

-- and hides what was put there before
pub put_at-again : {X : Type 0} (f : ℕ → X) (place : ℕ) (first value : X) (n : ℕ) → put_at (put_at f place first) place value n ≡ put_at f place value n
put_at-again f place first value n = step (n == place)
  where
    step : (b : Bool) → (if b then value else if b then first else f n) ≡ (if b then value else f n)
    step true = refl
    step false = refl

-- a property after an array
pub with_property-array : (state : State) (cell key : ℕ) (value : Val) (took : Option ℕ) →
    with_property (with_array state cell took) cell ((state.cells cell).keys ++ key ∷ []) value ≡ add_property state cell key value took
with_property-array state cell key value took =
    ap (λ (c : CellState). record (with_array state cell took) {
      cells = put_at (with_array state cell took).cells cell (record c {
        keys = (state.cells cell).keys ++ key ∷ [];
        properties = put_at c.properties (length c.keys) value;
      });
    }) (put_at-here state.cells cell (record (state.cells cell) { array = array_after (state.cells cell).array took }))
    ∙ (λ i. record (with_array state cell took) {
      cells = λ n. put_at-again state.cells cell (record (state.cells cell) { array = array_after (state.cells cell).array took })
          (record (state.cells cell) {
            keys = (state.cells cell).keys ++ key ∷ [];
            properties = put_at (state.cells cell).properties (length (state.cells cell).keys) value;
            array = array_after (state.cells cell).array took;
          }) n i;
    })

-- a cell that takes no array stays as it is
pub with_array-none : (state : State) (cell : ℕ) → state ≡ with_array state cell None
with_array-none state cell = λ i. record state { cells = λ n. same n (n == cell) refl i }
  where
    same : (n : ℕ) (b : Bool) → (n == cell) ≡ b → state.cells n ≡ (if b then state.cells cell else state.cells n)
    same n true e = ap state.cells (eqb-true n cell e)
    same n false e = refl

-- another array leaves the keys
pub keys_between : (contents between : Stored) (cell : ℕ) (took : Option ℕ) → state_of between ≡ with_array (state_of contents) cell took →
    ((state_of between).cells cell).keys ≡ ((state_of contents).cells cell).keys
keys_between contents between cell took exchanged =
    ap (λ (s : State). (s.cells cell).keys) exchanged
    ∙ ap (λ (c : CellState). c.keys) (put_at-here (state_of contents).cells cell (record ((state_of contents).cells cell) { array = array_after ((state_of contents).cells cell).array took }))

-- a cell has a free array in place of its old one, with what that holds
pub state_of-exchanged : (contents : Stored) (cell taken : ℕ) (stored : StoredCell) (statuses : List ArrayStatus) (elements : List (List Val)) → IsSound contents → IsLive (state_of contents) cell →
    stored ≡ stored_at contents cell → cell < length contents.cells → taken < length contents.elements → (state_of contents).arrays taken ≡ free →
    elements ≡ slice_set contents.elements taken (elements_of contents.elements stored.array) →
    ((array : ℕ) → arrays_of statuses array ≡ exchange_array (arrays_of contents.statuses) stored.array (Some taken) array) →
    state_of (record contents { cells = slice_set contents.cells cell (record stored { array = Some taken }); statuses = statuses; elements = elements })
    ≡ with_array (state_of contents) cell (Some taken)
state_of-exchanged contents cell taken stored statuses elements sound is_live is_stored in_cells within is_free filled exchanged =
    ap (λ (es : List (List Val)). state_of (record contents { cells = slice_set contents.cells cell (record stored { array = Some taken }); statuses = statuses; elements = es })) filled
    ∙ state_of-exchange contents cell taken stored.array stored (elements_of contents.elements stored.array) statuses sound is_live is_stored (ap (λ (s : StoredCell). s.array) is_stored)
    in_cells within is_free (same stored.array) exchanged
  where
    same : (old : Option ℕ) (place : ℕ) → get_or (elements_of contents.elements old) place Empty ≡ properties_of contents.elements old place
    same None place = get_or-copies 64 place Empty
    same (Some array) place = refl
