-- That contents stay stored as they should be where a cell changes.
use Rattle.std.proofs.Common.{ℕ, ◌≡◌, ◌≢◌, ◌<◌, refl, sym, ◌∙◌, ap, subst, arith, Bool, false, List, [], length, get_or, Option, None, Some, inl, inr}
use Rattle.std.proofs.lemmas.Bool.{cases_eq}
use Rattle.std.proofs.lemmas.List.{length-set, get_or-set_same, get_or-set_other}
use Rattle.std.proofs.lemmas.Option.{slice_get_within, get_or_from_slice_get}
use Rattle.std.specs.Prelude.{slice_set, IsSome}
use Rattle.tide_model.specs.declared.val.Val.{Val}
use Rattle.tide_model.specs.References.{IsLive, RefsAreLive}
use Rattle.tide_model.specs.State.{CellState}
use Rattle.tide_shape.specs.ShapeTable.{keys_of}
use Rattle.tide_plain.specs.stored.Stored.{Stored}
use Rattle.tide_plain.specs.declared.parts.stored_cell.StoredCell.{StoredCell}
use Rattle.tide_plain.specs.declared.statuses.ArrayStatus.{ArrayStatus}
use Rattle.tide_plain.specs.stored.Contents.{state_of, stored_at, IsSound, IsStored}
use Rattle.tide_plain.specs.parts.Pairs.{IsDistinctPairs}
use Rattle.tide_plain.specs.parts.PartLists.{blank_stored}
use Rattle.tide_plain.proofs.stored_laws.CellLaws.{flag_from_live, cell_from_flag, live_below}
use Rattle.tide_plain.proofs.parts_laws.Copies.{get_or-copies}

-- what may be stored for a live cell
pub record MayStand (contents : Stored) (stored : StoredCell) : Type 0 where
  pub shape : stored.shape < length contents.shapes
  pub array : keys_of contents.shapes stored.shape ≢ [] → IsSome stored.array
  pub pairs : IsDistinctPairs stored.pairs

-- what is stored for a live cell may
pub MayStand-stored : (contents : Stored) (cell : ℕ) → IsStored contents → IsLive (state_of contents) cell → MayStand contents (stored_at contents cell)
MayStand-stored contents cell stored is_live = record {
  shape = stored.shapes cell is_live;
  array = stored.arrays cell is_live;
  pairs = stored.pairs cell is_live;
}

-- a blank cell may
pub MayStand-blank : (contents : Stored) → IsStored contents → MayStand contents blank_stored
MayStand-blank contents stored = record {
  shape = slice_get_within contents.shapes 0 [] stored.table.empty;
  array = λ some. absurd (some (get_or_from_slice_get contents.shapes 0 [] [] stored.table.empty));
  pairs = λ one other pair again at at_other same.
      let clash : None ≡ Some pair = sym (get_or-copies 8 one None) ∙ at in absurd (cc);
}

-- A cell changes, and is live or was.
pub IsStored-cell : (contents : Stored) (cell : ℕ) (changed : StoredCell) (are_live : List Bool) (statuses : List ArrayStatus) (elements : List (List Val)) →
    cell < length contents.cells → length are_live ≡ length contents.are_live → length statuses ≡ length contents.statuses →
    length elements ≡ length contents.elements →
    ((other : ℕ) → other ≢ cell → get_or are_live other false ≡ get_or contents.are_live other false) →
    MayStand contents changed → IsStored contents →
    IsStored (record contents { are_live = are_live; cells = slice_set contents.cells cell changed; statuses = statuses; elements = elements })
IsStored-cell contents cell changed are_live statuses elements within flags_long statuses_long elements_long others may old = record {
  limits = old.limits;
  table = old.table;
  all_mutators = old.all_mutators;
  all_strong = old.all_strong;
  all_weak = old.all_weak;
  all_flags = flags_long ∙ old.all_flags;
  all_cells = length-set contents.cells cell changed ∙ old.all_cells;
  all_statuses = statuses_long ∙ old.all_statuses;
  all_elements = elements_long ∙ old.all_elements;
  shapes = λ other alive. (each other alive).shape;
  arrays = λ other alive. (each other alive).array;
  pairs = λ other alive. (each other alive).pairs;
}
  where
    each : (other : ℕ) → IsLive (state_of (record contents { are_live = are_live; cells = slice_set contents.cells cell changed; statuses = statuses; elements = elements })) other →
        MayStand contents (get_or (slice_set contents.cells cell changed) other blank_stored)
    each other alive = elim (cases_eq other cell) [
      | inl here ↦ subst (λ (n : ℕ). MayStand contents (get_or (slice_set contents.cells cell changed) n blank_stored)) (sym here)
          (subst (MayStand contents) (sym (get_or-set_same contents.cells cell changed blank_stored within)) may)
      | inr away ↦ subst (MayStand contents) (sym (get_or-set_other contents.cells cell other changed blank_stored away))
          (MayStand-stored contents other old
          (ap (λ (c : CellState). c.status) (cell_from_flag contents.shapes contents.elements contents.are_live contents.cells other
          (sym (others other away)
          ∙ flag_from_live contents.shapes elements are_live (slice_set contents.cells cell changed) other alive))))
    ]

-- a live cell has other slots, or another group
pub IsStored-kept : (contents : Stored) (cell : ℕ) (changed : StoredCell) → IsStored contents → IsLive (state_of contents) cell → changed.shape ≡ (stored_at contents cell).shape →
    changed.array ≡ (stored_at contents cell).array → changed.pairs ≡ (stored_at contents cell).pairs →
    IsStored (record contents { cells = slice_set contents.cells cell changed })
IsStored-kept contents cell changed old is_live same_shape same_array same_pairs =
    let below = live_below contents cell old is_live in
    let may = MayStand-stored contents cell old is_live in
    IsStored-cell contents cell changed contents.are_live contents.statuses contents.elements (omega (arith, below, old.all_cells)) refl refl refl (λ other away. refl)
    (record {
      shape = subst (λ (n : ℕ). n < length contents.shapes) (sym same_shape) may.shape;
      array = λ some. subst (λ (o : Option ℕ). IsSome o) (sym same_array) (may.array (λ none. some (ap (keys_of contents.shapes) same_shape ∙ none)));
      pairs = subst IsDistinctPairs (sym same_pairs) may.pairs;
    }) old

-- other elements stand in the arrays
pub IsStored-elements : (contents : Stored) (elements : List (List Val)) → length elements ≡ length contents.elements → IsStored contents →
    IsStored (record contents { elements = elements })
IsStored-elements contents elements long old = record {
  limits = old.limits;
  table = old.table;
  all_mutators = old.all_mutators;
  all_strong = old.all_strong;
  all_weak = old.all_weak;
  all_flags = old.all_flags;
  all_cells = old.all_cells;
  all_statuses = old.all_statuses;
  all_elements = long ∙ old.all_elements;
  shapes = λ cell alive. old.shapes cell (was_live cell alive);
  arrays = λ cell alive. old.arrays cell (was_live cell alive);
  pairs = λ cell alive. old.pairs cell (was_live cell alive);
}
  where
    was_live : (cell : ℕ) → IsLive (state_of (record contents { elements = elements })) cell → IsLive (state_of contents) cell
    was_live cell alive =
        ap (λ (c : CellState). c.status) (cell_from_flag contents.shapes contents.elements contents.are_live contents.cells cell
        (flag_from_live contents.shapes elements contents.are_live contents.cells cell alive))

-- what is live in the contents as they are seen is live in their parts
pub IsLive-at : (parts contents : Stored) (cell : ℕ) → parts ≡ contents → IsLive (state_of contents) cell → IsLive (state_of parts) cell
IsLive-at parts contents cell is alive = subst (λ (s : Stored). IsLive (state_of s) cell) (sym is) alive

-- something is stored of a live cell
pub stored_within : (contents : Stored) (cell : ℕ) → IsStored contents → IsLive (state_of contents) cell → cell < length contents.cells
stored_within contents cell stored alive = let below = live_below contents cell stored alive in omega (arith, below, stored.all_cells)

-- contents whose references are live are sound in their parts
pub IsSound-at : (parts contents : Stored) → parts ≡ contents → IsStored parts → RefsAreLive (state_of contents) → IsSound parts
IsSound-at parts contents is stored references = record { stored = stored; references = subst (λ (s : Stored). RefsAreLive (state_of s)) (sym is) references }
