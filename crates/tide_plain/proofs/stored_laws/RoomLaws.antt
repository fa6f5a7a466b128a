-- What a cell that is taken leaves.
use Rattle.std.proofs.Common.{ℕ, ◌≡◌, ◌<◌, refl, ◌∙◌, ap, Bool, true, false, List, [], ◌∷◌, length, get_or}
use Rattle.std.specs.Prelude.{◌==◌, if◌then◌else◌, slice_set, slice_get, Some}
use Rattle.tide_model.specs.declared.val.Val.{Val}
use Rattle.tide_model.specs.declared.val.Val.TheVariants.{Empty}
use Rattle.tide_model.specs.Numbers.{put_at}
use Rattle.tide_model.specs.Refused.{ShapeLists}
use Rattle.tide_model.specs.State.{CellState, blank_cell, free, live}
use Rattle.tide_model.specs.Applied.{put_cell}
use Rattle.tide_shape.specs.ShapeTable.{keys_of}
use Rattle.tide_plain.specs.stored.Stored.{Stored}
use Rattle.tide_plain.specs.declared.parts.stored_cell.StoredCell.{StoredCell}
use Rattle.tide_plain.specs.parts.PartLists.{blank_stored}
use Rattle.tide_plain.specs.stored.Stored.{live_cell, cells_of}
use Rattle.tide_plain.specs.stored.Contents.{state_of, stored_at, IsStored}
use Rattle.tide_plain.proofs.parts_laws.Copies.{get_or-copies}
use Rattle.tide_plain.proofs.parts_laws.ListsAsFunctions.{get_or-put}

-- the first shape has no keys
pub keys_of-empty : (shapes : ShapeLists) → slice_get shapes 0 ≡ Some [] → keys_of shapes 0 ≡ []
keys_of-empty [] h = absurd (cc)
keys_of-empty (keys ∷ shapes) h = cc

-- a live cell of which nothing is stored is blank
pub live_cell-blank : (shapes : ShapeLists) (elements : List (List Val)) → slice_get shapes 0 ≡ Some [] → live_cell shapes elements blank_stored ≡ blank_cell live
live_cell-blank shapes elements empty = λ i. record (blank_cell live) {
  keys = keys_of-empty shapes empty i;
  slots = λ slot. get_or-copies 16 slot Empty i;
}

-- a cell becomes live, and something else is stored of it
pub state_of-live : (contents : Stored) (cell : ℕ) (stored : StoredCell) → cell < length contents.are_live → cell < length contents.cells →
    state_of (record contents { are_live = slice_set contents.are_live cell true; cells = slice_set contents.cells cell stored })
    ≡ put_cell (state_of contents) cell (live_cell contents.shapes contents.elements stored)
state_of-live contents cell stored in_flags in_cells = λ i. record (state_of contents) { cells = λ n. same n i }
  where
    step : (n : ℕ) (here : Bool) (flag : Bool) →
        (if (if here then true else flag) then live_cell contents.shapes contents.elements (if here then stored else stored_at contents n) else blank_cell free)
        ≡ (if here then live_cell contents.shapes contents.elements stored
        else (if flag then live_cell contents.shapes contents.elements (stored_at contents n) else blank_cell free))
    step n true flag = refl
    step n false flag = refl

    same : (n : ℕ) → cells_of contents.shapes contents.elements (slice_set contents.are_live cell true) (slice_set contents.cells cell stored) n
        ≡ put_at (state_of contents).cells cell (live_cell contents.shapes contents.elements stored) n
    same n =
        ap (λ (flag : Bool). if flag then live_cell contents.shapes contents.elements (get_or (slice_set contents.cells cell stored) n blank_stored) else blank_cell free)
        (get_or-put contents.are_live cell true false in_flags n)
        ∙ ap (λ (s : StoredCell). if (if n == cell then true else get_or contents.are_live n false) then live_cell contents.shapes contents.elements s else blank_cell free)
        (get_or-put contents.cells cell stored blank_stored in_cells n)
        ∙ step n (n == cell) (get_or contents.are_live n false)

-- a cell becomes live and blank
pub state_of-born : (contents : Stored) (cell : ℕ) (stored : StoredCell) → IsStored contents → stored ≡ blank_stored →
    cell < length contents.are_live → cell < length contents.cells →
    state_of (record contents { are_live = slice_set contents.are_live cell true; cells = slice_set contents.cells cell stored })
    ≡ put_cell (state_of contents) cell (blank_cell live)
state_of-born contents cell stored is_stored is_blank in_flags in_cells =
    state_of-live contents cell stored in_flags in_cells
    ∙ ap (λ (held : CellState). put_cell (state_of contents) cell held)
    (ap (live_cell contents.shapes contents.elements) is_blank ∙ live_cell-blank contents.shapes contents.elements is_stored.table.empty)
