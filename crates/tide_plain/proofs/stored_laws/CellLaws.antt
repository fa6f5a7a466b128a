-- What the stored cells mean, and how a change of one shows.
use Rattle.std.proofs.Common.{ℕ, ◌≡◌, ◌<◌, refl, sym, ◌∙◌, ap, arith, Bool, true, false, List, length, get_or, inl, inr, ◌≢◌}
use Rattle.std.proofs.lemmas.Bool.{true≢false, cases_lt}
use Rattle.std.proofs.lemmas.Bool.Decides.{eqb_tells}
use Rattle.std.proofs.lemmas.List.{get_or_past}
use Rattle.std.specs.Prelude.{if◌then◌else◌}
use Rattle.tide_model.specs.declared.val.Val.{Val}
use Rattle.tide_model.specs.Layout.{cell_count}
use Rattle.tide_model.specs.Numbers.{put_at}
use Rattle.tide_model.specs.Refused.{ShapeLists}
use Rattle.tide_model.specs.References.{IsLive}
use Rattle.tide_model.specs.State.{CellState, live, free, blank_cell}
use Rattle.tide_plain.specs.stored.Stored.{Stored}
use Rattle.tide_plain.specs.declared.parts.stored_cell.StoredCell.{StoredCell}
use Rattle.tide_plain.specs.parts.PartLists.{blank_stored}
use Rattle.tide_plain.specs.stored.Stored.{live_cell, cells_of}
use Rattle.tide_plain.specs.stored.Contents.{state_of, IsStored}

-- a cell is live where it is so marked
pub flag_from_live : (shapes : ShapeLists) (elements : List (List Val)) (are_live : List Bool) (cells : List StoredCell) (cell : ℕ) →
    (cells_of shapes elements are_live cells cell).status ≡ live → get_or are_live cell false ≡ true
flag_from_live shapes elements are_live cells cell is = step (get_or are_live cell false) is
  where
    step : (b : Bool) → (if b then live_cell shapes elements (get_or cells cell blank_stored) else blank_cell free).status ≡ live → b ≡ true
    step true e = refl
    step false e = absurd (cc)

pub cell_from_flag : (shapes : ShapeLists) (elements : List (List Val)) (are_live : List Bool) (cells : List StoredCell) (cell : ℕ) →
    get_or are_live cell false ≡ true → cells_of shapes elements are_live cells cell ≡ live_cell shapes elements (get_or cells cell blank_stored)
cell_from_flag shapes elements are_live cells cell is =
    ap (λ (b : Bool). if b then live_cell shapes elements (get_or cells cell blank_stored) else blank_cell free) is

-- a live cell is one of the layout
pub live_below : (contents : Stored) (cell : ℕ) → IsStored contents → IsLive (state_of contents) cell → cell < cell_count contents.layout
live_below contents cell stored is = elim (cases_lt cell (length contents.are_live)) [
  | inl below ↦ let all = stored.all_flags in omega (arith, below, all)
  | inr past ↦ absurd (true≢false (sym (flag_from_live _ contents.elements contents.are_live contents.cells cell is) ∙ get_or_past contents.are_live cell false past))
]

-- One live cell becomes another, and the others stay as they were.
pub cells_of-put : (shapes : ShapeLists) (old_elements elements : List (List Val)) (are_live : List Bool) (old_cells cells : List StoredCell) (cell : ℕ) (held : CellState) →
    get_or are_live cell false ≡ true →
    live_cell shapes elements (get_or cells cell blank_stored) ≡ held →
    ((other : ℕ) → other ≢ cell → get_or are_live other false ≡ true →
    live_cell shapes elements (get_or cells other blank_stored) ≡ live_cell shapes old_elements (get_or old_cells other blank_stored)) →
    (n : ℕ) → cells_of shapes elements are_live cells n ≡ put_at (cells_of shapes old_elements are_live old_cells) cell held n
cells_of-put shapes old_elements elements are_live old_cells cells cell held is own others n = elim (eqb_tells n cell) [
  | inl same ↦
      ap (λ (k : ℕ). cells_of shapes elements are_live cells k) same.1
      ∙ cell_from_flag shapes elements are_live cells cell is ∙ own
      ∙ sym (ap (λ (b : Bool). if b then held else cells_of shapes old_elements are_live old_cells n) same.0)
  | inr differs ↦
      step (get_or are_live n false) (others n differs.1)
      ∙ sym (ap (λ (b : Bool). if b then held else cells_of shapes old_elements are_live old_cells n) differs.0)
]
  where
    step : (b : Bool) → (b ≡ true → live_cell shapes elements (get_or cells n blank_stored) ≡ live_cell shapes old_elements (get_or old_cells n blank_stored)) →
        (if b then live_cell shapes elements (get_or cells n blank_stored) else blank_cell free) ≡ (if b then live_cell shapes old_elements (get_or old_cells n blank_stored) else blank_cell free)
    step true same = same refl
    step false same = refl
