-- When a cell's array is full.
use Rattle.std.proofs.Common.{ℕ, ◌≡◌, ◌<◌, sym, ◌∙◌, ap, true, false, length}
use Rattle.std.proofs.lemmas.Bool.{eq-eqb, ne_eqb}
use Rattle.tide_model.specs.Applied.{is_array_full}
use Rattle.tide_model.specs.Layout.{capacity_of}
use Rattle.tide_model.specs.State.{CellState}

-- whether a cell's array is full, by a count of its keys
pub is_array_full-at : (cell : CellState) (count : ℕ) → count ≡ length cell.keys → count < 64 → count ≡ capacity_of count → is_array_full cell ≡ true
is_array_full-at cell count is few full =
    eq-eqb (length cell.keys) (capacity_of (length cell.keys)) (sym is ∙ full ∙ ap capacity_of is)

pub has_room-at : (cell : CellState) (count : ℕ) → count ≡ length cell.keys → count < 64 → (count ≡ capacity_of count → ⊥) → is_array_full cell ≡ false
has_room-at cell count is few room =
    ne_eqb (length cell.keys) (capacity_of (length cell.keys)) (λ e. room (is ∙ e ∙ sym (ap capacity_of is)))
