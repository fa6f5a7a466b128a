-- What a stored cell that changes leaves.
use Rattle.std.proofs.Common.{ℕ, ◌≡◌, ◌<◌, sym, ◌∙◌, ap, true, false, length, get_or}
use Rattle.std.proofs.lemmas.List.{get_or-set_same, get_or-set_other}
use Rattle.std.specs.Prelude.{slice_set}
use Rattle.tide_model.specs.declared.val.Val.{Val}
use Rattle.tide_model.specs.declared.val.Val.TheVariants.{Empty, Cell}
use Rattle.tide_model.specs.Numbers.{put_at}
use Rattle.tide_model.specs.References.{IsLive}
use Rattle.tide_model.specs.State.{CellState}
use Rattle.tide_model.specs.Applied.{put_cell, put_slot, at_cell}
use Rattle.tide_plain.specs.stored.Stored.{Stored}
use Rattle.tide_plain.specs.declared.parts.stored_cell.StoredCell.{StoredCell}
use Rattle.tide_plain.specs.parts.PartLists.{blank_stored}
use Rattle.tide_plain.specs.stored.Stored.{live_cell}
use Rattle.tide_plain.specs.stored.Contents.{state_of, stored_at}
use Rattle.tide_plain.proofs.stored_laws.CellLaws.{flag_from_live, cell_from_flag, cells_of-put}
use Rattle.tide_plain.proofs.parts_laws.ListsAsFunctions.{reads-put}

-- the flag of a live cell is set
flag_of : (contents : Stored) (cell : ℕ) → IsLive (state_of contents) cell → get_or contents.are_live cell false ≡ true
flag_of contents cell is_live = flag_from_live contents.shapes contents.elements contents.are_live contents.cells cell is_live

-- a live cell is what is stored of it
pub live_is-stored : (contents : Stored) (cell : ℕ) → IsLive (state_of contents) cell →
    (state_of contents).cells cell ≡ live_cell contents.shapes contents.elements (stored_at contents cell)
live_is-stored contents cell is_live =
    cell_from_flag contents.shapes contents.elements contents.are_live contents.cells cell (flag_of contents cell is_live)

-- something else is stored of a live cell
pub state_of-cell : (contents : Stored) (cell : ℕ) (stored : StoredCell) → cell < length contents.cells → IsLive (state_of contents) cell →
    state_of (record contents { cells = slice_set contents.cells cell stored })
    ≡ put_cell (state_of contents) cell (live_cell contents.shapes contents.elements stored)
state_of-cell contents cell stored within is_live = λ i. record (state_of contents) {
  cells = λ n. cells_of-put contents.shapes contents.elements contents.elements contents.are_live contents.cells (slice_set contents.cells cell stored) cell (live_cell contents.shapes contents.elements stored) (flag_of contents cell is_live)
      (ap (live_cell contents.shapes contents.elements) (get_or-set_same contents.cells cell stored blank_stored within))
      (λ other differs is. ap (live_cell contents.shapes contents.elements) (get_or-set_other contents.cells cell other stored blank_stored differs)) n i;
}

-- a live cell is in another group
pub state_of-group : (contents : Stored) (cell group : ℕ) (value : Val) (stored : StoredCell) → stored_at contents cell ≡ stored → value ≡ Cell cell →
    cell < length contents.cells → IsLive (state_of contents) cell →
    state_of (record contents { cells = slice_set contents.cells cell (record stored { group = group }) })
    ≡ at_cell (state_of contents) value (λ c. put_cell (state_of contents) c (record ((state_of contents).cells c) { group = group }))
state_of-group contents cell group value stored is_stored holder within is_live =
    state_of-cell contents cell (record stored { group = group }) within is_live
    ∙ ap (λ (held : CellState). put_cell (state_of contents) cell (record held { group = group }))
    (ap (live_cell contents.shapes contents.elements) (sym is_stored) ∙ sym (live_is-stored contents cell is_live))
    ∙ ap (λ (v : Val). at_cell (state_of contents) v (λ c. put_cell (state_of contents) c (record ((state_of contents).cells c) { group = group }))) (sym holder)

-- a live cell has another value in a slot
pub state_of-slot : (contents : Stored) (cell slot : ℕ) (value holding : Val) (stored : StoredCell) → stored_at contents cell ≡ stored → holding ≡ Cell cell →
    cell < length contents.cells → slot < length stored.slots → IsLive (state_of contents) cell →
    state_of (record contents { cells = slice_set contents.cells cell (record stored { slots = slice_set stored.slots slot value }) })
    ≡ put_slot (state_of contents) holding slot value
state_of-slot contents cell slot value holding stored is_stored holder within in_slots is_live =
    state_of-cell contents cell (record stored { slots = slice_set stored.slots slot value }) within is_live
    ∙ ap (λ (slots : ℕ → Val). put_cell (state_of contents) cell (record (live_cell contents.shapes contents.elements stored) { slots = slots }))
    (reads-put (λ v. v) stored.slots slot value Empty in_slots)
    ∙ ap (λ (held : CellState). put_cell (state_of contents) cell (record held { slots = put_at held.slots slot value }))
    (ap (live_cell contents.shapes contents.elements) (sym is_stored) ∙ sym (live_is-stored contents cell is_live))
    ∙ ap (λ (v : Val). put_slot (state_of contents) v slot value) (sym holder)
