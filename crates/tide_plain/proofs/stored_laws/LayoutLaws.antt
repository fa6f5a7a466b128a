-- That what lies outside of the layout is free and empty, and nothing is dead.
use Rattle.std.proofs.Common.{ℕ, ◌≡◌, ◌≢◌, ◌≤◌, ◌∙◌, ap, arith, Bool, true, false, [], length, get_or, inl, inr}
use Rattle.std.proofs.lemmas.Bool.{cases_lt}
use Rattle.std.proofs.lemmas.List.{get_or_past}
use Rattle.std.specs.Prelude.{if◌then◌else◌}
use Rattle.tide_model.specs.declared.val.Val.TheVariants.{Empty}
use Rattle.tide_model.specs.State.{CellState, free, dead, blank_cell}
use Rattle.tide_shape.specs.ShapeTable.{keys_of}
use Rattle.tide_plain.specs.declared.statuses.ArrayStatus.{ArrayStatus}
use Rattle.tide_plain.specs.declared.statuses.ArrayStatus.TheVariants.{Free, Live, Spent}
use Rattle.tide_plain.specs.declared.parts.mutators.StoredMutator.{StoredMutator}
use Rattle.tide_plain.specs.statuses.Statuses.{status_of}
use Rattle.tide_plain.specs.parts.PartLists.{blank_mutator, blank_stored, mutator_at}
use Rattle.tide_plain.specs.stored.Stored.{Stored, live_cell}
use Rattle.tide_plain.specs.stored.Contents.{state_of, stored_at, IsStored, IsWithinLayout}
use Rattle.tide_plain.proofs.stored_laws.CellLaws.{live_below}
use Rattle.tide_plain.proofs.parts_laws.Copies.{get_or-copies}
use Rattle.tide_plain.proofs.stored_laws.StoredCellLaws.{live_is-stored}

-- no stored status is dead
not_dead : (status : ArrayStatus) → status_of status ≢ dead
not_dead Free is = absurd (cc)
not_dead Live is = absurd (cc)
not_dead Spent is = absurd (cc)

-- a mutator past the end is a blank one
mutator_past : (contents : Stored) (who : ℕ) → IsStored contents → contents.layout.mutators ≤ who → mutator_at contents.mutators who ≡ blank_mutator
mutator_past contents who stored past = get_or_past contents.mutators who blank_mutator (let all = stored.all_mutators in omega (arith, past, all))

pub IsWithinLayout-stored : (contents : Stored) → IsStored contents → IsWithinLayout contents.layout (state_of contents)
IsWithinLayout-stored contents stored = record {
  limits = stored.limits;
  cells = λ cell alive. live_below contents cell stored alive;
  few_keys = λ cell alive.
      let keys = ap (λ (c : CellState). length c.keys) (live_is-stored contents cell alive) in
      let short : length (keys_of contents.shapes (stored_at contents cell).shape) ≤ 64 = stored.table.short (stored_at contents cell).shape [] (stored.shapes cell alive) in
      omega (arith, keys, short);
  arrays = λ array used. elim (cases_lt array (length contents.statuses)) [
    | inl below ↦ let all = stored.all_statuses in omega (arith, below, all)
    | inr past ↦ absurd (used (ap status_of (get_or_past contents.statuses array Free past)))
  ];
  registers = λ who register past.
      ap (λ (m : StoredMutator). get_or m.registers register Empty) (mutator_past contents who stored past) ∙ get_or-copies 250 register Empty;
  claims = λ who past. ap (λ (m : StoredMutator). m.claims.items) (mutator_past contents who stored past);
  no_dead_cell = λ cell is. cell_law (get_or contents.are_live cell false) cell is;
  no_dead_array = λ array. not_dead (get_or contents.statuses array Free);
}
  where
    cell_law : (b : Bool) (cell : ℕ) → (if b then live_cell contents.shapes contents.elements (get_or contents.cells cell blank_stored) else blank_cell free).status ≢ dead
    cell_law true cell is = absurd (cc)
    cell_law false cell is = absurd (cc)
