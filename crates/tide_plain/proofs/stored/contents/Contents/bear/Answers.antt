use Rattle.std.proofs.Common.{◌<◌, refl, ap, arith, length, true, false}
use Rattle.std.proofs.lemmas.List.{length-set, get_or-set_other}
use Rattle.std.specs.Prelude.{slice_set}
use Rattle.tide_model.specs.Layout.{cell_count}
use Rattle.tide_plain.specs.stored.Parts.{parts_of}
use Rattle.tide_plain.specs.parts.PartLists.{blank_stored}
use Rattle.tide_plain.specs.stored.Stored.{Stored}
use Rattle.tide_plain.proofs.stored_laws.RoomLaws.{state_of-born}
use Rattle.tide_plain.proofs.stored_laws.StoredLaws.{MayStand-blank, IsStored-cell}
use Rattle.tide_plain.proofs.stored.contents.Contents.bear.Goals as goal

pub returns : goal.returns
returns c =
    let contents = parts_of c.self.inside in
    let counted = ap (λ (s : Stored). cell_count s.layout) c.self.view_is in
    let in_flags : c.args.cell < length contents.are_live = omega (arith, c.requires, counted, c.self.invariant.all_flags) in
    let in_cells : c.args.cell < length contents.cells = omega (arith, c.requires, counted, c.self.invariant.all_cells) in
    rw (← c.self.view_is, c.bear.ensures) (record { state = state_of-born contents c.args.cell blank_stored c.self.invariant refl in_flags in_cells; layout = refl; shapes = refl })

pub invariant_of-self : goal.invariant_of-self
invariant_of-self c =
    let contents = parts_of c.self.inside in
    let cell = c.args.cell in
    let counted = ap (λ (s : Stored). cell_count s.layout) c.self.view_is in
    let in_cells : cell < length contents.cells = omega (arith, c.requires, counted, c.self.invariant.all_cells) in
    rw c.bear.ensures
    (IsStored-cell contents cell blank_stored (slice_set contents.are_live cell true) contents.statuses contents.elements in_cells
    (length-set contents.are_live cell true) refl refl (λ other away. get_or-set_other contents.are_live cell other true false away)
    (MayStand-blank contents c.self.invariant) c.self.invariant)
