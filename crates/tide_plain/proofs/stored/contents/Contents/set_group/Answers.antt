use Rattle.std.proofs.Common.{refl, sym, ap}
use Rattle.tide_model.specs.declared.val.Val.TheVariants.{Cell}
use Rattle.tide_plain.specs.declared.parts.stored_cell.StoredCell.{StoredCell}
use Rattle.tide_plain.specs.stored.Parts.{parts_of}
use Rattle.tide_plain.proofs.stored_laws.StoredLaws.{IsLive-at, IsStored-kept, stored_within}
use Rattle.tide_plain.proofs.stored_laws.StoredCellLaws.{state_of-group}
use Rattle.tide_plain.proofs.stored.contents.Contents.set_group.Goals as goal

pub returns : goal.returns
returns c =
    let contents = parts_of c.self.inside in
    let live = IsLive-at contents c.args.self.now c.args.cell c.self.view_is c.requires in
    let within = stored_within contents c.args.cell c.self.invariant live in
    rw (← c.self.view_is, c.store.ensures)
    (record { state = state_of-group contents c.args.cell c.args.group (Cell c.args.cell) c.stored-stored.result.now (sym c.stored-stored.ensures) refl within live; layout = refl; shapes = refl })

pub invariant_of-self : goal.invariant_of-self
invariant_of-self c =
    let contents = parts_of c.self.inside in
    let live = IsLive-at contents c.args.self.now c.args.cell c.self.view_is c.requires in
    let stored = c.stored-stored.result.now in
    let is = c.stored-stored.ensures in
    rw c.store.ensures
    (IsStored-kept contents c.args.cell (record stored { group = c.args.group }) c.self.invariant live
    (ap (λ (s : StoredCell). s.shape) is) (ap (λ (s : StoredCell). s.array) is) (ap (λ (s : StoredCell). s.pairs) is))
