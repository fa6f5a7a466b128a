use Rattle.std.proofs.Common.{◌<◌, ◌∙◌, refl, sym, ap, arith, length, get_or}
use Rattle.std.specs.Prelude.{slice_set}
use Rattle.tide_model.specs.declared.val.Val.TheVariants.{Empty}
use Rattle.tide_plain.specs.declared.parts.stored_cell.StoredCell.{StoredCell}
use Rattle.tide_plain.specs.stored.Contents.{state_of}
use Rattle.tide_plain.specs.stored.Parts.{parts_of}
use Rattle.tide_plain.specs.parts.PartLists.{no_elements}
use Rattle.tide_plain.specs.stored.Stored.{Stored}
use Rattle.tide_plain.proofs.stored_laws.LayoutLaws.{IsWithinLayout-stored}
use Rattle.tide_plain.proofs.parts_laws.ListsAsFunctions.{get_or-put}
use Rattle.tide_plain.proofs.stored_laws.PropertyLaws.{array_in-range, own-stored, state_of-property}
use Rattle.tide_plain.proofs.stored_laws.StoredLaws.{IsLive-at, IsSound-at}
use Rattle.tide_plain.proofs.stored.contents.Contents.set_property.Goals as goal

pub put-requires-clause-array : goal.put-requires-clause-array
put-requires-clause-array c =
    let contents = parts_of c.self.inside in
    let live = IsLive-at contents c.args.self.now c.args.cell c.self.view_is c.requires.live in
    let sound = IsSound-at contents c.args.self.now c.self.view_is c.self.invariant c.requires.references in
    array_in-range contents c.args.cell c.in-Some.array sound live (ap (λ (s : StoredCell). s.array) (sym c.stored.ensures) ∙ c.in-Some.is)

pub returns : goal.returns
returns c =
    let contents = parts_of c.self.inside in
    let live = IsLive-at contents c.args.self.now c.args.cell c.self.view_is c.requires.live in
    let sound = IsSound-at contents c.args.self.now c.self.view_is c.self.invariant c.requires.references in
    let array = c.in-Some.array in
    let within = array_in-range contents c.args.cell array sound live (ap (λ (s : StoredCell). s.array) (sym c.stored.ensures) ∙ c.in-Some.is) in
    let few = (IsWithinLayout-stored contents c.self.invariant).few_keys c.args.cell live in
    let row = get_or contents.elements array no_elements in
    let in_row : c.args.place < length row = omega (arith, c.put.ensures.wide, few, ap (λ (s : Stored). length ((state_of s).cells c.args.cell).keys) c.self.view_is, c.requires.place) in
    rw (← c.self.view_is, c.put.ensures.put)
    (record {
      state = state_of-property contents c.args.cell array c.args.place c.args.value row (slice_set row c.args.place c.args.value) refl within
          (λ k. get_or-put row c.args.place c.args.value Empty in_row k) (own-stored contents c.args.cell array c.stored.result.now sound live c.stored.ensures c.in-Some.is);
      layout = refl;
      shapes = refl;
    })
