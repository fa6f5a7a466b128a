use Rattle.std.proofs.Common.{◌∙◌, sym, ap, subst}
use Rattle.tide_model.specs.References.{IsLive, RefsAreLive}
use Rattle.tide_plain.specs.declared.parts.stored_cell.StoredCell.{StoredCell}
use Rattle.tide_plain.specs.stored.Contents.{state_of}
use Rattle.tide_plain.specs.stored.Parts.{parts_of}
use Rattle.tide_plain.specs.stored.Stored.{Stored}
use Rattle.tide_plain.proofs.stored_laws.PropertyLaws.{array_in-range}
use Rattle.tide_plain.proofs.stored.contents.Contents.properties.Goals as goal

pub elements-requires : goal.elements-requires
elements-requires c =
    let contents = parts_of c.self.inside in
    array_in-range contents c.args.cell c.in-Some.array
    (record {
      stored = c.self.invariant;
      references = subst (λ (s : Stored). RefsAreLive (state_of s)) (sym c.self.view_is) c.requires.references;
    })
    (subst (λ (s : Stored). IsLive (state_of s) c.args.cell) (sym c.self.view_is) c.requires.live)
    (ap (λ (s : StoredCell). s.array) (sym c.stored.ensures) ∙ c.in-Some.is)
