-- Why `element` meets its contract.
use Rattle.std.proofs.Common.{◌<◌, ◌∙◌, ap, sym, subst}
use Rattle.tide_layout.specs.declared.region.Region.TheVariants.{Elements}
use Rattle.tide_layout.specs.Region.{place_in, size_of}
use Rattle.tide_layout.proofs.SlotPlaces.{index_of_element-below, place_of_element-alone}
use Rattle.tide_layout.proofs.layout.Layout.element.Goals as goal

pub place-requires : goal.place-requires
place-requires c = subst (λ n. n < size_of c.args.self.now Elements) (sym c.index_of_element.ensures) (index_of_element-below c.args.self.now c.args.array c.args.k c.requires)

pub returns-clause-place : goal.returns-clause-place
returns-clause-place c = c.place.ensures.place ∙ ap (place_in c.args.self.now Elements) c.index_of_element.ensures

pub returns-clause-alone : goal.returns-clause-alone
returns-clause-alone c other at in_other same =
    place_of_element-alone c.args.self.now c.args.array other c.args.k at c.requires.element_within in_other
    (same ∙ c.place.ensures.place ∙ ap (place_in c.args.self.now Elements) c.index_of_element.ensures)
