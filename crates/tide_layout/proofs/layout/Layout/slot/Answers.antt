-- Why `slot` meets its contract.
use Rattle.std.proofs.Common.{◌<◌, ◌∙◌, ap, sym, subst}
use Rattle.tide_layout.specs.declared.region.Region.TheVariants.{Slots}
use Rattle.tide_layout.specs.Region.{place_in, size_of}
use Rattle.tide_layout.proofs.SlotPlaces.{index_of_slot-below, place_of_slot-alone}
use Rattle.tide_layout.proofs.layout.Layout.slot.Goals as goal

pub place-requires : goal.place-requires
place-requires c = subst (λ n. n < size_of c.args.self.now Slots) (sym c.index_of_slot.ensures) (index_of_slot-below c.args.self.now c.args.cell c.args.k c.requires)

pub returns-clause-place : goal.returns-clause-place
returns-clause-place c = c.place.ensures.place ∙ ap (place_in c.args.self.now Slots) c.index_of_slot.ensures

pub returns-clause-alone : goal.returns-clause-alone
returns-clause-alone c other at in_other same =
    place_of_slot-alone c.args.self.now c.args.cell other c.args.k at c.requires.slot_within in_other
    (same ∙ c.place.ensures.place ∙ ap (place_in c.args.self.now Slots) c.index_of_slot.ensures)
