-- It is one of the words of its region.
use Rattle.tide_core.proofs.tide_layout.SlotPlaces.{index_of_slot-below}
use Rattle.tide_heap.proofs.heap.Heap.slot_place.Goals as goal

pub returns-clause-within : goal.returns-clause-within
returns-clause-within g c = index_of_slot-below c.args.self.now.key.layout c.args.cell c.args.slot c.requires
