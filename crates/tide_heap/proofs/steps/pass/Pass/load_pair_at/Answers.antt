-- Why the step is on its word.
use Rattle.std.proofs.Common.{refl}
use Rattle.tide_core.proofs.tide_layout.SlotPlaces.{index_of_slot-below}
use Rattle.tide_heap.proofs.steps.pass.Pass.load_pair_at.Goals as goal

pub make_step-requires : goal.make_step-requires
make_step-requires g c = record {
  plain = refl;
  stands = record {
    place = c.requires.at;
    inside = index_of_slot-below c.args.heap.now.key.layout c.args.table c.args.place c.requires.within;
  };
  acts = refl;
  may = c.requires.may;
}

pub returns : goal.returns
returns g c = record { step = c.make_step.ensures.step }
