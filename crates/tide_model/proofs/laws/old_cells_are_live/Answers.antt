use Rattle.tide_model.proofs.OldLaws.{old_stays_live}
use Rattle.tide_model.proofs.laws.old_cells_are_live.Goals as goal

pub returns : goal.returns
returns c = record { live = old_stays_live }
