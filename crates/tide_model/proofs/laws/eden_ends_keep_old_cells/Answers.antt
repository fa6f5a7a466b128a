use Rattle.tide_model.proofs.FourthCycles.{eden_ends_keep_old}
use Rattle.tide_model.proofs.laws.eden_ends_keep_old_cells.Goals as goal

pub returns : goal.returns
returns c = record { kept = eden_ends_keep_old }
