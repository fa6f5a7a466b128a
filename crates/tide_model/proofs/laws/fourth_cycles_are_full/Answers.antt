use Rattle.tide_model.proofs.FourthCycles.{fourth_cycles_are_full}
use Rattle.tide_model.proofs.laws.fourth_cycles_are_full.Goals as goal

pub returns : goal.returns
returns c = record { full = fourth_cycles_are_full }
