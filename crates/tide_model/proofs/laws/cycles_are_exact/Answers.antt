use Rattle.tide_model.proofs.ExactEnds.{cycles_are_exact}
use Rattle.tide_model.proofs.laws.cycles_are_exact.Goals as goal

pub returns : goal.returns
returns c = record { exact = cycles_are_exact }
