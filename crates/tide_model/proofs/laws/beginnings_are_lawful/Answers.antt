use Rattle.tide_model.proofs.Histories.{IsLawful-prefix}
use Rattle.tide_model.proofs.laws.beginnings_are_lawful.Goals as goal

pub returns : goal.returns
returns c = record { beginnings = IsLawful-prefix }
