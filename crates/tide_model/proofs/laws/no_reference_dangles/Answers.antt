use Rattle.tide_model.proofs.LawfulReferences.{RefsAreLive-lawful}
use Rattle.tide_model.proofs.laws.no_reference_dangles.Goals as goal

pub returns : goal.returns
returns c = record { references = RefsAreLive-lawful }
