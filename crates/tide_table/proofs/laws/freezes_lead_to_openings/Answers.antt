use Rattle.tide_table.proofs.Openings.{leads_to_opening}
use Rattle.tide_table.proofs.laws.freezes_lead_to_openings.Goals as goal

pub returns : goal.returns
returns c = record { opens = leads_to_opening }
