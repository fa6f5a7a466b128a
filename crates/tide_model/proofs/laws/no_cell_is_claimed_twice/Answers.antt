use Rattle.tide_model.proofs.ClaimLaws.{ClaimsAreOwn-lawful}
use Rattle.tide_model.proofs.laws.no_cell_is_claimed_twice.Goals as goal

pub returns : goal.returns
returns c = record { claims = ClaimsAreOwn-lawful }
