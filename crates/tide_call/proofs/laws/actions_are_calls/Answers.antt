use Rattle.tide_call.proofs.action_laws.Acting.{actions_are_calls}
use Rattle.tide_call.proofs.action_laws.ClaimActions.{claims_are_told}
use Rattle.tide_call.proofs.laws.actions_are_calls.Goals as goal

pub returns : goal.returns
returns c = record { calls = actions_are_calls; claims = claims_are_told }
