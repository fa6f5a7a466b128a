use Rattle.tide_call.proofs.action_laws.Callers.{mutators_may_call}
use Rattle.tide_call.proofs.laws.mutators_may_call.Goals as goal

pub returns : goal.returns
returns c = record { callers = mutators_may_call }
