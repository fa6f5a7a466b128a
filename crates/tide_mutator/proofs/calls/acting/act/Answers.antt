-- An action that is no growth is one of those that are carried out without one.
use Rattle.tide_mutator.proofs.calls_laws.acting_laws.Acted.{acted_else}
use Rattle.tide_mutator.proofs.owed_laws.Answering.{answered_as, may_as}
use Rattle.tide_mutator.proofs.calls.acting.act.Goals as goal

pub grow-requires : goal.grow-requires
grow-requires g c = (search, may_as c.in-Grow.is c.requires.may)

pub returns-in-Grow : goal.returns-in-Grow
returns-in-Grow g c = record { answered = answered_as c.in-Grow.is c.grow.ensures.answered }

pub act_without_growth-requires-clause-acted : goal.act_without_growth-requires-clause-acted
act_without_growth-requires-clause-acted g c = λ κs outlives. acted_else c.args.action c.in_default.not-Grow
