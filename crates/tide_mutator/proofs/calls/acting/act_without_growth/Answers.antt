-- Of which operations the actions are, and that one that is none of these is one of the rest.
use Rattle.tide_mutator.proofs.calls_laws.acting_laws.Asking.{rests_else}
use Rattle.tide_mutator.proofs.owed_laws.Answering.{answered_as, may_as}
use Rattle.tide_mutator.proofs.calls.acting.act_without_growth.Goals as goal

pub refuse-requires : goal.refuse-requires
refuse-requires g c = record { may = may_as c.in-Refuse.is c.requires.may }

pub returns-in-Refuse : goal.returns-in-Refuse
returns-in-Refuse g c = record { answered = answered_as c.in-Refuse.is c.refuse.ensures.answered }

pub allocate-requires : goal.allocate-requires
allocate-requires g c = (search, may_as c.in-Allocate.is c.requires.may)

pub returns-in-Allocate : goal.returns-in-Allocate
returns-in-Allocate g c = record { answered = answered_as c.in-Allocate.is c.allocate.ensures.answered }

pub get-requires : goal.get-requires
get-requires g c = record { may = may_as c.in-LoadSlot.is c.requires.may }

pub returns-in-LoadSlot : goal.returns-in-LoadSlot
returns-in-LoadSlot g c = record { answered = answered_as c.in-LoadSlot.is c.get.ensures.answered }

pub put-requires : goal.put-requires
put-requires g c = (search, may_as c.in-StoreSlot.is c.requires.may)

pub returns-in-StoreSlot : goal.returns-in-StoreSlot
returns-in-StoreSlot g c = record { answered = answered_as c.in-StoreSlot.is c.put.ensures.answered }

pub fill-requires : goal.fill-requires
fill-requires g c = record { may = may_as c.in-Fill.is c.requires.may }

pub returns-in-Fill : goal.returns-in-Fill
returns-in-Fill g c = record { answered = answered_as c.in-Fill.is c.fill.ensures.answered }

pub claim-requires : goal.claim-requires
claim-requires g c = record { may = may_as c.in-Claim.is c.requires.may }

pub returns-in-Claim : goal.returns-in-Claim
returns-in-Claim g c = record { answered = answered_as c.in-Claim.is c.claim.ensures.answered }

pub release-requires : goal.release-requires
release-requires g c = record { may = may_as c.in-Release.is c.requires.may }

pub returns-in-Release : goal.returns-in-Release
returns-in-Release g c = record { answered = answered_as c.in-Release.is c.release.ensures.answered }

pub get_property-requires : goal.get_property-requires
get_property-requires g c = record { may = may_as c.in-LoadElement.is c.requires.may }

pub returns-in-LoadElement : goal.returns-in-LoadElement
returns-in-LoadElement g c = record { answered = answered_as c.in-LoadElement.is c.get_property.ensures.answered }

pub put_property-requires : goal.put_property-requires
put_property-requires g c = (search, may_as c.in-StoreElement.is c.requires.may)

pub returns-in-StoreElement : goal.returns-in-StoreElement
returns-in-StoreElement g c = record { answered = answered_as c.in-StoreElement.is c.put_property.ensures.answered }

pub append-requires : goal.append-requires
append-requires g c = (search, may_as c.in-Append.is c.requires.may)

pub returns-in-Append : goal.returns-in-Append
returns-in-Append g c = record { answered = answered_as c.in-Append.is c.append.ensures.answered }

pub act_on_rest-requires-clause-rest : goal.act_on_rest-requires-clause-rest
act_on_rest-requires-clause-rest g c =
    let d = c.in_default in
    rests_else c.args.action c.requires.acted d.not-Refuse d.not-Allocate d.not-LoadSlot d.not-StoreSlot d.not-Fill
    d.not-Claim d.not-Release d.not-LoadElement d.not-StoreElement d.not-Append
