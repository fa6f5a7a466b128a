-- Of which operations the actions are, and that one that is none of the others asks for a cycle.
use Rattle.tide_mutator.proofs.calls_laws.acting_laws.Asking.{asks_else}
use Rattle.tide_mutator.proofs.owed_laws.Answering.{answered_as, may_as}
use Rattle.tide_mutator.proofs.calls.acting.act_on_rest.Goals as goal

pub put_strong-requires : goal.put_strong-requires
put_strong-requires g c = record { may = may_as c.in-StoreStrong.is c.requires.may }

pub returns-in-StoreStrong : goal.returns-in-StoreStrong
returns-in-StoreStrong g c = record { answered = answered_as c.in-StoreStrong.is c.put_strong.ensures.answered }

pub get_strong-requires : goal.get_strong-requires
get_strong-requires g c = record { may = may_as c.in-LoadStrong.is c.requires.may }

pub returns-in-LoadStrong : goal.returns-in-LoadStrong
returns-in-LoadStrong g c = record { answered = answered_as c.in-LoadStrong.is c.get_strong.ensures.answered }

pub put_weak-requires : goal.put_weak-requires
put_weak-requires g c = record { may = may_as c.in-StoreWeak.is c.requires.may }

pub returns-in-StoreWeak : goal.returns-in-StoreWeak
returns-in-StoreWeak g c = record { answered = answered_as c.in-StoreWeak.is c.put_weak.ensures.answered }

pub get_weak-requires : goal.get_weak-requires
get_weak-requires g c = record { may = may_as c.in-LoadWeak.is c.requires.may }

pub returns-in-LoadWeak : goal.returns-in-LoadWeak
returns-in-LoadWeak g c = record { answered = answered_as c.in-LoadWeak.is c.get_weak.ensures.answered }

pub put_pair-requires : goal.put_pair-requires
put_pair-requires g c = record { may = may_as c.in-StorePair.is c.requires.may }

pub returns-in-StorePair : goal.returns-in-StorePair
returns-in-StorePair g c = record { answered = answered_as c.in-StorePair.is c.put_pair.ensures.answered }

pub drop_pair-requires : goal.drop_pair-requires
drop_pair-requires g c = record { may = may_as c.in-ClearPair.is c.requires.may }

pub returns-in-ClearPair : goal.returns-in-ClearPair
returns-in-ClearPair g c = record { answered = answered_as c.in-ClearPair.is c.drop_pair.ensures.answered }

pub get_pair-requires : goal.get_pair-requires
get_pair-requires g c = record { may = may_as c.in-Show.is c.requires.may }

pub returns-in-Show : goal.returns-in-Show
returns-in-Show g c = record { answered = answered_as c.in-Show.is c.get_pair.ensures.answered }

pub join-requires : goal.join-requires
join-requires g c = record { may = may_as c.in-Join.is c.requires.may }

pub returns-in-Join : goal.returns-in-Join
returns-in-Join g c = record { answered = answered_as c.in-Join.is c.join.ensures.answered }

pub leave-requires : goal.leave-requires
leave-requires g c = record { may = may_as c.in-Retire.is c.requires.may }

pub returns-in-Retire : goal.returns-in-Retire
returns-in-Retire g c = record { answered = answered_as c.in-Retire.is c.leave.ensures.answered }

pub ask-requires : goal.ask-requires
ask-requires g c =
    let d = c.in_default in record {
      may = may_as (asks_else c.args.action c.requires.rest d.not-StoreStrong d.not-LoadStrong d.not-StoreWeak d.not-LoadWeak
          d.not-StorePair d.not-ClearPair d.not-Show d.not-Join d.not-Retire) c.requires.may;
    }

pub returns-in_default : goal.returns-in_default
returns-in_default g c =
    let d = c.in_default in record {
      answered = answered_as (asks_else c.args.action c.requires.rest d.not-StoreStrong d.not-LoadStrong d.not-StoreWeak
          d.not-LoadWeak d.not-StorePair d.not-ClearPair d.not-Show d.not-Join d.not-Retire) c.ask.ensures.answered;
    }
