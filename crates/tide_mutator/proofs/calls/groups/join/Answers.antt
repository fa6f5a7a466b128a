-- Why the store of the group makes the call, and the call word tells it.
use Rattle.std.proofs.Common.{refl}
use Rattle.tide_mutator.proofs.calls_laws.acting_laws.GroupSteps.{joined_by, may_join}
use Rattle.tide_mutator.proofs.owed_laws.Answering.{enters, stored_answered, stored_teller, stored_tells}
use Rattle.tide_mutator.proofs.calls.groups.join.Goals as goal

pub store_group-requires-clause-may : goal.store_group-requires-clause-may
store_group-requires-clause-may g c =
    enters c.requires.may _ (may_join _ _ _ _ c.args.cell c.args.group c.requires.may.calling (c.requires.may.told
    refl) c.requires.may.planned c.from.result c.from.ensures)

pub store_call-requires-clause-mutator : goal.store_call-requires-clause-mutator
store_call-requires-clause-mutator g c =
    stored_teller c.requires.may (joined_by _ _ _ _ c.args.cell c.args.group c.requires.may.calling
    (c.requires.may.told refl) c.requires.may.planned c.from.result c.from.ensures) c.store_group.ensures.step

pub store_call-requires-clause-may : goal.store_call-requires-clause-may
store_call-requires-clause-may g c =
    stored_tells c.requires.may (joined_by _ _ _ _ c.args.cell c.args.group c.requires.may.calling (c.requires.may.told
    refl) c.requires.may.planned c.from.result c.from.ensures) c.store_group.ensures.step

pub returns : goal.returns
returns g c = record {
  answered = stored_answered c.requires.may (joined_by _ _ _ _ c.args.cell c.args.group c.requires.may.calling
      (c.requires.may.told refl) c.requires.may.planned c.from.result c.from.ensures) c.store_group.ensures.step
      c.store_call.ensures.step;
}
