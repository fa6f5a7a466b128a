-- Why the store of the Active word makes the call, and the call word tells it.
use Rattle.std.proofs.Common.{refl}
use Rattle.tide_mutator.proofs.calls_laws.acting_laws.Retiring.{left_by, may_leave}
use Rattle.tide_mutator.proofs.owed_laws.Answering.{enters, stored_answered, stored_teller, stored_tells}
use Rattle.tide_mutator.proofs.calls.leaving.leave.Goals as goal

pub retire-requires-clause-may : goal.retire-requires-clause-may
retire-requires-clause-may g c =
    enters c.requires.may _ (may_leave _ _ _ _ c.requires.may.calling (c.requires.may.told refl)
    c.requires.may.planned)

pub store_call-requires-clause-mutator : goal.store_call-requires-clause-mutator
store_call-requires-clause-mutator g c =
    stored_teller c.requires.may (left_by _ _ _ _ c.requires.may.calling (c.requires.may.told refl)
    c.requires.may.planned) c.retire.ensures.step

pub store_call-requires-clause-may : goal.store_call-requires-clause-may
store_call-requires-clause-may g c =
    stored_tells c.requires.may (left_by _ _ _ _ c.requires.may.calling (c.requires.may.told refl)
    c.requires.may.planned) c.retire.ensures.step

pub returns : goal.returns
returns g c = record {
  answered = stored_answered c.requires.may (left_by _ _ _ _ c.requires.may.calling (c.requires.may.told refl)
      c.requires.may.planned) c.retire.ensures.step c.store_call.ensures.step;
}
