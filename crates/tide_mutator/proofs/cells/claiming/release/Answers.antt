-- Why the store of the claim word makes the call, and the call word tells it.
use Rattle.std.proofs.Common.{refl}
use Rattle.tide_mutator.proofs.cells_laws.ClaimSteps.{may_release, released_by}
use Rattle.tide_mutator.proofs.owed_laws.Answering.{enters, stored_answered, stored_teller, stored_tells}
use Rattle.tide_mutator.proofs.cells.claiming.release.Goals as goal

pub release-requires-clause-may : goal.release-requires-clause-may
release-requires-clause-may g c =
    enters c.requires.may _ (may_release _ _ _ _ c.args.cell c.requires.may.calling c.requires.may.planned
    (c.requires.may.told refl))

pub store_call-requires-clause-mutator : goal.store_call-requires-clause-mutator
store_call-requires-clause-mutator g c =
    stored_teller c.requires.may (released_by _ _ _ _ c.args.cell c.requires.may.calling c.requires.may.planned)
    c.release.ensures.step

pub store_call-requires-clause-may : goal.store_call-requires-clause-may
store_call-requires-clause-may g c =
    stored_tells c.requires.may (released_by _ _ _ _ c.args.cell c.requires.may.calling c.requires.may.planned)
    c.release.ensures.step

pub returns : goal.returns
returns g c = record {
  answered = stored_answered c.requires.may (released_by _ _ _ _ c.args.cell c.requires.may.calling
      c.requires.may.planned) c.release.ensures.step c.store_call.ensures.step;
}
