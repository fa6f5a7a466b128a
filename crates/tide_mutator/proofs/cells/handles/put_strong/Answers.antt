-- Why the store of the handle makes the call, and the call word tells it.
use Rattle.std.proofs.Common.{refl}
use Rattle.tide_mutator.proofs.cells_laws.HandleSteps.{may_put_strong, put_strong_by}
use Rattle.tide_mutator.proofs.owed_laws.Answering.{enters, stored_answered, stored_teller, stored_tells}
use Rattle.tide_mutator.proofs.cells.handles.put_strong.Goals as goal

pub store_strong-requires-clause-may : goal.store_strong-requires-clause-may
store_strong-requires-clause-may g c =
    enters c.requires.may _ (may_put_strong _ _ _ _ c.args.at c.from.result c.from.ensures c.requires.may.calling
    (c.requires.may.told refl) c.args.value c.val_word.result c.val_word.ensures c.requires.may.planned)

pub store_call-requires-clause-mutator : goal.store_call-requires-clause-mutator
store_call-requires-clause-mutator g c =
    stored_teller c.requires.may (put_strong_by _ _ _ _ c.args.at c.from.result c.from.ensures c.requires.may.calling
    (c.requires.may.told refl) c.args.value c.val_word.result c.val_word.ensures c.requires.may.planned)
    c.store_strong.ensures.step

pub store_call-requires-clause-may : goal.store_call-requires-clause-may
store_call-requires-clause-may g c =
    stored_tells c.requires.may (put_strong_by _ _ _ _ c.args.at c.from.result c.from.ensures c.requires.may.calling
    (c.requires.may.told refl) c.args.value c.val_word.result c.val_word.ensures c.requires.may.planned)
    c.store_strong.ensures.step

pub returns : goal.returns
returns g c = record {
  answered = stored_answered c.requires.may (put_strong_by _ _ _ _ c.args.at c.from.result c.from.ensures
      c.requires.may.calling (c.requires.may.told refl) c.args.value c.val_word.result c.val_word.ensures
      c.requires.may.planned) c.store_strong.ensures.step c.store_call.ensures.step;
}
