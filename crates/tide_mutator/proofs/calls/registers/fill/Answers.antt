-- Why the store of the register makes the call, and the call word tells it.
use Rattle.std.proofs.Common.{refl}
use Rattle.tide_mutator.proofs.calls_laws.acting_laws.Filling.{filled_with, may_fill_with}
use Rattle.tide_mutator.proofs.owed_laws.Answering.{enters, stored_answered, stored_teller, stored_tells}
use Rattle.tide_mutator.proofs.calls.registers.fill.Goals as goal

pub store_register-requires-clause-may : goal.store_register-requires-clause-may
store_register-requires-clause-may g c =
    enters c.requires.may _ (may_fill_with _ _ _ _ c.args.dst c.args.value c.requires.may.calling
    c.requires.may.planned c.val_word.result c.val_word.ensures (c.requires.may.told refl))

pub store_call-requires-clause-mutator : goal.store_call-requires-clause-mutator
store_call-requires-clause-mutator g c =
    stored_teller c.requires.may (filled_with _ _ _ _ c.args.dst c.args.value c.requires.may.calling
    c.requires.may.planned c.val_word.result c.val_word.ensures) c.store_register.ensures.step

pub store_call-requires-clause-may : goal.store_call-requires-clause-may
store_call-requires-clause-may g c =
    stored_tells c.requires.may (filled_with _ _ _ _ c.args.dst c.args.value c.requires.may.calling
    c.requires.may.planned c.val_word.result c.val_word.ensures) c.store_register.ensures.step

pub returns : goal.returns
returns g c = record {
  answered = stored_answered c.requires.may (filled_with _ _ _ _ c.args.dst c.args.value c.requires.may.calling
      c.requires.may.planned c.val_word.result c.val_word.ensures) c.store_register.ensures.step c.store_call.ensures.step;
}
