-- Of which operation the action is.
use Rattle.std.proofs.Common.{sym, subst}
use Rattle.tide_model.specs.declared.op.Op.{Op}
use Rattle.tide_call.specs.Actions.{IsAction}
use Rattle.tide_call.proofs.planner.Planner.plan_call.Goals as goal

pub returns-in-Add-clause-action : goal.returns-in-Add-clause-action
returns-in-Add-clause-action g c = λ heap state calls.
    subst (λ (op : Op). IsAction c.args.self.now heap state op c.plan_add.result) (sym c.in-Add.is)
    (c.plan_add.ensures.action heap state calls)

pub returns-in-Add-clause-owns : goal.returns-in-Add-clause-owns
returns-in-Add-clause-owns g c = c.plan_add.ensures.owns

pub returns-in-GetProp-clause-action : goal.returns-in-GetProp-clause-action
returns-in-GetProp-clause-action g c = λ heap state calls.
    subst (λ (op : Op). IsAction c.args.self.now heap state op c.plan_get_property.result) (sym c.in-GetProp.is)
    (c.plan_get_property.ensures.action heap state calls)

pub returns-in-GetProp-clause-owns : goal.returns-in-GetProp-clause-owns
returns-in-GetProp-clause-owns g c = c.plan_get_property.ensures.owns

pub returns-in-SetProp-clause-action : goal.returns-in-SetProp-clause-action
returns-in-SetProp-clause-action g c = λ heap state calls.
    subst (λ (op : Op). IsAction c.args.self.now heap state op c.plan_set_property.result) (sym c.in-SetProp.is)
    (c.plan_set_property.ensures.action heap state calls)

pub returns-in-SetProp-clause-owns : goal.returns-in-SetProp-clause-owns
returns-in-SetProp-clause-owns g c = c.plan_set_property.ensures.owns

pub returns-in-PairSet-clause-action : goal.returns-in-PairSet-clause-action
returns-in-PairSet-clause-action g c = λ heap state calls.
    subst (λ (op : Op). IsAction c.args.self.now heap state op c.plan_pair_set.result) (sym c.in-PairSet.is)
    (c.plan_pair_set.ensures.action heap state calls)

pub returns-in-PairSet-clause-owns : goal.returns-in-PairSet-clause-owns
returns-in-PairSet-clause-owns g c = c.plan_pair_set.ensures.owns

pub returns-in-PairGet-clause-action : goal.returns-in-PairGet-clause-action
returns-in-PairGet-clause-action g c = λ heap state calls.
    subst (λ (op : Op). IsAction c.args.self.now heap state op c.plan_pair_get.result) (sym c.in-PairGet.is)
    (c.plan_pair_get.ensures.action heap state calls)

pub returns-in-PairGet-clause-owns : goal.returns-in-PairGet-clause-owns
returns-in-PairGet-clause-owns g c = c.plan_pair_get.ensures.owns

pub returns-in-PairDel-clause-action : goal.returns-in-PairDel-clause-action
returns-in-PairDel-clause-action g c = λ heap state calls.
    subst (λ (op : Op). IsAction c.args.self.now heap state op c.plan_pair_delete.result) (sym c.in-PairDel.is)
    (c.plan_pair_delete.ensures.action heap state calls)

pub returns-in-PairDel-clause-owns : goal.returns-in-PairDel-clause-owns
returns-in-PairDel-clause-owns g c = c.plan_pair_delete.ensures.owns

pub returns-in_default : goal.returns-in_default
returns-in_default g c = record { action = c.plan_by_registers.ensures.action; owns = c.plan_by_registers.ensures.owns }
