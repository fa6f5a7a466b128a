-- Of which operation the action is. An operation that the registers tell and that is none of these asks for a cycle.
use Rattle.std.proofs.Common.{refl, sym, ap, subst}
use Rattle.tide_model.specs.declared.op.Op.{Op}
use Rattle.tide_model.specs.declared.val.Val.{Val}
use Rattle.tide_model.specs.declared.val.Val.TheVariants.{Empty, Int}
use Rattle.tide_call.specs.Actions.{IsAction}
use Rattle.tide_call.specs.declared.action.Action.TheVariants as action
use Rattle.tide_call.proofs.action_laws.Told.{asks_else}
use Rattle.tide_call.proofs.planner.Planner.plan_by_registers.Goals as goal

pub returns-in-Alloc-clause-action : goal.returns-in-Alloc-clause-action
returns-in-Alloc-clause-action g c = λ heap state calls.
    subst (λ (op : Op). IsAction c.args.self.now heap state op (action.Allocate c.in-Alloc.dst c.in-Alloc.class)) (sym c.in-Alloc.is)
    ((refl, refl))

pub returns-in-Alloc-clause-owns : goal.returns-in-Alloc-clause-owns
returns-in-Alloc-clause-owns g c = (c.requires.known, (λ heap state calls. calls), refl)

pub returns-in-Table-clause-action : goal.returns-in-Table-clause-action
returns-in-Table-clause-action g c = λ heap state calls.
    subst (λ (op : Op). IsAction c.args.self.now heap state op (action.Allocate c.in-Table.dst 4)) (sym c.in-Table.is)
    ((refl, refl))

pub returns-in-Table-clause-owns : goal.returns-in-Table-clause-owns
returns-in-Table-clause-owns g c = (c.requires.known, (λ heap state calls. calls), refl)

pub returns-in-Get-clause-action : goal.returns-in-Get-clause-action
returns-in-Get-clause-action g c = λ heap state calls.
    subst (λ (op : Op). IsAction c.args.self.now heap state op c.plan_get.result) (sym c.in-Get.is)
    (c.plan_get.ensures.action heap state calls)

pub returns-in-Get-clause-owns : goal.returns-in-Get-clause-owns
returns-in-Get-clause-owns g c = c.plan_get.ensures.owns

pub returns-in-Put-clause-action : goal.returns-in-Put-clause-action
returns-in-Put-clause-action g c = λ heap state calls.
    subst (λ (op : Op). IsAction c.args.self.now heap state op c.plan_put.result) (sym c.in-Put.is)
    (c.plan_put.ensures.action heap state calls)

pub returns-in-Put-clause-owns : goal.returns-in-Put-clause-owns
returns-in-Put-clause-owns g c = c.plan_put.ensures.owns

pub returns-in-Move-clause-action : goal.returns-in-Move-clause-action
returns-in-Move-clause-action g c = λ heap state calls.
    subst (λ (op : Op). IsAction c.args.self.now heap state op (action.Fill c.in-Move.dst c.value_in.result)) (sym c.in-Move.is)
    (refl, ap (λ (value : Val). action.Fill c.in-Move.dst value) (sym (c.value_in.ensures.value heap state calls)))

pub returns-in-Move-clause-owns : goal.returns-in-Move-clause-owns
returns-in-Move-clause-owns g c = c.value_in.ensures.owns

pub returns-in-Set-clause-action : goal.returns-in-Set-clause-action
returns-in-Set-clause-action g c = λ heap state calls.
    subst (λ (op : Op). IsAction c.args.self.now heap state op (action.Fill c.in-Set.dst (Int c.in-Set.n))) (sym c.in-Set.is)
    ((refl, refl))

pub returns-in-Set-clause-owns : goal.returns-in-Set-clause-owns
returns-in-Set-clause-owns g c = (c.requires.known, (λ heap state calls. calls), refl)

pub returns-in-Drop-clause-action : goal.returns-in-Drop-clause-action
returns-in-Drop-clause-action g c = λ heap state calls.
    subst (λ (op : Op). IsAction c.args.self.now heap state op (action.Fill c.in-Drop.dst Empty)) (sym c.in-Drop.is)
    ((refl, refl))

pub returns-in-Drop-clause-owns : goal.returns-in-Drop-clause-owns
returns-in-Drop-clause-owns g c = (c.requires.known, (λ heap state calls. calls), refl)

pub returns-in-Claim-clause-action : goal.returns-in-Claim-clause-action
returns-in-Claim-clause-action g c = λ heap state calls.
    subst (λ (op : Op). IsAction c.args.self.now heap state op c.plan_claim.result) (sym c.in-Claim.is)
    (c.plan_claim.ensures.action heap state calls)

pub returns-in-Claim-clause-owns : goal.returns-in-Claim-clause-owns
returns-in-Claim-clause-owns g c = c.plan_claim.ensures.owns

pub returns-in-Release-clause-action : goal.returns-in-Release-clause-action
returns-in-Release-clause-action g c = λ heap state calls.
    subst (λ (op : Op). IsAction c.args.self.now heap state op c.plan_release.result) (sym c.in-Release.is)
    (c.plan_release.ensures.action heap state calls)

pub returns-in-Release-clause-owns : goal.returns-in-Release-clause-owns
returns-in-Release-clause-owns g c = c.plan_release.ensures.owns

pub returns-in-Unclaim-clause-action : goal.returns-in-Unclaim-clause-action
returns-in-Unclaim-clause-action g c = λ heap state calls.
    subst (λ (op : Op). IsAction c.args.self.now heap state op c.plan_unclaim.result) (sym c.in-Unclaim.is)
    (c.plan_unclaim.ensures.action heap state calls.is_caller)

pub returns-in-Unclaim-clause-owns : goal.returns-in-Unclaim-clause-owns
returns-in-Unclaim-clause-owns g c = (c.requires.known, (λ heap state calls. calls), refl)

pub returns-in-StrongSet-clause-action : goal.returns-in-StrongSet-clause-action
returns-in-StrongSet-clause-action g c = λ heap state calls.
    subst (λ (op : Op). IsAction c.args.self.now heap state op (action.StoreStrong c.in-StrongSet.at c.value_in-in-StrongSet.result)) (sym c.in-StrongSet.is)
    (refl, ap (λ (value : Val). action.StoreStrong c.in-StrongSet.at value) (sym (c.value_in-in-StrongSet.ensures.value heap state calls)))

pub returns-in-StrongSet-clause-owns : goal.returns-in-StrongSet-clause-owns
returns-in-StrongSet-clause-owns g c = c.value_in-in-StrongSet.ensures.owns

pub returns-in-StrongGet-clause-action : goal.returns-in-StrongGet-clause-action
returns-in-StrongGet-clause-action g c = λ heap state calls.
    subst (λ (op : Op). IsAction c.args.self.now heap state op (action.LoadStrong c.in-StrongGet.dst c.in-StrongGet.at)) (sym c.in-StrongGet.is)
    ((refl, refl))

pub returns-in-StrongGet-clause-owns : goal.returns-in-StrongGet-clause-owns
returns-in-StrongGet-clause-owns g c = (c.requires.known, (λ heap state calls. calls), refl)

pub returns-in-WeakSet-clause-action : goal.returns-in-WeakSet-clause-action
returns-in-WeakSet-clause-action g c = λ heap state calls.
    subst (λ (op : Op). IsAction c.args.self.now heap state op (action.StoreWeak c.in-WeakSet.at c.value_in-in-WeakSet.result)) (sym c.in-WeakSet.is)
    (refl, ap (λ (value : Val). action.StoreWeak c.in-WeakSet.at value) (sym (c.value_in-in-WeakSet.ensures.value heap state calls)))

pub returns-in-WeakSet-clause-owns : goal.returns-in-WeakSet-clause-owns
returns-in-WeakSet-clause-owns g c = c.value_in-in-WeakSet.ensures.owns

pub returns-in-WeakGet-clause-action : goal.returns-in-WeakGet-clause-action
returns-in-WeakGet-clause-action g c = λ heap state calls.
    subst (λ (op : Op). IsAction c.args.self.now heap state op (action.LoadWeak c.in-WeakGet.dst c.in-WeakGet.at)) (sym c.in-WeakGet.is)
    ((refl, refl))

pub returns-in-WeakGet-clause-owns : goal.returns-in-WeakGet-clause-owns
returns-in-WeakGet-clause-owns g c = (c.requires.known, (λ heap state calls. calls), refl)

pub returns-in-Group-clause-action : goal.returns-in-Group-clause-action
returns-in-Group-clause-action g c = λ heap state calls.
    subst (λ (op : Op). IsAction c.args.self.now heap state op c.plan_group.result) (sym c.in-Group.is)
    (c.plan_group.ensures.action heap state calls)

pub returns-in-Group-clause-owns : goal.returns-in-Group-clause-owns
returns-in-Group-clause-owns g c = c.plan_group.ensures.owns

pub returns-in-Retire-clause-action : goal.returns-in-Retire-clause-action
returns-in-Retire-clause-action g c = λ heap state calls.
    subst (λ (op : Op). IsAction c.args.self.now heap state op (action.Retire)) (sym c.in-Retire.is)
    ((refl, refl))

pub returns-in-Retire-clause-owns : goal.returns-in-Retire-clause-owns
returns-in-Retire-clause-owns g c = (c.requires.known, (λ heap state calls. calls), refl)

pub returns-in_default-clause-action : goal.returns-in_default-clause-action
returns-in_default-clause-action g c = λ heap state calls.
    let d = c.in_default in
    subst (λ (op : Op). IsAction c.args.self.now heap state op action.Ask)
    (sym (asks_else c.args.op c.requires.told d.not-Alloc d.not-Table d.not-Get d.not-Put d.not-Move d.not-Set d.not-Drop d.not-Claim d.not-Release d.not-Unclaim d.not-StrongSet d.not-StrongGet d.not-WeakSet d.not-WeakGet d.not-Group d.not-Retire))
    (refl, refl)

pub returns-in_default-clause-owns : goal.returns-in_default-clause-owns
returns-in_default-clause-owns g c = (c.requires.known, (λ heap state calls. calls), refl)
