use Rattle.std.proofs.Common.{sym, ◌∙◌, ap}
use Rattle.tide_call.specs.declared.action.Action.TheVariants.{StoreSlot}
use Rattle.tide_model.specs.declared.val.Val.{Val}
use Rattle.tide_call.proofs.planner.Planner.plan_put.Goals as goal

pub returns-in-Err : goal.returns-in-Err
returns-in-Err g c = record {
  action = c.in-Err.ensures.refused;
  owns = c.slot_holder.ensures.owns;
}

pub returns-in-Ok : goal.returns-in-Ok
returns-in-Ok g c = record {
  action = λ heap state last.
      let calls = c.value_in.ensures.owns.1 heap state last in (
        c.in-Ok.ensures.granted heap state calls,
        (
          c.in-Ok.cell,
          c.in-Ok.ensures.cell heap state calls,
          c.in-Ok.ensures.slot,
          ap (λ (value : Val). StoreSlot c.in-Ok.cell c.args.slot value) (sym (c.value_in.ensures.value heap state last)),
        ),
      );
  owns = (
    c.value_in.ensures.owns.0,
    (λ heap state last. c.slot_holder.ensures.owns.1 heap state (c.value_in.ensures.owns.1 heap state last)),
    c.value_in.ensures.owns.2 ∙ c.slot_holder.ensures.owns.2,
  );
}
