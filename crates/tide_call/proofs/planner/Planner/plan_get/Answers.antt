use Rattle.std.proofs.Common.{refl}
use Rattle.tide_call.proofs.planner.Planner.plan_get.Goals as goal

pub returns-in-Err : goal.returns-in-Err
returns-in-Err g c = record {
  action = c.in-Err.ensures.refused;
  owns = c.slot_holder.ensures.owns;
}

pub returns-in-Ok : goal.returns-in-Ok
returns-in-Ok g c = record {
  action = λ heap state calls. (
    c.in-Ok.ensures.granted heap state calls,
    (c.in-Ok.cell, c.in-Ok.ensures.cell heap state calls, c.in-Ok.ensures.slot, refl),
  );
  owns = c.slot_holder.ensures.owns;
}
