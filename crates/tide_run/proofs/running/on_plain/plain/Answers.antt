-- A workload has few scripts, for which room is made.
use Rattle.std.proofs.Common.{◌≤◌, sym, subst, length, List, Vec, Global}
use Rattle.tide_model.specs.declared.op.Op.{Op}
use Rattle.tide_run.proofs.running_laws.RunLaws.{few_of}
use Rattle.tide_run.proofs.running.on_plain.plain.Goals as goal

pub room_for-room-requires-clause-few : goal.room_for-room-requires-clause-few
room_for-room-requires-clause-few c =
    subst (λ (own : List (Vec Op Global)). length own ≤ 16) (sym c.as_slice.ensures.value)
    (few_of c.args.load.now c.in_ok-scripts.scripts.items c.in_ok-scripts.ensures)
