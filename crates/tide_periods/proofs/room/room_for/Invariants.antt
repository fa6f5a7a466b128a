-- What the loop of room::room_for keeps.
use Rattle.std.proofs.Common.{◌≡◌, ◌≤◌, ◌*◌, map, take}
use Rattle.tide_periods.specs.Room.{calls_in, longest_in, operations_in}
use Rattle.tide_periods.proofs.room.room_for.Given as goal

abbrev pub invariant-loop-ops : goal.invariant-loop-ops
invariant-loop-ops l = record {
  operations : l.operations ≡ operations_in (take l.ops-index (map (λ ops. ops.items) l.scripts));
  calls : l.calls ≡ calls_in (take l.ops-index (map (λ ops. ops.items) l.scripts));
  parts : l.parts ≡ longest_in (take l.ops-index (map (λ ops. ops.items) l.scripts));
  small : l.operations ≤ l.ops-index * 65536;
  few : l.calls ≤ l.ops-index * 131081;
  short : l.parts ≤ 131081;
}
