-- Answers to the goals of room::room_for.
use Rattle.std.proofs.Common.{◌≡◌, ◌≤◌, ◌∙◌, ap, arith, length, map, take, List, Vec, Global}
use Rattle.std.specs.Prelude.{max}
use Rattle.tide_model.specs.declared.op.Op.{Op}
use Rattle.tide_periods.specs.Room.{calls_in, longest_in, operations_in}
use Rattle.tide_periods.proofs.RoomLaws.{All-map_at, take-map_more, calls_in-push, longest_in-push, operations_in-push}
use Rattle.tide_periods.proofs.room.room_for.Goals.{then-most-parts, else-most-parts}
use Rattle.tide_periods.proofs.room.room_for.Goals as goal

abbrev items : Vec Op Global → List Op
items ops = ops.items

pub overflow_add-calls : goal.overflow_add-calls
overflow_add-calls c =
    let short = All-map_at (λ ops. length ops ≤ 65536) items c.args.scripts.now c.loop-ops.ops-index c.ops-item.result c.loop-ops-test.true c.ops-item.is c.requires.short in
    let counted = c.len.ensures in
    let most = c.most_calls-most.ensures (omega (arith, short, counted)) in
    let so = c.loop-ops.invariant.few in
    let below = c.loop-ops-test.true in
    let few = c.requires.few in
    omega (arith, short, counted, most, so, below, few)

pub loop-ops-preserved : goal.loop-ops-preserved
loop-ops-preserved c =
    let so = c.loop-ops.invariant in
    let lists = take c.loop-ops.ops-index (map items c.args.scripts.now) in
    let ops = c.ops-item.result.items in
    let more = take-map_more items c.args.scripts.now c.loop-ops.ops-index c.ops-item.result c.loop-ops-test.true c.ops-item.is in
    let short = All-map_at (λ ops. length ops ≤ 65536) items c.args.scripts.now c.loop-ops.ops-index c.ops-item.result c.loop-ops-test.true c.ops-item.is c.requires.short in
    let counted = c.len.ensures in
    let counted' = c.len-operations.ensures in
    let most = c.most_calls-most.ensures (omega (arith, short, counted)) in
    let operations = so.operations in
    let calls = so.calls in
    let parts = so.parts in
    let small = so.small in
    let few = so.few in
    let least = so.short in
    let all_operations = ap operations_in more ∙ operations_in-push lists ops in
    let all_calls = ap calls_in more ∙ calls_in-push lists ops in
    let all_parts = ap longest_in more ∙ longest_in-push lists ops in
    let chosen : c.if-most-parts.parts ≡ max c.loop-ops.parts c.most_calls-most.result =
    elim c.if-most-parts.branch [ then-most-parts w ↦ omega (arith, w.if-most-parts, w.parts-is) | else-most-parts w ↦ omega (arith, w.if-most-parts, w.parts-is) ] in
    record {
      operations = omega (arith, operations, counted', all_operations);
      calls = omega (arith, calls, most, counted, all_calls);
      parts = omega (arith, chosen, parts, most, counted, all_parts);
      small = omega (arith, small, counted', short);
      few = omega (arith, few, most, counted, short);
      short = omega (arith, chosen, least, most, counted, short);
    }
