use Rattle.embed_standing.specs.Playing.{HasRoomForScripts, MayCall}
use Rattle.embed_standing.proofs.early.come_early_after_each.Given as goal

abbrev pub invariant-loop-n : goal.invariant-loop-n
invariant-loop-n g l = record {
  may : MayCall l.standing.heap.key.layout l.standing.heap.table.shared.table_id l.standing.hands.shared.table_id
      l.member;
  room : HasRoomForScripts l.standing.heap.key.layout;
}
