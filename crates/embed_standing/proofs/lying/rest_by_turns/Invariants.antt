-- It is awake, and may make any call of a script.
use Rattle.embed_standing.specs.Playing.{HasRoomForScripts, MayCall}
use Rattle.embed_standing.proofs.lying.rest_by_turns.Given as goal

abbrev pub invariant-loop-n : goal.invariant-loop-n
invariant-loop-n g l = record {
  may : MayCall l.at.heap.key.layout l.at.heap.table.shared.table_id l.at.hands.shared.table_id l.awake;
  room : HasRoomForScripts l.at.heap.key.layout;
}
