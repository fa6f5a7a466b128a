-- Those that are each to be taken by its thread may make any call.
use Rattle.embed_standing.proofs.Seats.{each_may_call}
use Rattle.embed_standing.proofs.host.play.Goals as goal

pub play_all-requires-clause-may : goal.play_all-requires-clause-may
play_all-requires-clause-may g c κs within =
    let s = c.args.standing.now in
    each_may_call s.heap.key.layout s.heap.table.shared.table_id s.hands.shared.table_id c.args.members.items
    c.in_ok-members.members.items c.requires.may c.in_ok-members.ensures.same

pub play_beside_one_that_rests-requires-clause-may : goal.play_beside_one_that_rests-requires-clause-may
play_beside_one_that_rests-requires-clause-may g c κs within =
    let s = c.args.standing.now in
    each_may_call s.heap.key.layout s.heap.table.shared.table_id s.hands.shared.table_id c.args.members.items
    c.in_ok-members.members.items c.requires.may c.in_ok-members.ensures.same
