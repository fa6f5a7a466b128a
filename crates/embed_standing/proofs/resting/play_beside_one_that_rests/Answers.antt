-- The members but the last may make any call.
use Rattle.std.proofs.lemmas.List.Elements.{All-pop}
use Rattle.std.specs.Prelude.{IfSome, Option, Some}
use Rattle.embed_standing.specs.Playing.{MayCall}
use Rattle.tide.specs.tide_server.declared.member.Member.{Member}
use Rattle.embed_standing.proofs.resting.play_beside_one_that_rests.Goals as goal

pub play_while_it_rests-requires-clause-may : goal.play_while_it_rests-requires-clause-may
play_while_it_rests-requires-clause-may g c κs within =
    let s = c.args.standing.now in
    (All-pop (λ (one : Option Member). IfSome one
    (MayCall s.heap.key.layout s.heap.table.shared.table_id s.hands.shared.table_id)) c.args.members.items
    c.pop.new.self.items (Some c.in-Some-Some.field-0) c.in-Some-Some.ensures.items c.requires.may).0
