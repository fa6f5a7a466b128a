-- The member that sleeps was one of those that may call, and the others may still.
use Rattle.std.proofs.lemmas.List.Elements.{All-pop}
use Rattle.std.specs.Prelude.{Some}
use Rattle.embed_standing.specs.Playing.{MayCall}
use Rattle.embed_standing.proofs.sleeper.playing.play.Goals as goal

pub play_all-requires-clause-sleeps : goal.play_all-requires-clause-sleeps
play_all-requires-clause-sleeps g c κs within =
    let s = c.args.standing.now in
    (All-pop (MayCall s.heap.key.layout s.heap.table.shared.table_id s.hands.shared.table_id) c.args.members.items
    c.pop.new.self.items (Some c.in_ok-sleeper.sleeper) c.in_ok-sleeper.ensures.items c.requires.may).1

pub play_all-requires-clause-may : goal.play_all-requires-clause-may
play_all-requires-clause-may g c κs within =
    let s = c.args.standing.now in
    (All-pop (MayCall s.heap.key.layout s.heap.table.shared.table_id s.hands.shared.table_id) c.args.members.items
    c.pop.new.self.items (Some c.in_ok-sleeper.sleeper) c.in_ok-sleeper.ensures.items c.requires.may).0
