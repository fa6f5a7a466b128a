-- What the keeper knows of other places, once it has given the slot of one home.
use Rattle.std.proofs.Common.{ap, refl}
use Rattle.tide_hands.specs.Rule.{is_keepers}
use Rattle.tide_hands.proofs.Free.{free_given}
use Rattle.tide_hands.proofs.Rounds.{lies_still, turn_keeper}
use Rattle.tide_hands.proofs.keeper.KeeperSeat.post_end.Goals as goal

pub returns-in-0-clause-free : goal.returns-in-0-clause-free
returns-in-0-clause-free g c =
    let me = c.args.self.now.seat.me in
    free_given g.P.Parcels.ticket_ok g.P.Parcels.note_ok me.0.name c.args.place c.look.result me c.look.new.seat.me
    c.args.self.now.keeper (ap is_keepers c.in-0.is) c.look.ensures.looked.1 c.put.new.seat.me 4 c.put.ensures.gave

pub returns-in-3-clause-free : goal.returns-in-3-clause-free
returns-in-3-clause-free g c =
    let me = c.args.self.now.seat.me in
    free_given g.P.Parcels.ticket_ok g.P.Parcels.note_ok me.0.name c.args.place c.look.result me c.look.new.seat.me
    c.args.self.now.keeper (ap is_keepers c.in-3.is) c.look.ensures.looked.1 c.give.new.seat.me 3 c.give.ensures.gave

pub give-requires-clause-lies : goal.give-requires-clause-lies
give-requires-clause-lies g c =
    let me = c.args.self.now.seat.me in
    lies_still g.P.Parcels.ticket_ok g.P.Parcels.note_ok c.args.place c.look.result me c.look.new.seat.me
    (turn_keeper me.0 c.look.result 3 c.args.self.now.keeper c.in-3.is refl) c.look.ensures.looked.1 3 c.in-3.is
