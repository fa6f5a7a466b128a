-- What the keeper knows of other places, once it has given the slot of one home.
use Rattle.std.proofs.Common.{ℕ, ◌+◌, ap, refl, subst, sym}
use Rattle.std.specs.Prelude.{if◌then◌else◌}
use Rattle.atomic_table.specs.Table.{Me}
use Rattle.tide_hands.specs.Rule.{Content, is_keepers, is_ticket_post, round_after}
use Rattle.tide_hands.specs.declared.parcel.Parcel.{Parcel}
use Rattle.tide_hands.specs.declared.parcel.Parcel.TheVariants.{Ticket}
use Rattle.tide_hands.specs.declared.view.HandView.{HandView}
use Rattle.tide_hands.proofs.Free.{free_given}
use Rattle.tide_hands.proofs.Rounds.{lies_still, round_keeper, took, turn_keeper}
use Rattle.tide_hands.proofs.keeper.KeeperSeat.post_ticket.Goals as goal

pub returns-in-0-clause-free : goal.returns-in-0-clause-free
returns-in-0-clause-free g c =
    let me = c.args.self.now.seat.me in
    free_given g.P.Parcels.ticket_ok g.P.Parcels.note_ok me.0.name c.args.place c.look.result me c.look.new.seat.me
    c.args.self.now.keeper (ap is_keepers c.in-0.is) c.look.ensures.looked.1 c.put.new.seat.me 1 c.put.ensures.gave

pub returns-in-3-clause-free : goal.returns-in-3-clause-free
returns-in-3-clause-free g c =
    let me = c.args.self.now.seat.me in
    free_given g.P.Parcels.ticket_ok g.P.Parcels.note_ok me.0.name c.args.place c.look.result me c.look.new.seat.me
    c.args.self.now.keeper (ap is_keepers c.in-3.is) c.look.ensures.looked.1 c.give.new.seat.me 3 c.give.ensures.gave

pub put-requires-clause-content : goal.put-requires-clause-content
put-requires-clause-content g c =
    let me = c.args.self.now.seat.me in
    let place = c.args.place in
    let taken = took g.P.Parcels.ticket_ok g.P.Parcels.note_ok place c.look.result me c.look.new.seat.me
    (turn_keeper me.0 c.look.result 0 c.args.self.now.keeper c.in-0.is refl) c.look.ensures.looked.1 in
    subst (λ (m : Me (Parcel g.row.T.Denot g.row.N.Denot) (HandView g.row.I.Denot)).
    Content g.P.Parcels.ticket_ok g.P.Parcels.note_ok m.0.name place (round_after place 1 m.0) 1 (Ticket c.args.ticket)) (sym taken.is) (
      refl,
      subst (λ (n : ℕ). g.P.Parcels.ticket_ok me.0.name n c.args.ticket)
          (sym (λ i. round_keeper me.0 place c.look.result 0 c.in-0.is c.args.self.now.keeper i
          + (if is_ticket_post (c.in-0.is i) 1 then 1 else 0))) c.requires.ticket,
    )

pub give-requires-clause-lies : goal.give-requires-clause-lies
give-requires-clause-lies g c =
    let me = c.args.self.now.seat.me in
    lies_still g.P.Parcels.ticket_ok g.P.Parcels.note_ok c.args.place c.look.result me c.look.new.seat.me
    (turn_keeper me.0 c.look.result 3 c.args.self.now.keeper c.in-3.is refl) c.look.ensures.looked.1 3 c.in-3.is
