-- The split is allowed.
use Rattle.std.proofs.Common.{ℕ, ◌<◌, arith, subst}
use Rattle.tide_hands.proofs.Splitting.{split_allowed}
use Rattle.tide_hands.proofs.keeper.KeeperSeat.seat_member.Goals as goal

pub split_seat-seat-requires : goal.split_seat-seat-requires
split_seat-seat-requires g c =
    let seat = c.args.self.now.seat in
    let within = c.requires.within.0 in (
      c.requires.own,
      omega (arith, within),
      split_allowed g.P.Parcels.ticket_ok g.P.Parcels.note_ok (g.K.Keyed.name c.args.table.now.key)
          (g.K.Keyed.count c.args.table.now.key) seat.id seat.me.0 c.args.self.now.idle.0 c.args.self.now.keeper
          (subst (λ (n : ℕ). n < g.K.Keyed.count c.args.table.now.key) c.requires.next c.requires.room),
    )
