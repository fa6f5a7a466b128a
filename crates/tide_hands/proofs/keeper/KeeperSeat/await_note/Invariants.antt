-- Nothing came yet.
use Rattle.std.proofs.Common.{ℕ, ◌≡◌}
use Rattle.tide_hands.specs.Among.{Among}
use Rattle.tide_hands.specs.Seats.{frame}
use Rattle.tide_hands.proofs.keeper.KeeperSeat.await_note.Given as goal

abbrev pub invariant-loop : goal.invariant-loop
invariant-loop g l =
    (l.self.seat.table_id ≡ l.initial.self.seat.table_id) × (l.self.seat.id ≡ l.initial.self.seat.id)
    × (frame l.self.seat.me.0 ≡ frame l.initial.self.seat.me.0)
    × (l.self.seat.me.0.over ≡ l.initial.self.seat.me.0.over)
    × (l.self.seat.me.0.ends ≡ l.initial.self.seat.me.0.ends)
    × ((l.self.seat.me.0.given ≡ l.initial.self.seat.me.0.given)
    × (l.self.seat.me.0.tickets ≡ l.initial.self.seat.me.0.tickets))
    × ((l.self.seat.me.0.taken ≡ l.initial.self.seat.me.0.taken)
    × (l.self.seat.me.0.notes ≡ l.initial.self.seat.me.0.notes))
    × ((q : ℕ) → Among q l.initial.self.seat.me.0.free → Among q l.self.seat.me.0.free)
