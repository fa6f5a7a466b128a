-- Tickets were posted at the places so far whose participants haven't left.
use Rattle.std.proofs.Common.{ℕ, ◌≡◌, ◌+◌, ◌≤◌, ◌<◌, not, true}
use Rattle.tide_model.specs.Numbers.{count_where}
use Rattle.tide_posts.specs.Name.{places}
use Rattle.tide_posts.specs.Among.{Among, times}
use Rattle.tide_server.proofs.Handing.{got}
use Rattle.tide_server.specs.Keepers.{IsKeeperOf, has_left}
use Rattle.tide_server.proofs.keeper.Keeper.hand_out.Given as goal

abbrev pub invariant-loop-place : goal.invariant-loop-place
invariant-loop-place g l = record {
  of : IsKeeperOf l.standing.heap.key.layout l.standing.heap.table.shared.table_id l.standing.hands.shared.table_id l.self;
  view : l.self.collector.seat.me.0 ≡ l.initial.self.collector.seat.me.0;
  books : l.self.books ≡ l.initial.self.books;
  sums : l.self.sums ≡ l.initial.self.sums;
  over : l.self.seat.seat.me.0.over ≡ l.initial.self.seat.seat.me.0.over;
  ends : l.self.seat.seat.me.0.ends ≡ l.initial.self.seat.seat.me.0.ends;
  posted : l.self.seat.seat.me.0.given ≡ l.initial.self.seat.seat.me.0.given
      + count_where (λ place. not (has_left l.standing.heap.key.layout l.initial.self.left place)) l.place;
  tickets : (q : ℕ) → times q l.self.seat.seat.me.0.tickets
      ≡ times q l.initial.self.seat.seat.me.0.tickets + got l.standing.heap.key.layout l.initial.self.left l.place q;
  notes : l.self.seat.seat.me.0.notes ≡ l.initial.self.seat.seat.me.0.notes;
  ahead : (place : ℕ) → l.place ≤ place → place < places l.standing.heap.key.layout → Among place l.self.seat.seat.me.0.free;
  due : (place : ℕ) → has_left l.standing.heap.key.layout l.initial.self.left place ≡ true →
      Among place l.self.seat.seat.me.0.free;
  next : l.self.next ≡ l.initial.self.next;
  ended : l.self.ended ≡ l.initial.self.ended;
  left : l.self.left ≡ l.initial.self.left;
  early : (l.self.early ≡ l.initial.self.early) × (l.self.stopped ≡ l.initial.self.stopped);
}
