-- Ends were posted at the visitors' places so far.
use Rattle.std.proofs.Common.{ℕ, ◌≡◌, ◌↔◌, ◌⊎◌, ◌+◌, ◌≤◌, ◌<◌, true}
use Rattle.tide_posts.specs.Name.{places}
use Rattle.tide_posts.specs.Among.{Among}
use Rattle.tide_server.specs.Keepers.{IsKeeperOf}
use Rattle.tide_server.proofs.keeper.Keeper.post_ends.Given as goal

abbrev pub invariant-loop-place : goal.invariant-loop-place
invariant-loop-place g l = record {
  of : IsKeeperOf l.standing.heap.key.layout l.standing.heap.table.shared.table_id l.standing.hands.shared.table_id l.self;
  over : l.standing.heap.key.layout.mutators < l.place → l.self.seat.seat.me.0.over ≡ true;
  behind : l.standing.heap.key.layout.mutators ≤ l.place;
  ends : (q : ℕ) → Among q l.self.seat.seat.me.0.ends
      ↔ (Among q l.initial.self.seat.seat.me.0.ends ⊎ ((l.standing.heap.key.layout.mutators ≤ q) × (q < l.place)));
  posted : l.self.seat.seat.me.0.given + l.standing.heap.key.layout.mutators ≡ l.initial.self.seat.seat.me.0.given + l.place;
  ahead : (place : ℕ) → l.place ≤ place → place < places l.standing.heap.key.layout → Among place l.self.seat.seat.me.0.free;
  collector : l.self.collector ≡ l.initial.self.collector;
  books : l.self.books ≡ l.initial.self.books;
  sums : l.self.sums ≡ l.initial.self.sums;
  stopped : l.self.stopped ≡ l.initial.self.stopped;
}
