-- It waits for its next ticket.
use Rattle.std.proofs.Common.{◌≡◌, false}
use Rattle.tide_model.specs.Prefix.{IsPrefix}
use Rattle.tide_mutator.specs.calls.Viewed.{view_of}
use Rattle.tide_server.specs.Members.{IsMemberOf, caller_of}
use Rattle.tide_server.proofs.member.Member.begin_next.Given as goal

abbrev pub invariant-loop : goal.invariant-loop
invariant-loop g l = record {
  of : IsMemberOf l.standing.heap.key.layout l.standing.heap.table.shared.table_id l.standing.hands.shared.table_id l.self;
  parked : l.self.works ≡ false;
  same : caller_of l.self ≡ caller_of l.initial.self;
  seen : IsPrefix (view_of l.initial.self.mutator).seen (view_of l.self.mutator).seen;
  still : (view_of l.self.mutator).seen ≡ (view_of l.initial.self.mutator).seen;
  given : l.self.seat.seat.me.0.given ≡ l.initial.self.seat.seat.me.0.given;
  taken : l.self.seat.seat.me.0.taken ≡ l.initial.self.seat.seat.me.0.taken;
}
