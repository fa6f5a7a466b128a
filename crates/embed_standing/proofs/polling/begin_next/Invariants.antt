-- It waits for its next ticket.
use Rattle.std.proofs.Common.{◌≡◌, false}
use Rattle.tide.specs.tide_model.Prefix.{IsPrefix}
use Rattle.tide.specs.tide_mutator.calls.Viewed.{view_of}
use Rattle.tide.specs.tide_server.Members.{IsMemberOf, caller_of}
use Rattle.embed_standing.proofs.polling.begin_next.Given as goal

abbrev pub invariant-loop : goal.invariant-loop
invariant-loop g l = record {
  of : IsMemberOf l.standing.heap.key.layout l.standing.heap.table.shared.table_id l.standing.hands.shared.table_id l.member;
  parked : l.member.works ≡ false;
  same : caller_of l.member ≡ caller_of l.initial.member;
  seen : IsPrefix (view_of l.initial.member.mutator).seen (view_of l.member.mutator).seen;
}
