-- Who rests is who it was.
use Rattle.std.proofs.Common.{◌∙◌, ap, subst, sym}
use Rattle.tide_mutator.specs.calls.Viewed.{view_of}
use Rattle.tide_server.specs.Members.{Calling, IsMemberOf}
use Rattle.tide_server.specs.declared.member.Member.{Member}
use Rattle.tide_server.proofs.member.Member.rest.Goals as goal

pub returns-clause-of : goal.returns-clause-of
returns-clause-of g c =
    let s = c.args.standing.now in
    record {
      of = subst (IsMemberOf s.heap.key.layout s.heap.table.shared.table_id s.hands.shared.table_id)
          (sym c.new-2.ensures) c.break_off.ensures.of;
      stays = ap (λ (m : Member). (view_of m.mutator).left) c.new-2.ensures
          ∙ ap (λ (k : Calling). k.has_left) c.break_off.ensures.same ∙ c.requires.stays;
    }
