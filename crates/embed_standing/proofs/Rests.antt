-- Who rests or comes early may make any call then.
use Rattle.std.proofs.Common.{◌≡◌, ◌∙◌, ap}
use Rattle.tide.specs.atomic_table.Seated.{TableId}
use Rattle.embed_standing.specs.Playing.{MayCall, MayWake}
use Rattle.tide.specs.tide_model.Layout.{Layout}
use Rattle.tide.specs.tide_model.Script.{retry_of}
use Rattle.tide.specs.tide_server.Members.{Calling, IsMemberOf, caller_of}
use Rattle.tide.specs.tide_server.Rests.{IsRestingOf}
use Rattle.tide.specs.tide_server.declared.member.Member.{Member}
use Rattle.tide.specs.tide_server.declared.resting.Resting.{Resting}

-- one that is still whom it was may make any call still
pub may_call : (layout : Layout) (heap hands : TableId) (old new : Member) → MayCall layout heap hands old →
    IsMemberOf layout heap hands new → caller_of new ≡ caller_of old → MayCall layout heap hands new
may_call layout heap hands old new may of same = record {
  of = of;
  stays = ap (λ (k : Calling). k.has_left) same ∙ may.stays;
  bare = ap (λ (k : Calling). k.claims) same ∙ may.bare;
  settled = ap (λ (k : Calling). retry_of k.who k.mine) same ∙ may.settled;
}

-- who is whom a member was that may make any call
pub may_wake : (layout : Layout) (heap hands : TableId) (m : Member) (r : Resting) → MayCall layout heap hands m →
    IsRestingOf layout heap hands r → caller_of r.member ≡ caller_of m → MayWake layout heap hands r
may_wake layout heap hands m r may is same = may_call layout heap hands m r.member may is.of same
