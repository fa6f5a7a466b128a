-- It waits for its next ticket, and stays what it was.
use Rattle.std.proofs.Common.{◌∙◌, ap, refl}
use Rattle.tide_model.specs.Prefix.{prefix_refl}
use Rattle.tide_mutator.specs.calls.Viewed.{view_of}
use Rattle.tide_server.specs.Members.{Calling}
use Rattle.tide_server.proofs.member.Member.begin_next.Goals as goal

pub offer-requires-clause-stays : goal.offer-requires-clause-stays
offer-requires-clause-stays g c = ap (λ (k : Calling). k.has_left) c.loop.invariant.same ∙ c.requires.stays

pub loop-init : goal.loop-init
loop-init g c = record {
  of = c.requires.of;
  parked = c.requires.parked;
  same = refl;
  seen = prefix_refl (view_of c.args.self.now.mutator).seen;
  still = refl;
  given = refl;
  taken = refl;
}
