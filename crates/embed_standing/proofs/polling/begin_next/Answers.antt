-- It tries again, and stays what it was.
use Rattle.std.proofs.Common.{◌∙◌, ap, refl}
use Rattle.tide.specs.tide_model.Prefix.{prefix_refl}
use Rattle.tide.specs.tide_mutator.calls.Viewed.{view_of}
use Rattle.tide.specs.tide_server.Members.{Calling}
use Rattle.embed_standing.proofs.polling.begin_next.Goals as goal

pub offer-requires-clause-stays : goal.offer-requires-clause-stays
offer-requires-clause-stays g c = ap (λ (k : Calling). k.has_left) c.loop.invariant.same ∙ c.requires.stays

pub loop-init : goal.loop-init
loop-init g c = record {
  of = c.requires.of;
  parked = c.requires.parked;
  same = refl;
  seen = prefix_refl (view_of c.args.member.now.mutator).seen;
}
