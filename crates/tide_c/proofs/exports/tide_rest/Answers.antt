-- The party that was behind the handle has rested, and is behind it again.
use Rattle.std.proofs.Common.{◌∙◌, ap, sym}
use Rattle.std.specs.Prelude.{Some}
use Rattle.tide_c.proofs.Exported.{through}
use Rattle.tide_c.specs.Calls.{HasRested}
use Rattle.tide_c.specs.Statuses.{AsMember}
use Rattle.tide_c.specs.declared.party.Party.{Party}
use Rattle.tide_c.proofs.exports.tide_rest.Goals as goal

pub returns : goal.returns
returns c = record {
  rested = through (AsMember HasRested) c.args.member.now.value c.put.new.handle.value c.code-2.result c.deref_mut.result.now
      c.rest-status.new.self c.rest-status.result (c.in-Some.ensures.value ∙ ap (λ (p : Party). Some p) (sym c.deref_mut.ensures.value))
      c.put.ensures c.code-2.ensures c.rest-status.ensures.rested;
}
