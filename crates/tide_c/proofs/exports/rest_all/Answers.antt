-- One more member has rested.
use Rattle.std.proofs.Common.{ℕ, ◌<◌, ◌∙◌, sym, subst}
use Rattle.std.proofs.lemmas.List.{length-set}
use Rattle.std.specs.Prelude.{Option}
use Rattle.tide_c.proofs.Behind.{later_stays, one_more}
use Rattle.tide_c.specs.Calls.{HasRested}
use Rattle.tide_c.specs.Statuses.{AsMember, Through}
use Rattle.tide_c.specs.declared.handle.Handle.{Handle}
use Rattle.tide_c.specs.declared.party.Party.{Party}
use Rattle.tide_c.proofs.exports.rest_all.Goals as goal

pub loop-at-preserved : goal.loop-at-preserved
loop-at-preserved c =
    let so = c.loop-at.invariant in let old = c.args.handles.now in let now = c.loop-at.handles in let at = c.loop-at.at in
    let h = c.index-handles-at.result in let new = c.tide_rest.new.member in
    let low = subst (λ (n : ℕ). at < n) (sym c.loop-at.auto.handles) c.loop-at-test.true in
    record {
      long = length-set now at new ∙ so.long;
      rested = one_more (λ (x y : Option Party). (answer : ℕ) × Through (AsMember HasRested) x y answer) old now at h new low
          c.index-handles-at.is (c.tide_rest.result, subst (λ (one : Handle). Through (AsMember HasRested) one.value new.value c.tide_rest.result) (sym c.index-handles-at.is) c.tide_rest.ensures.rested) so.rested so.later;
      later = later_stays old now at new so.later;
    }
