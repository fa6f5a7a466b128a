-- One more handle is empty, and is put back as it was.
use Rattle.std.proofs.Common.{ℕ, ◌≡◌, ◌<◌, ◌∙◌, List, ap, below_more, get_or, sym, subst}
use Rattle.std.proofs.Math.Seq.{map-set_same}
use Rattle.std.proofs.lemmas.List.{get_or-map, length-map}
use Rattle.std.proofs.lemmas.List.Elements.{All-get_or}
use Rattle.std.specs.Prelude.{All, None, Option}
use Rattle.tide_c.specs.Handles.{values}
use Rattle.tide_c.specs.declared.handle.Handle.{Handle}
use Rattle.tide_c.specs.declared.party.Party.{Party}
use Rattle.tide_c.proofs.holding.are_empty.Goals as goal

pub loop-at-preserved : goal.loop-at-preserved
loop-at-preserved c =
    let now = c.loop-at.handles in let at = c.loop-at.at in let h = c.index-handles-at.result in
    let low = subst (λ (n : ℕ). at < n) (sym c.loop-at.auto.handles) c.loop-at-test.true in
    record {
      same = map-set_same (λ (one : Handle). one.value) now at c.is_empty.new.handle h c.is_empty.ensures.same
          ∙ c.loop-at.invariant.same;
      empty = below_more _ _ c.loop-at.invariant.empty
          (ap (λ (vs : List (Option Party)). get_or vs at None) (sym c.loop-at.invariant.same)
          ∙ get_or-map (λ (one : Handle). one.value) now at h None low ∙ c.is_empty.ensures.empty c.if-not-is_empty.false);
    }

pub returns-then-not-is_empty-clause-same : goal.returns-then-not-is_empty-clause-same
returns-then-not-is_empty-clause-same c =
    map-set_same (λ (one : Handle). one.value) c.loop-at.handles c.loop-at.at c.is_empty.new.handle c.index-handles-at.result
    c.is_empty.ensures.same ∙ c.loop-at.invariant.same

pub returns-then-not-is_empty-clause-full : goal.returns-then-not-is_empty-clause-full
returns-then-not-is_empty-clause-full c _ all =
    let now = c.loop-at.handles in let at = c.loop-at.at in let h = c.index-handles-at.result in
    let low = subst (λ (n : ℕ). at < n) (sym c.loop-at.auto.handles) c.loop-at-test.true in
    let here = subst (λ (n : ℕ). at < n) (sym (length-map now (λ (one : Handle). one.value))) low in
    let none = subst (All (λ (value : Option Party). value ≡ None)) (sym c.loop-at.invariant.same) all in
    c.is_empty.ensures.full c.if-not-is_empty.true (sym (get_or-map (λ (one : Handle). one.value) now at h None low)
    ∙ All-get_or (λ (value : Option Party). value ≡ None) (values now) at None here none)
