use Rattle.std.proofs.Common.{◌≡◌, ◌∙◌, ap, arith, rules, List, ℕ}
use Rattle.std.specs.Prelude.{◌==◌, filter, not, slice_set}
use Rattle.std.proofs.lemmas.Grind.{common_steps}
use Rattle.tide_plain.specs.declared.parts.mutators.StoredMutator.{StoredMutator}
use Rattle.tide_plain.specs.parts.Changes.{with_claims}
use Rattle.tide_plain.specs.parts.PartLists.{mutator_at}
use Rattle.tide_model.proofs.Retaining.{filter_in_turns}
use Rattle.tide_plain.proofs.parts.mutators.Mutators.release.Goals as goal

pub returns : goal.returns
returns c =
    let all = c.self.inside.mutators.items in
    let here : c.index_mut.result.now ≡ mutator_at all c.args.who = grind (arith, common_steps) in
    let left : c.retain.new.self.items ≡ filter (λ (claimed : ℕ). not (claimed == c.args.cell)) c.index_mut.result.now.claims.items =
    filter_in_turns _ (λ (claimed : ℕ). not (claimed == c.args.cell)) _ (λ x b t y h. search rules) _ _ c.retain.ensures.filtered in
    rw (← c.self.view_is)
    (ap (λ (claims : List ℕ). slice_set all c.args.who (with_claims c.index_mut.result.now claims)) left
    ∙ ap (λ (m : StoredMutator). slice_set all c.args.who (with_claims m (filter (λ (claimed : ℕ). not (claimed == c.args.cell)) m.claims.items))) here)
