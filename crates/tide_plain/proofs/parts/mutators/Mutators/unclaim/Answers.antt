use Rattle.std.proofs.Common.{◌≡◌, ◌∙◌, ap, arith, List, ℕ}
use Rattle.std.specs.Prelude.{drop, slice_set}
use Rattle.std.proofs.lemmas.Grind.{common_steps}
use Rattle.tide_plain.specs.declared.parts.mutators.StoredMutator.{StoredMutator}
use Rattle.tide_plain.specs.parts.Changes.{with_claims}
use Rattle.tide_plain.specs.parts.PartLists.{mutator_at}
use Rattle.tide_plain.proofs.parts.mutators.Mutators.unclaim.Goals as goal

pub returns : goal.returns
returns c =
    let all = c.self.inside.mutators.items in
    let here : c.index_mut.result.now ≡ mutator_at all c.args.who = grind (arith, common_steps) in
    rw (← c.self.view_is)
    (ap (λ (claims : List ℕ). slice_set all c.args.who (with_claims c.index_mut.result.now claims)) c.remove.ensures.items
    ∙ ap (λ (m : StoredMutator). slice_set all c.args.who (with_claims m (drop 1 m.claims.items))) here)
