use Rattle.std.proofs.Common.{◌≡◌, ap, arith, false}
use Rattle.std.specs.Prelude.{slice_set}
use Rattle.std.proofs.lemmas.Grind.{common_steps}
use Rattle.tide_plain.specs.declared.parts.mutators.StoredMutator.{StoredMutator}
use Rattle.tide_plain.specs.parts.PartLists.{mutator_at}
use Rattle.tide_plain.proofs.parts.mutators.Mutators.retire.Goals as goal

pub returns : goal.returns
returns c =
    let all = c.self.inside.mutators.items in
    let here : c.index_mut.result.now ≡ mutator_at all c.args.who = grind (arith, common_steps) in
    rw (← c.self.view_is) (ap (λ (m : StoredMutator). slice_set all c.args.who (record m { is_active = false })) here)
