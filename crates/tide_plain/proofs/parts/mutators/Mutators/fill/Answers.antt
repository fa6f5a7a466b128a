use Rattle.std.proofs.Common.{◌≡◌, ◌∙◌, ap, arith, length, ℕ}
use Rattle.std.specs.Prelude.{slice_set}
use Rattle.std.proofs.lemmas.Grind.{common_steps}
use Rattle.tide_plain.specs.declared.parts.mutators.StoredMutator.{StoredMutator}
use Rattle.tide_plain.specs.parts.Changes.{filled}
use Rattle.tide_plain.specs.parts.PartLists.{mutator_at}
use Rattle.tide_plain.proofs.parts.mutators.Mutators.fill.Goals as goal

pub returns-clause-fill : goal.returns-clause-fill
returns-clause-fill c =
    let all = c.self.inside.mutators.items in
    let here : c.index_mut.result.now ≡ mutator_at all c.args.who = grind (arith, common_steps) in
    rw (← c.self.view_is)
    (ap (λ (m : StoredMutator). slice_set all c.args.who (filled m c.from.result c.args.value)) here
    ∙ ap (λ (n : ℕ). slice_set all c.args.who (filled (mutator_at all c.args.who) n c.args.value)) c.from.ensures)

pub returns-clause-wide : goal.returns-clause-wide
returns-clause-wide c =
    let here : c.index_mut.result.now ≡ mutator_at c.self.inside.mutators.items c.args.who = grind (arith, common_steps) in
    rw (← c.self.view_is) (omega (arith, ap (λ (m : StoredMutator). length m.registers) here))
