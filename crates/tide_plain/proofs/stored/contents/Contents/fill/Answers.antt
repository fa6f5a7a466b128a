use Rattle.std.proofs.Common.{◌<◌, refl, ap, arith, length}
use Rattle.std.proofs.lemmas.List.{length-set}
use Rattle.tide_plain.specs.stored.Parts.{parts_of}
use Rattle.tide_plain.specs.parts.PartLists.{mutator_at}
use Rattle.tide_plain.specs.stored.Stored.{Stored}
use Rattle.tide_plain.proofs.stored_laws.MutatorLaws.{state_of-register, IsStored-mutators}
use Rattle.tide_plain.proofs.stored.contents.Contents.fill.Goals as goal

pub returns : goal.returns
returns c =
    let within : c.args.who < length (parts_of c.self.inside).mutators = omega (arith, c.self.invariant.all_mutators, c.requires.mutator, ap (λ (s : Stored). s.layout.mutators) c.self.view_is) in
    let there : c.args.register < length (mutator_at (parts_of c.self.inside).mutators c.args.who).registers = omega (arith, c.self.invariant.limits.few_registers, c.fill.ensures.wide, c.requires.register, ap (λ (s : Stored). s.layout.registers) c.self.view_is) in
    rw (← c.self.view_is, c.fill.ensures.fill) (record { state = state_of-register (parts_of c.self.inside) c.args.who c.args.register c.args.value _ refl within there; layout = refl; shapes = refl })

pub invariant_of-self : goal.invariant_of-self
invariant_of-self c = rw c.fill.ensures.fill (IsStored-mutators (parts_of c.self.inside) _ (length-set (parts_of c.self.inside).mutators c.args.who _) c.self.invariant)
