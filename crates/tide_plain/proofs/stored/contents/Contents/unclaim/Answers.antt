use Rattle.std.proofs.Common.{◌<◌, refl, ap, arith, length}
use Rattle.std.proofs.lemmas.List.{length-set}
use Rattle.tide_plain.specs.stored.Parts.{parts_of}
use Rattle.tide_plain.specs.stored.Stored.{Stored}
use Rattle.tide_plain.proofs.stored_laws.MutatorLaws.{state_of-claims, IsStored-mutators}
use Rattle.tide_plain.proofs.stored.contents.Contents.unclaim.Goals as goal

pub returns : goal.returns
returns c =
    let within : c.args.who < length (parts_of c.self.inside).mutators = omega (arith, c.self.invariant.all_mutators, c.requires.mutator, ap (λ (s : Stored). s.layout.mutators) c.self.view_is) in
    rw (← c.self.view_is, c.unclaim.ensures) (record { state = state_of-claims (parts_of c.self.inside) c.args.who _ within; layout = refl; shapes = refl })

pub invariant_of-self : goal.invariant_of-self
invariant_of-self c = rw c.unclaim.ensures (IsStored-mutators (parts_of c.self.inside) _ (length-set (parts_of c.self.inside).mutators c.args.who _) c.self.invariant)
