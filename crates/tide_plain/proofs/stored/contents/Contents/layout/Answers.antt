use Rattle.std.proofs.Common.{subst}
use Rattle.tide_plain.specs.stored.Contents.{IsWithinLayout, state_of}
use Rattle.tide_plain.specs.stored.Parts.{parts_of}
use Rattle.tide_plain.specs.stored.Stored.{Stored}
use Rattle.tide_plain.proofs.stored_laws.LayoutLaws.{IsWithinLayout-stored}
use Rattle.tide_plain.proofs.stored.contents.Contents.layout.Goals as goal

pub returns-clause-within : goal.returns-clause-within
returns-clause-within c =
    subst (λ (contents : Stored). IsWithinLayout contents.layout (state_of contents)) c.self.view_is
    (IsWithinLayout-stored (parts_of c.self.inside) c.self.invariant)
