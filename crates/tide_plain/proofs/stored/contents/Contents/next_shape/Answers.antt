use Rattle.std.proofs.Common.{◌∙◌, ap, ℕ, List, [], ◌∷◌, ◌++◌}
use Rattle.tide_model.specs.Refused.{is_shape}
use Rattle.tide_plain.specs.stored.Parts.{parts_of}
use Rattle.tide_shape.proofs.KeyLaws.{may_add-found}
use Rattle.tide_plain.proofs.stored_laws.AdditionLaws.{fewer_keys-found}
use Rattle.tide_plain.proofs.stored_laws.PropertyLaws.{keys_are-stored}
use Rattle.tide_plain.proofs.stored_laws.StoredLaws.{IsLive-at}
use Rattle.tide_plain.proofs.stored.contents.Contents.next_shape.Goals as goal

pub returns-clause-known : goal.returns-clause-known
returns-clause-known c =
    let contents = parts_of c.self.inside in
    let live = IsLive-at contents c.args.self.now c.args.cell c.self.view_is c.requires in
    let keys = keys_are-stored contents c.args.cell c.stored.result.now live c.stored.ensures in
    rw (← c.self.view_is)
    (may_add-found contents.shapes _ c.next.result c.next.ensures.added c.next.ensures.none ∙ ap (λ (ks : List ℕ). is_shape contents.shapes (ks ++ c.args.key ∷ [])) keys)

pub returns-clause-fewer : goal.returns-clause-fewer
returns-clause-fewer c =
    let contents = parts_of c.self.inside in
    let live = IsLive-at contents c.args.self.now c.args.cell c.self.view_is c.requires in
    let keys = keys_are-stored contents c.args.cell c.stored.result.now live c.stored.ensures in
    rw (← c.self.view_is, ← keys) (fewer_keys-found contents c.args.key _ c.next.result c.self.invariant c.next.ensures.added)
