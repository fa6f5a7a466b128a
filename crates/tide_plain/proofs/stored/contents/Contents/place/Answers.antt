use Rattle.std.proofs.Common.{◌∙◌, sym, ap, ℕ, List}
use Rattle.tide_model.specs.Numbers.{is_among}
use Rattle.tide_plain.specs.stored.Parts.{parts_of}
use Rattle.tide_shape.proofs.KeyLaws.{has_key-found, place_of-found}
use Rattle.tide_plain.proofs.stored_laws.PropertyLaws.{keys_are-stored}
use Rattle.tide_plain.proofs.stored_laws.StoredLaws.{IsLive-at}
use Rattle.tide_plain.proofs.stored.contents.Contents.place.Goals as goal

pub returns-clause-known : goal.returns-clause-known
returns-clause-known c =
    let contents = parts_of c.self.inside in
    let live = IsLive-at contents c.args.self.now c.args.cell c.self.view_is c.requires in
    let keys = keys_are-stored contents c.args.cell c.stored.result.now live c.stored.ensures in
    rw (← c.self.view_is)
    (sym (has_key-found _ c.args.key c.place.result c.place.ensures.there c.place.ensures.none) ∙ ap (λ (ks : List ℕ). is_among ks c.args.key) keys)

pub returns-clause-place : goal.returns-clause-place
returns-clause-place c =
    let contents = parts_of c.self.inside in
    let live = IsLive-at contents c.args.self.now c.args.cell c.self.view_is c.requires in
    let keys = keys_are-stored contents c.args.cell c.stored.result.now live c.stored.ensures in
    rw (← c.self.view_is, ← keys) (place_of-found _ c.args.key c.place.result c.place.ensures.first)
