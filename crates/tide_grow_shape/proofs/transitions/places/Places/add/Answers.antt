use Rattle.std.proofs.Common.{sym, ◌∙◌}
use Rattle.tide_grow_shape.proofs.transitions_laws.PlaceLaws.{indexes_new}
use Rattle.tide_grow_shape.proofs.transitions.places.Places.add.Goals as goal

pub returns : goal.returns
returns c = λ numbers is at. indexes_new c.args.self.now (record { places = c.insert.new.self }) numbers c.args.number c.args.place
    (sym c.contains_key.ensures ∙ c.if-contains_key.false) c.in-Ok.ensures.updates.0 at is
