use Rattle.std.proofs.Common.{ap, sym, ◌∙◌}
use Rattle.tide_grow_shape.specs.growers.Grown.{Knowledge, known_keys}
use Rattle.tide_grow_shape.proofs.growers_laws.GrowingLaws.{knows_fact}
use Rattle.tide_grow_shape.proofs.growers_laws.KnownLaws.{known_is_fact}
use Rattle.tide_grow_shape.proofs.growers.grower.Grower.past.Goals as goal

pub returns-clause-above : goal.returns-clause-above
returns-clause-above c = λ shape keys knows. c.past.ensures.above record { shape = shape; keys = keys }
    (known_is_fact c.self.inside.maker.known shape keys (ap (λ (g : Knowledge). known_keys g.known shape) c.self.view_is ∙ knows))

pub returns-clause-lowest : goal.returns-clause-lowest
returns-clause-lowest c = λ bound above. c.past.ensures.lowest bound (λ f there. above f.shape f.keys (sym (ap (λ (g : Knowledge). known_keys g.known f.shape) c.self.view_is)
    ∙ knows_fact c.self.inside.table.numbers c.self.inside.maker.sights c.self.inside.maker.known c.self.invariant.stands f.shape f.keys there))
