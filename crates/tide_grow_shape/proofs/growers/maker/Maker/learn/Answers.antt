use Rattle.tide_grow_shape.proofs.growers_laws.GrowingLaws.{Stands_learned_either, knows_learned_either}
use Rattle.tide_grow_shape.proofs.growers.maker.Maker.learn.Goals as goal

pub returns-clause-stands : goal.returns-clause-stands
returns-clause-stands c = λ name stands own. Stands_learned_either c.learn.result c.args.self.now.known c.learn.new.self c.args.child c.args.keys.items
    c.learn.ensures.ok c.learn.ensures.err name c.args.self.now.sights stands c.requires.lists c.requires.short c.requires.distinct own

pub returns-clause-known : goal.returns-clause-known
returns-clause-known c = λ name stands. knows_learned_either c.learn.result c.args.self.now.known c.learn.new.self c.args.child c.args.keys.items
    c.learn.ensures.ok c.learn.ensures.err name c.args.self.now.sights stands c.requires.lists
