use Rattle.std.proofs.Common.{ℕ, List, Some, Err, ap, subst, sym, ◌∙◌}
use Rattle.tide_grow_shape.specs.transitions.Cells.{name_of}
use Rattle.tide_grow_shape.specs.growers.Stands.{Stands}
use Rattle.tide_grow_shape.specs.declared.transitions.sight.Sight.{Sight}
use Rattle.tide_grow_shape.proofs.growers_laws.GrowingLaws.{grown_lists, grown_short_of, grown_distinct_of, grown_of_table_of, short_known, Stands-more}
use Rattle.tide_grow_shape.proofs.growers.maker.Maker.grow.Goals as goal

pub longer-requires-clause-short : goal.longer-requires-clause-short
longer-requires-clause-short g c = short_known (name_of c.args.cells.now) c.args.self.now.sights c.args.self.now.known c.requires.stands c.args.shape

pub learn-requires-clause-lists : goal.learn-requires-clause-lists
learn-requires-clause-lists g c = grown_lists (name_of c.args.cells.now) c.args.self.now.sights c.args.self.now.known c.requires.stands c.args.shape c.args.key c.in_ok-longer.longer.items c.requires.known
    c.in-Ok.child c.walk.new.self c.walk.ensures.more (λ keys is. (c.in_ok-longer.ensures.longer keys is).0) c.in-Ok.ensures.found

pub learn-requires-clause-short : goal.learn-requires-clause-short
learn-requires-clause-short g c = grown_short_of c.args.self.now.known c.args.shape c.args.key c.in_ok-longer.longer.items c.requires.known c.in_ok-longer.ensures.longer

pub learn-requires-clause-distinct : goal.learn-requires-clause-distinct
learn-requires-clause-distinct g c = grown_distinct_of (name_of c.args.cells.now) c.args.self.now.sights c.args.self.now.known c.requires.stands c.args.shape c.args.key c.in_ok-longer.longer.items c.requires.known c.in_ok-longer.ensures.longer

pub returns-in-Err-clause-stands : goal.returns-in-Err-clause-stands
returns-in-Err-clause-stands g c = subst (λ (ss : List Sight). Stands (name_of c.args.cells.now) ss c.refuse.new.self.known) (sym c.refuse.ensures.same.0)
    (subst (Stands (name_of c.args.cells.now) c.walk.new.self) (sym c.refuse.ensures.same.1)
    (Stands-more (name_of c.args.cells.now) c.args.self.now.sights c.walk.new.self c.args.self.now.known c.requires.stands c.walk.ensures.sights c.walk.ensures.more))

pub returns-in-Err-clause-alone : goal.returns-in-Err-clause-alone
returns-in-Err-clause-alone g c = λ other. c.refuse.ensures.alone (λ index same. other index (ap Err same))

pub returns-in-Ok-learn-clause-stands : goal.returns-in-Ok-learn-clause-stands
returns-in-Ok-learn-clause-stands g c = c.learn.ensures.stands (name_of c.args.cells.now)
    (Stands-more (name_of c.args.cells.now) c.args.self.now.sights c.walk.new.self c.args.self.now.known c.requires.stands c.walk.ensures.sights c.walk.ensures.more)
    (grown_of_table_of (name_of c.args.cells.now) c.args.self.now.sights c.args.self.now.known c.requires.stands c.args.shape c.args.key c.in_ok-longer.longer.items c.requires.known c.requires.of_table c.in_ok-longer.ensures.longer)

pub returns-in-Ok-learn-clause-found : goal.returns-in-Ok-learn-clause-found
returns-in-Ok-learn-clause-found g c = λ keys is.
    c.in-Ok-learn.ensures.known (name_of c.args.cells.now)
    (Stands-more (name_of c.args.cells.now) c.args.self.now.sights c.walk.new.self c.args.self.now.known c.requires.stands c.walk.ensures.sights c.walk.ensures.more)
    ∙ ap (λ (ks : List ℕ). Some ks) (c.in_ok-longer.ensures.longer keys is).0

pub returns-in-Err-learn-clause-stands : goal.returns-in-Err-learn-clause-stands
returns-in-Err-learn-clause-stands g c = c.learn.ensures.stands (name_of c.args.cells.now)
    (Stands-more (name_of c.args.cells.now) c.args.self.now.sights c.walk.new.self c.args.self.now.known c.requires.stands c.walk.ensures.sights c.walk.ensures.more)
    (grown_of_table_of (name_of c.args.cells.now) c.args.self.now.sights c.args.self.now.known c.requires.stands c.args.shape c.args.key c.in_ok-longer.longer.items c.requires.known c.requires.of_table c.in_ok-longer.ensures.longer)
