use Rattle.std.proofs.Common.{subst}
use Rattle.std.specs.Prelude.{Contains}
use Rattle.tide_grow_shape.specs.transitions.Sights.{edge_of, edges_of}
use Rattle.tide_grow_shape.specs.transitions.Walks.{Edge}
use Rattle.tide_grow_shape.proofs.transitions_laws.SightLaws.{edge_in, last_either, more_either}
use Rattle.tide_grow_shape.proofs.transitions.sights.Sights.merge_one.Goals as goal

pub returns-in-Some-clause-merged : goal.returns-in-Some-clause-merged
returns-in-Some-clause-merged c = subst (λ (e : Edge). Contains (edges_of c.args.self.now) e) c.agrees.ensures (edge_in c.args.self.now c.in-Some.mine.now c.in-Some.ensures.some.0)

pub returns-in-None-clause-more : goal.returns-in-None-clause-more
returns-in-None-clause-more c = more_either c.add.result c.args.self.now c.add.new.self c.again.result c.add.ensures.ok c.add.ensures.err

pub returns-in-None-clause-merged : goal.returns-in-None-clause-merged
returns-in-None-clause-merged c = last_either c.add.result c.args.self.now c.add.new.self c.again.result (edge_of c.args.sight.now) c.add.ensures.ok c.again.ensures.edge
