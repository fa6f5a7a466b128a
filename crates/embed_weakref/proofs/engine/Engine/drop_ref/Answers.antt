-- A weak reference is given up: the realm takes part still, and has the other references that it had.
use Rattle.std.proofs.Common.{ap}
use Rattle.embed_weakref.proofs.Engines.{part_kept}
use Rattle.tide.specs.tide_mutator.owed.Calling.{kept}
use Rattle.tide.specs.tide_weakref.Jobs.{Jobs}
use Rattle.embed_weakref.proofs.engine.Engine.drop_ref.Goals as goal

pub returns-clause-works : goal.returns-clause-works
returns-clause-works c =
    let engine = c.args.self.now in
    let id = engine.heap.table.shared.table_id in
    let layout = engine.heap.key.layout in
    part_kept id layout engine.collector.seat.me.0.period engine.realm c.drop_ref.new.self
    (ap kept c.drop_ref.ensures.same.2) (c.drop_ref.ensures.ready id layout c.requires.works.ready)
    (ap (λ (j : Jobs). j.scratch) c.drop_ref.ensures.jobs) c.requires.works

pub returns-clause-others : goal.returns-clause-others
returns-clause-others c = c.drop_ref.ensures.others
