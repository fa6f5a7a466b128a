-- Registrations are taken back: the realm takes part still, and has the references that it had.
use Rattle.std.proofs.Common.{ap}
use Rattle.embed_weakref.proofs.Engines.{part_kept}
use Rattle.tide.specs.tide_mutator.owed.Calling.{kept}
use Rattle.tide.specs.tide_weakref.Jobs.{Jobs}
use Rattle.embed_weakref.proofs.engine.Engine.unregister.Goals as goal

pub returns-clause-works : goal.returns-clause-works
returns-clause-works c =
    let engine = c.args.self.now in
    let id = engine.heap.table.shared.table_id in
    let layout = engine.heap.key.layout in
    part_kept id layout engine.collector.seat.me.0.period engine.realm c.unregister.new.self
    (ap kept c.unregister.ensures.same.2) (c.unregister.ensures.ready id layout c.requires.works.ready)
    (ap (λ (j : Jobs). j.scratch) c.unregister.ensures.jobs) c.requires.works

pub returns-clause-keeps : goal.returns-clause-keeps
returns-clause-keeps c = c.unregister.ensures.goes_on.references
