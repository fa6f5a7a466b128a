-- A cell is taken: the realm takes part still, and has the references that it had.
use Rattle.std.proofs.Common.{ap, subst, sym}
use Rattle.embed_weakref.proofs.Engines.{part_kept}
use Rattle.tide.specs.tide_weakref.Jobs.{Jobs}
use Rattle.tide.specs.tide_weakref.Uses.{IsReference}
use Rattle.embed_weakref.proofs.engine.Engine.alloc.Goals as goal

pub returns-clause-works : goal.returns-clause-works
returns-clause-works c =
    let engine = c.args.self.now in
    part_kept engine.heap.table.shared.table_id engine.heap.key.layout engine.collector.seat.me.0.period engine.realm
    c.call.new.self c.call.ensures.kept c.call.ensures.ready (ap (λ (j : Jobs). j.scratch) c.call.ensures.jobs)
    c.requires.works

pub returns-clause-keeps : goal.returns-clause-keeps
returns-clause-keeps c = λ r is. subst (λ (j : Jobs). IsReference j r) (sym c.call.ensures.jobs) is
