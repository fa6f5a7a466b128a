-- A weak handle is read.
use Rattle.std.proofs.Common.{refl}
use Rattle.tide_model.specs.declared.op.Op.TheVariants.{WeakGet}
use Rattle.tide_mutator.specs.calls.Viewed.{view_of}
use Rattle.tide_weakref.proofs.AimLaws.{was_loaded}
use Rattle.tide_weakref.proofs.SettingLaws.{one_sets_none}
use Rattle.tide_weakref.proofs.StepLaws.{step_holds}
use Rattle.tide_weakref.proofs.stepping.load.Goals as goal

pub returns-clause-makes : goal.returns-clause-makes
returns-clause-makes g c = (c.step-reply.result, c.step-reply.ensures.makes)

pub returns-clause-stands : goal.returns-clause-stands
returns-clause-stands g c = λ jobs held.
    step_holds c.args.heap.now.key.layout (g.S.ShapeTable.lists c.args.heap.now.key.shapes) (view_of c.args.mutator.now)
    (view_of c.step-reply.new.mutator) (WeakGet c.args.scratch c.args.handle) c.step-reply.result
    c.step-reply.ensures.stepped.who c.step-reply.ensures.makes jobs held
    (record { uses = λ k d below. refl; cells = λ place below. refl })

pub returns-clause-others : goal.returns-clause-others
returns-clause-others g c =
    (was_loaded c.args.heap.now.key.layout (g.S.ShapeTable.lists c.args.heap.now.key.shapes) (view_of c.args.mutator.now)
    (view_of c.step-reply.new.mutator) c.step-reply.result c.step-reply.ensures.stepped.who c.args.scratch c.args.handle
    c.cell_seen.result c.cell_seen.ensures c.step-reply.ensures.makes).1

pub returns-clause-read : goal.returns-clause-read
returns-clause-read g c =
    (was_loaded c.args.heap.now.key.layout (g.S.ShapeTable.lists c.args.heap.now.key.shapes) (view_of c.args.mutator.now)
    (view_of c.step-reply.new.mutator) c.step-reply.result c.step-reply.ensures.stepped.who c.args.scratch c.args.handle
    c.cell_seen.result c.cell_seen.ensures c.step-reply.ensures.makes).0

pub returns-clause-sets : goal.returns-clause-sets
returns-clause-sets g c =
    one_sets_none c.args.heap.now.key.layout (g.S.ShapeTable.lists c.args.heap.now.key.shapes) (view_of c.args.mutator.now)
    (view_of c.step-reply.new.mutator) (WeakGet c.args.scratch c.args.handle) c.step-reply.result c.step-reply.ensures.makes
    (λ handle. refl) (λ handle. refl)
