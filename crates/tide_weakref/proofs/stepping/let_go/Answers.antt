-- The scratch register is emptied.
use Rattle.std.proofs.Common.{refl}
use Rattle.tide_model.specs.declared.op.Op.TheVariants.{Drop}
use Rattle.tide_mutator.specs.calls.Viewed.{view_of}
use Rattle.tide_weakref.proofs.SettingLaws.{one_sets_none}
use Rattle.tide_weakref.proofs.StepLaws.{step_dropped, step_holds, step_targets}
use Rattle.tide_weakref.proofs.stepping.let_go.Goals as goal

pub returns-clause-stands : goal.returns-clause-stands
returns-clause-stands g c = λ jobs held.
    step_holds c.args.heap.now.key.layout (g.S.ShapeTable.lists c.args.heap.now.key.shapes) (view_of c.args.mutator.now)
    (view_of c.step.new.mutator) (Drop c.args.scratch) c.step.result c.step.ensures.stepped.who c.step.ensures.makes jobs held
    (record { uses = λ k d below. refl; cells = λ place below. refl })

pub returns-clause-emptied : goal.returns-clause-emptied
returns-clause-emptied g c =
    (step_dropped c.args.heap.now.key.layout (g.S.ShapeTable.lists c.args.heap.now.key.shapes) (view_of c.args.mutator.now)
    (view_of c.step.new.mutator) c.step.result c.step.ensures.stepped.who c.args.scratch c.step.ensures.makes).0

pub returns-clause-others : goal.returns-clause-others
returns-clause-others g c =
    (step_dropped c.args.heap.now.key.layout (g.S.ShapeTable.lists c.args.heap.now.key.shapes) (view_of c.args.mutator.now)
    (view_of c.step.new.mutator) c.step.result c.step.ensures.stepped.who c.args.scratch c.step.ensures.makes).1

pub returns-clause-targets : goal.returns-clause-targets
returns-clause-targets g c = λ jobs.
    step_targets c.args.heap.now.key.layout (g.S.ShapeTable.lists c.args.heap.now.key.shapes) (view_of c.args.mutator.now)
    (view_of c.step.new.mutator) (Drop c.args.scratch) c.step.result c.step.ensures.stepped.who c.step.ensures.makes jobs
    (λ handle. refl)

pub returns-clause-sets : goal.returns-clause-sets
returns-clause-sets g c =
    one_sets_none c.args.heap.now.key.layout (g.S.ShapeTable.lists c.args.heap.now.key.shapes) (view_of c.args.mutator.now)
    (view_of c.step.new.mutator) (Drop c.args.scratch) c.step.result c.step.ensures.makes (λ handle. refl) (λ handle. refl)
