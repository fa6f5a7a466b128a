-- A weak handle is set to what a register holds, and read.
use Rattle.std.proofs.Common.{refl}
use Rattle.tide_model.specs.declared.op.Op.TheVariants.{WeakSet}
use Rattle.tide_mutator.specs.calls.Viewed.{view_of}
use Rattle.tide_weakref.proofs.AimLaws.{was_aimed}
use Rattle.tide_weakref.proofs.CalledLaws.{stepped_alone_then, stepped_then}
use Rattle.tide_weakref.proofs.ClosingLaws.{same_but_all, same_but_then}
use Rattle.tide_weakref.proofs.SettingLaws.{one_aims}
use Rattle.tide_weakref.proofs.StandingLaws.{apart_leaves}
use Rattle.tide_weakref.proofs.StepLaws.{held_now, step_holds, step_set}
use Rattle.tide_weakref.proofs.stepping.aim.Goals as goal

pub returns-clause-stepped : goal.returns-clause-stepped
returns-clause-stepped g c =
    stepped_then c.args.mutator.now c.step.new.mutator c.load.new.mutator c.step.ensures.stepped c.load.ensures.stepped

pub returns-clause-stands : goal.returns-clause-stands
returns-clause-stands g c = λ jobs apart held.
    let layout = c.args.heap.now.key.layout in
    let w = view_of c.step.new.mutator in
    c.load.ensures.stands jobs (held_now layout w jobs
    (step_holds layout (g.S.ShapeTable.lists c.args.heap.now.key.shapes) (view_of c.args.mutator.now) w
    (WeakSet c.args.handle c.args.src) c.step.result c.step.ensures.stepped.who c.step.ensures.makes jobs held
    (apart_leaves jobs c.args.handle c.args.src apart)))

pub returns-clause-others : goal.returns-clause-others
returns-clause-others g c =
    let layout = c.args.heap.now.key.layout in
    let v = view_of c.args.mutator.now in
    let w = view_of c.step.new.mutator in
    same_but_then layout c.args.scratch v w (view_of c.load.new.mutator)
    (same_but_all layout c.args.scratch v w
    (step_set layout (g.S.ShapeTable.lists c.args.heap.now.key.shapes) v w (WeakSet c.args.handle c.args.src) c.step.result
    c.step.ensures.stepped.who c.step.ensures.makes (λ o r. refl))) c.load.ensures.others

pub returns-clause-aimed : goal.returns-clause-aimed
returns-clause-aimed g c =
    let gets = c.load.ensures.makes in
    was_aimed c.args.heap.now.key.layout (g.S.ShapeTable.lists c.args.heap.now.key.shapes) (view_of c.args.mutator.now)
    (view_of c.step.new.mutator) (view_of c.load.new.mutator) c.step.result gets.0 c.args.scratch c.args.src c.args.handle
    c.load.result c.step.ensures.stepped.who c.load.ensures.stepped.who c.step.ensures.makes gets.1 c.load.ensures.read

pub returns-clause-sets : goal.returns-clause-sets
returns-clause-sets g c =
    stepped_alone_then c.args.mutator.now c.step.new.mutator c.load.new.mutator c.args.handle c.step.ensures.stepped c.load.ensures.stepped
    (one_aims c.args.heap.now.key.layout (g.S.ShapeTable.lists c.args.heap.now.key.shapes) (view_of c.args.mutator.now)
    (view_of c.step.new.mutator) c.step.result c.args.handle c.args.src c.step.ensures.makes) c.load.ensures.sets
