-- A retirement names no register and no handle.
use Rattle.std.proofs.Common.{ap}
use Rattle.tide_model.specs.declared.op.Op.TheVariants.{Retire}
use Rattle.tide_mutator.specs.calls.Viewed as works
use Rattle.tide_mutator.specs.owed.Calling.{Kept}
use Rattle.tide_weakref.proofs.SparingLaws.{spares_keep}
use Rattle.tide_weakref.proofs.StepLaws.{kept_now}
use Rattle.tide_weakref.specs.Viewed.{jobs_of, view_of}
use Rattle.tide_weakref.proofs.realm.Realm.retire.Goals as goal

pub returns-clause-keeps_jobs : goal.returns-clause-keeps_jobs
returns-clause-keeps_jobs g c =
    spares_keep c.args.heap.now.key.layout (g.S.ShapeTable.lists c.args.heap.now.key.shapes) (view_of c.args.self.now)
    (works.view_of c.retire.new.self) Retire c.retire.result (ap (λ (k : Kept). k.who) c.retire.ensures.kept)
    (jobs_of c.args.self.now) c.requires.ready.kept_jobs tt c.retire.ensures.makes

pub returns-clause-kept_jobs : goal.returns-clause-kept_jobs
returns-clause-kept_jobs g c =
    kept_now c.args.heap.now.key.layout (works.view_of c.retire.new.self) (jobs_of c.args.self.now)
    (returns-clause-keeps_jobs g c)
