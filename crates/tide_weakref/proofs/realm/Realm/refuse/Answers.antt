-- Whether a register holds a cell is asked of its slot.
use Rattle.std.proofs.Common.{ℕ, ◌∙◌, refl, sym, ap, true, false}
use Rattle.std.specs.Prelude.{not}
use Rattle.tide_model.specs.declared.op.Op.TheVariants.{Get}
use Rattle.tide_mutator.specs.calls.Viewed as works
use Rattle.tide_weakref.proofs.CalledLaws.{stepped_sets_then, stepped_then, worked_by}
use Rattle.tide_weakref.proofs.ClosingLaws.{closes, closes_after, same_but_all}
use Rattle.tide_weakref.proofs.KeepLaws.{got_is, told_no_cell, why_no_cell}
use Rattle.tide_weakref.proofs.SettingLaws.{one_sets_none, takes_none}
use Rattle.tide_weakref.proofs.StandingLaws.{goes_same}
use Rattle.tide_weakref.proofs.StepLaws.{held_kept, scratch_kept, step_got, step_holds, step_refused}
use Rattle.tide_weakref.specs.Stepping.{held_in}
use Rattle.tide_weakref.specs.Viewed.{jobs_of, view_of}
use Rattle.tide_weakref.proofs.realm.Realm.refuse.Goals as goal

pub step-reply-requires-clause-fits : goal.step-reply-requires-clause-fits
step-reply-requires-clause-fits g c κs met = (c.requires.ready.kept_jobs.keeps.holds.of_layout.scratch, c.requires.register.0)

pub let_go-requires-clause-register : goal.let_go-requires-clause-register
let_go-requires-clause-register g c κs met = c.requires.ready.kept_jobs.keeps.holds.of_layout.scratch

pub returns : goal.returns
returns g c =
    let layout = c.args.heap.now.key.layout in
    let shapes = g.S.ShapeTable.lists c.args.heap.now.key.shapes in
    let v = view_of c.args.self.now in
    let w = works.view_of c.step-reply.new.mutator in
    let jobs = jobs_of c.args.self.now in
    let step = c.step-reply in
    let told = step_got layout shapes v w step.result step.ensures.stepped.who jobs.scratch c.args.src 0 step.ensures.makes in
    let holds = step_holds layout shapes v w (Get jobs.scratch c.args.src 0) step.result step.ensures.stepped.who step.ensures.makes
    jobs (held_kept layout v jobs c.requires.ready.kept_jobs) (record { uses = λ k d below. refl; cells = λ place below. refl }) in
    let closed = closes_after layout v w (works.view_of c.let_go.new.mutator) jobs jobs c.requires.ready.kept_jobs
    step.ensures.makes.were_own refl told.1 holds c.let_go.ensures.stands c.let_go.ensures.emptied c.let_go.ensures.others in
    record {
      worked = worked_by c.args.self.now _
          (stepped_then c.args.self.now.mutator step.new.mutator c.let_go.new.mutator step.ensures.stepped c.let_go.ensures.stepped)
          (goes_same jobs)
          (takes_none v (works.view_of c.let_go.new.mutator) jobs jobs
          (stepped_sets_then c.args.self.now.mutator step.new.mutator c.let_go.new.mutator step.ensures.stepped c.let_go.ensures.stepped
          (one_sets_none layout shapes v w (Get jobs.scratch c.args.src 0) step.result step.ensures.makes (λ handle. refl) (λ handle. refl))
          c.let_go.ensures.sets) (λ one has. has)) closed.kept;
      keeps_jobs = closed.keeps;
      registers = closed.registers;
      jobs = refl;
      why = why_no_cell (held_in layout v c.args.src) c.args.src false
          (got_is (held_in layout v c.args.src) step.result c.args.src told.0.0 told.0.1
          ∙ ap not (sym c.refuses_no_cell.ensures ∙ c.if-refuses_no_cell.false));
    }

-- the register holds no cell: nothing has changed
pub returns-then-refuses_no_cell : goal.returns-then-refuses_no_cell
returns-then-refuses_no_cell g c =
    let layout = c.args.heap.now.key.layout in
    let shapes = g.S.ShapeTable.lists c.args.heap.now.key.shapes in
    let v = view_of c.args.self.now in
    let u = works.view_of c.step-reply.new.mutator in
    let jobs = jobs_of c.args.self.now in
    let step = c.step-reply in
    let refuses = sym c.refuses_no_cell.ensures ∙ c.if-refuses_no_cell.true in
    let told = step_got layout shapes v u step.result step.ensures.stepped.who jobs.scratch c.args.src 0 step.ensures.makes in
    let bare = told_no_cell (held_in layout v c.args.src) step.result c.args.src told.0.0 told.0.1 refuses in
    let same = step_refused layout shapes v u step.result step.ensures.stepped.who jobs.scratch c.args.src 0 c.args.src
    step.ensures.makes (told.0.0 bare) in
    let closed = closes layout v u jobs jobs c.requires.ready.kept_jobs step.ensures.makes.were_own refl
    (step_holds layout shapes v u (Get jobs.scratch c.args.src 0) step.result step.ensures.stepped.who step.ensures.makes jobs
    (held_kept layout v jobs c.requires.ready.kept_jobs) (record { uses = λ k d below. refl; cells = λ place below. refl }))
    (ap (λ (f : ℕ → _). f jobs.scratch) same ∙ scratch_kept layout v jobs c.requires.ready.kept_jobs step.ensures.makes.were_own)
    (same_but_all layout jobs.scratch v u same) in
    record {
      worked = worked_by c.args.self.now _ step.ensures.stepped (goes_same jobs)
          (takes_none v u jobs jobs
          (one_sets_none layout shapes v u (Get jobs.scratch c.args.src 0) step.result step.ensures.makes (λ handle. refl) (λ handle. refl))
          (λ one has. has)) closed.kept;
      keeps_jobs = closed.keeps;
      registers = closed.registers;
      jobs = refl;
      why = why_no_cell (held_in layout v c.args.src) c.args.src true
          (got_is (held_in layout v c.args.src) step.result c.args.src told.0.0 told.0.1 ∙ ap not refuses);
    }
