-- The cell that the scratch register holds is kept.
use Rattle.std.proofs.Common.{ℕ, ◌∙◌, refl, sym, subst}
use Rattle.tide_model.specs.declared.op.Op.TheVariants.{StrongSet}
use Rattle.tide_weakref.proofs.CalledLaws.{stepped_none}
use Rattle.tide_weakref.proofs.KeepLaws.{has_room, kept_more, keeping_more, keeping_same}
use Rattle.tide_weakref.proofs.StandingLaws.{LeavesJobs, holds_keeping, keep_leaves}
use Rattle.tide_weakref.proofs.SettingLaws.{kept_last, one_keeps, sets_since}
use Rattle.tide_weakref.proofs.StepLaws.{held_now, step_holds, step_kept, step_set, step_targets}
use Rattle.tide_weakref.specs.Handles.{StrongKeeps}
use Rattle.tide_weakref.specs.Jobs.{Jobs}
use Rattle.tide_weakref.specs.Stepping.{HoldsNow}
use Rattle.tide_weakref.specs.Viewed.{jobs_of, view_of}
use Rattle.tide_mutator.specs.calls.Viewed as works
use Rattle.tide_weakref.proofs.realm.Realm.keep.Goals as goal

pub returns-then-has-clause-stepped : goal.returns-then-has-clause-stepped
returns-then-has-clause-stepped g c = stepped_none c.args.self.now.mutator c.requires.running

pub returns-then-has-clause-jobs : goal.returns-then-has-clause-jobs
returns-then-has-clause-jobs g c = keeping_same (jobs_of c.args.self.now) c.args.cell (sym c.has.ensures ∙ c.if-has.true)

pub returns-then-has-clause-targets : goal.returns-then-has-clause-targets
returns-then-has-clause-targets g c = λ jobs. record {
  gone = λ handle target within spare is. is;
  alive = λ handle target within spare has alive. alive;
}

pub next-at-requires-clause-room : goal.next-at-requires-clause-room
next-at-requires-clause-room g c = has_room (jobs_of c.args.self.now) c.args.cell c.requires.holds.within.cells
    (sym c.has.ensures ∙ c.if-has.false) c.requires.room

pub returns-clause-jobs : goal.returns-clause-jobs
returns-clause-jobs g c =
    let jobs = jobs_of c.args.self.now in
    kept_more jobs c.add.new.self.handles c.add.new.self.cells.items c.args.cell c.add.ensures.handles c.add.ensures.cells
    ∙ keeping_more jobs c.args.cell (sym c.has.ensures ∙ c.if-has.false)

pub returns-clause-holds : goal.returns-clause-holds
returns-clause-holds g c =
    let layout = c.args.heap.now.key.layout in
    let shapes = g.S.ShapeTable.lists c.args.heap.now.key.shapes in
    let v = view_of c.args.self.now in
    let u = works.view_of c.step.new.mutator in
    let jobs = jobs_of c.args.self.now in
    let cell = c.args.cell in
    let room = has_room jobs cell c.requires.holds.within.cells (sym c.has.ensures ∙ c.if-has.false) c.requires.room in
    let called = step_holds layout shapes v u (StrongSet c.next-at.result jobs.scratch) c.step.result c.step.ensures.stepped.who
    c.step.ensures.makes jobs (held_now layout v jobs c.requires.holds)
    (subst (λ (n : ℕ). LeavesJobs jobs (StrongSet n jobs.scratch)) (sym c.next-at.ensures) (keep_leaves jobs jobs.scratch)) in
    subst (HoldsNow layout u)
    (sym (kept_more jobs c.add.new.self.handles c.add.new.self.cells.items cell c.add.ensures.handles c.add.ensures.cells))
    (holds_keeping layout u.who jobs cell u.seen u.mine called room
    (λ spare. subst (λ (n : ℕ). StrongKeeps layout u.seen n cell) c.next-at.ensures
    (step_kept layout shapes v u c.step.result c.step.ensures.stepped.who c.next-at.result jobs.scratch cell
    c.step.ensures.makes c.requires.held)))

pub returns-clause-registers : goal.returns-clause-registers
returns-clause-registers g c =
    step_set c.args.heap.now.key.layout (g.S.ShapeTable.lists c.args.heap.now.key.shapes) (view_of c.args.self.now)
    (works.view_of c.step.new.mutator) (StrongSet c.next-at.result (jobs_of c.args.self.now).scratch) c.step.result
    c.step.ensures.stepped.who c.step.ensures.makes (λ o r. refl)

pub returns-clause-targets : goal.returns-clause-targets
returns-clause-targets g c = λ jobs.
    step_targets c.args.heap.now.key.layout (g.S.ShapeTable.lists c.args.heap.now.key.shapes) (view_of c.args.self.now)
    (works.view_of c.step.new.mutator) (StrongSet c.next-at.result (jobs_of c.args.self.now).scratch) c.step.result
    c.step.ensures.stepped.who c.step.ensures.makes jobs (λ handle. refl)

pub returns-then-has-clause-sets : goal.returns-then-has-clause-sets
returns-then-has-clause-sets g c = sets_since (view_of c.args.self.now)

pub returns-clause-sets : goal.returns-clause-sets
returns-clause-sets g c =
    let jobs = jobs_of c.args.self.now in
    let now : Jobs = record jobs { strong = c.add.new.self.handles; cells = c.add.new.self.cells.items } in
    one_keeps c.args.heap.now.key.layout (g.S.ShapeTable.lists c.args.heap.now.key.shapes) (view_of c.args.self.now)
    (works.view_of c.step.new.mutator) c.step.result c.next-at.result jobs.scratch c.step.ensures.makes
    (kept_last jobs now c.args.cell c.next-at.result c.add.ensures.handles c.add.ensures.cells c.next-at.ensures)
