-- What a reference leads to is told, and kept.
use Rattle.std.proofs.Common.{ℕ, ◌≡◌, ◌+◌, ◌<◌, ◌∙◌, arith, refl, sym, ap, subst}
use Rattle.std.proofs.lemmas.List.Elements.{All-contains}
use Rattle.std.specs.Prelude.{Contains, List, None, Ok, Some}
use Rattle.tide_model.specs.Layout.{Layout}
use Rattle.tide_model.specs.Prefix.{prefix_refl}
use Rattle.tide_model.specs.declared.op.Op.TheVariants.{Drop, Move}
use Rattle.tide_model.specs.declared.val.Val.{Val}
use Rattle.tide_model.specs.declared.val.Val.TheVariants.{Cell, Empty}
use Rattle.tide_mutator.specs.calls.Viewed as works
use Rattle.tide_weakref.proofs.AimLaws.{cell_in_is}
use Rattle.tide_weakref.proofs.CalledLaws.{stepped_seen, stepped_sets_then, stepped_then, worked_by}
use Rattle.tide_weakref.proofs.ClosingLaws.{closes_after, found_none, found_target, is_in, put_registers, spare_before}
use Rattle.tide_weakref.proofs.KeepLaws.{may_is, may_not}
use Rattle.tide_weakref.proofs.SettingLaws.{kept_only, none_only, one_sets_none, takes_kept, takes_none}
use Rattle.tide_weakref.proofs.StandingLaws.{goes_keeping, goes_same}
use Rattle.tide_weakref.proofs.StepLaws.{held_kept, held_now, kept_now, scratch_kept, step_dropped, step_holds, step_moved, step_targets}
use Rattle.tide_weakref.specs.Dereferenced.{IsDereferenced, gone, kept_full, leads}
use Rattle.tide_weakref.specs.Jobs.{Jobs, KeepsJobs}
use Rattle.tide_weakref.specs.Stepping.{held_in}
use Rattle.tide_weakref.specs.Uses.{GoesOn, IsFullFor, keeping, reference, with_cell}
use Rattle.tide_weakref.specs.Viewed.{jobs_of, view_of}
use Rattle.tide_weakref.specs.declared.weak.Weak.{Weak}
use Rattle.tide_weakref.proofs.realm.Realm.deref.Goals as goal

pub overflow_cast-at : goal.overflow_cast-at
overflow_cast-at g c =
    let jobs = jobs_of c.args.self.now in
    let holds = c.requires.ready.kept_jobs.keeps.holds in
    let below = All-contains (λ (one : Weak). one.at < jobs.weak.count) jobs.uses (reference c.args.r c.requires.made.0)
    holds.within.uses c.requires.made.1 in
    let of = holds.of_layout.weak in
    let few = c.weak.ensures.limits.few_weak in
    let same = ap (λ (l : Layout). l.weak) c.layout.ensures in
    omega (arith, below, of, few, same)

pub load-requires-clause-fits : goal.load-requires-clause-fits
load-requires-clause-fits g c κs met =
    let jobs = jobs_of c.args.self.now in
    let holds = c.requires.ready.kept_jobs.keeps.holds in
    let below = All-contains (λ (one : Weak). one.at < jobs.weak.count) jobs.uses (reference c.args.r c.requires.made.0)
    holds.within.uses c.requires.made.1 in
    let of = holds.of_layout.weak in
    (holds.of_layout.scratch, omega (arith, below, of))

pub step-requires-clause-fits : goal.step-requires-clause-fits
step-requires-clause-fits g c κs met = c.requires.register.0

pub let_go-requires-clause-register : goal.let_go-requires-clause-register
let_go-requires-clause-register g c κs met = c.requires.ready.kept_jobs.keeps.holds.of_layout.scratch

pub let_go-requires-then-not-may_keep-clause-register : goal.let_go-requires-then-not-may_keep-clause-register
let_go-requires-then-not-may_keep-clause-register g c κs met = c.requires.ready.kept_jobs.keeps.holds.of_layout.scratch

pub let_go-requires-2-clause-register : goal.let_go-requires-2-clause-register
let_go-requires-2-clause-register g c κs met = c.requires.ready.kept_jobs.keeps.holds.of_layout.scratch

pub step-requires-2-clause-fits : goal.step-requires-2-clause-fits
step-requires-2-clause-fits g c κs met = (c.requires.register.0, c.requires.ready.kept_jobs.keeps.holds.of_layout.scratch)

pub returns-in_default : goal.returns-in_default
returns-in_default g c =
    let layout = c.args.heap.now.key.layout in
    let shapes = g.S.ShapeTable.lists c.args.heap.now.key.shapes in
    let v = view_of c.args.self.now in
    let w = works.view_of c.load.new.mutator in
    let x = works.view_of c.step.new.mutator in
    let u = works.view_of c.let_go.new.mutator in
    let jobs = jobs_of c.args.self.now in
    let kept = c.requires.ready.kept_jobs in
    let step = c.step.ensures in
    let at_w = c.load.ensures.stands jobs (held_kept layout v jobs kept) in
    let at_x = step_holds layout shapes w x (Drop c.args.dst) c.step.result step.stepped.who step.makes jobs (held_now layout w jobs at_w)
    (record { uses = λ k d below. refl; cells = λ place below. refl }) in
    let keeps : KeepsJobs layout u.who jobs u.seen u.mine =
    record { holds = c.let_go.ensures.stands jobs (held_now layout x jobs at_x); scratch = c.let_go.ensures.emptied } in
    let dropped = step_dropped layout shapes w x c.step.result step.stepped.who c.args.dst step.makes in
    let later = stepped_then c.load.new.mutator c.step.new.mutator c.let_go.new.mutator step.stepped c.let_go.ensures.stepped in
    let seen_x = stepped_seen c.step.new.mutator c.let_go.new.mutator c.let_go.ensures.stepped in
    let seen_w = stepped_seen c.load.new.mutator c.let_go.new.mutator later in
    record {
      worked = worked_by c.args.self.now _
          (stepped_then c.args.self.now.mutator c.load.new.mutator c.let_go.new.mutator c.load.ensures.stepped later)
          (goes_same jobs)
          (takes_none v u jobs jobs (stepped_sets_then c.args.self.now.mutator c.load.new.mutator c.let_go.new.mutator
          c.load.ensures.stepped later c.load.ensures.sets
          (stepped_sets_then c.load.new.mutator c.step.new.mutator c.let_go.new.mutator step.stepped c.let_go.ensures.stepped
          (one_sets_none layout shapes w x (Drop c.args.dst) c.step.result step.makes (λ h. refl) (λ h. refl)) c.let_go.ensures.sets))
          (λ one has. has)) (kept_now layout u jobs keeps);
      keeps_jobs = keeps;
      holds = put_registers layout v u jobs.scratch c.args.dst Empty (scratch_kept layout v jobs kept (c.load.ensures.stepped.own at_w.own))
          c.requires.register.1 c.let_go.ensures.emptied (c.let_go.ensures.others c.args.dst c.requires.register.1 ∙ dropped.0)
          (λ r far away. c.let_go.ensures.others r far ∙ dropped.1 r away ∙ c.load.ensures.others r far);
      answers = λ target has spare.
          let one = reference c.args.r target in
          let handle = jobs.weak.first + c.args.r in
          let within = is_in jobs c.args.r (All-contains (λ (o : Weak). o.at < jobs.weak.count) jobs.uses one kept.keeps.holds.within.uses has) in
          let who_w = c.load.ensures.stepped.who in
          let lost = found_none layout v w jobs one jobs.scratch None at_w has (spare_before v.who w.who jobs w.seen u.seen who_w seen_w spare)
          c.in_default.ensures.read refl in
          let at_drop = (step_targets layout shapes w x (Drop c.args.dst) c.step.result step.stepped.who step.makes jobs (λ h. refl)).gone
          handle target within (spare_before v.who w.who jobs x.seen u.seen who_w seen_x spare) lost in
          gone ((c.let_go.ensures.targets jobs).gone handle target within
          (spare_before v.who x.who jobs u.seen u.seen (step.stepped.who ∙ who_w) (prefix_refl u.seen) spare) at_drop);
      refused = tt;
      why = tt;
      uses = refl;
    }

pub returns-then-not-may_keep : goal.returns-then-not-may_keep
returns-then-not-may_keep g c =
    let layout = c.args.heap.now.key.layout in
    let v = view_of c.args.self.now in
    let w = works.view_of c.load.new.mutator in
    let let_go = c.let_go-then-not-may_keep in
    let u = works.view_of let_go.new.mutator in
    let jobs = jobs_of c.args.self.now in
    let kept = c.requires.ready.kept_jobs in
    let at_w = c.load.ensures.stands jobs (held_kept layout v jobs kept) in
    let closed = closes_after layout v w u jobs jobs kept (c.load.ensures.stepped.own at_w.own) refl c.load.ensures.others at_w
    let_go.ensures.stands let_go.ensures.emptied let_go.ensures.others in
    let seen_w = stepped_seen c.load.new.mutator let_go.new.mutator let_go.ensures.stepped in
    let read = c.in-Some.ensures.read in
    record {
      worked = worked_by c.args.self.now _
          (stepped_then c.args.self.now.mutator c.load.new.mutator let_go.new.mutator c.load.ensures.stepped let_go.ensures.stepped)
          (goes_same jobs)
          (takes_none v u jobs jobs (stepped_sets_then c.args.self.now.mutator c.load.new.mutator let_go.new.mutator
          c.load.ensures.stepped let_go.ensures.stepped c.load.ensures.sets let_go.ensures.sets) (λ one has. has)) closed.kept;
      keeps_jobs = closed.keeps;
      holds = tt;
      answers = λ target has spare.
          let one = reference c.args.r target in
          let within = is_in jobs c.args.r (All-contains (λ (o : Weak). o.at < jobs.weak.count) jobs.uses one kept.keeps.holds.within.uses has) in
          let who_w = c.load.ensures.stepped.who in
          let found = found_target layout v w jobs one jobs.scratch (Some c.in-Some.cell) at_w has
          (spare_before v.who w.who jobs w.seen u.seen who_w seen_w spare) read c.in-Some.cell refl in
          let held : held_in layout w jobs.scratch ≡ Cell target =
          read.scratch_has ∙ cell_in_is read.value c.in-Some.cell (sym read.found_is) ∙ ap (λ (n : ℕ). Cell n) found.0 in
          kept_full ((let_go.ensures.targets jobs).alive (jobs.weak.first + c.args.r) target within
          (spare_before v.who w.who jobs u.seen u.seen who_w (prefix_refl u.seen) spare) held found.1)
          (subst (λ (n : ℕ). IsFullFor jobs n) found.0
          (may_not jobs c.in-Some.cell at_w.within.cells (sym c.may_keep.ensures ∙ c.if-not-may_keep.true)));
      refused = (refl, closed.registers);
      why = refl;
      uses = refl;
    }

pub keep-requires-clause-holds : goal.keep-requires-clause-holds
keep-requires-clause-holds g c κs met =
    c.load.ensures.stands (jobs_of c.args.self.now)
    (held_kept c.args.heap.now.key.layout (view_of c.args.self.now) (jobs_of c.args.self.now) c.requires.ready.kept_jobs)

pub keep-requires-clause-held : goal.keep-requires-clause-held
keep-requires-clause-held g c κs met =
    let read = c.in-Some.ensures.read in
    read.scratch_has ∙ cell_in_is read.value c.in-Some.cell (sym read.found_is)

pub keep-requires-clause-room : goal.keep-requires-clause-room
keep-requires-clause-room g c κs met = λ full.
    may_is (jobs_of c.args.self.now) c.in-Some.cell (sym c.may_keep.ensures ∙ c.if-not-may_keep.false) full

pub returns : goal.returns
returns g c =
    let layout = c.args.heap.now.key.layout in
    let shapes = g.S.ShapeTable.lists c.args.heap.now.key.shapes in
    let v = view_of c.args.self.now in
    let w = works.view_of c.load.new.mutator in
    let x = view_of c.keep.new.self in
    let y = works.view_of c.step-2.new.mutator in
    let let_go = c.let_go-2 in
    let u = works.view_of let_go.new.mutator in
    let jobs = jobs_of c.args.self.now in
    let now = jobs_of c.keep.new.self in
    let kept = c.requires.ready.kept_jobs in
    let apart = c.requires.register.1 in
    let step = c.step-2.ensures in
    let same : now.scratch ≡ jobs.scratch = ap (λ (j : Jobs). j.scratch) c.keep.ensures.jobs in
    let at_w = c.load.ensures.stands jobs (held_kept layout v jobs kept) in
    let at_y = step_holds layout shapes x y (Move c.args.dst jobs.scratch) c.step-2.result step.stepped.who step.makes now
    (held_now layout x now c.keep.ensures.holds) (record { uses = λ k d below. refl; cells = λ place below. refl }) in
    let keeps : KeepsJobs layout u.who now u.seen u.mine = record {
      holds = let_go.ensures.stands now (held_now layout y now at_y);
      scratch = ap (held_in layout u) same ∙ let_go.ensures.emptied;
    } in
    let moved = step_moved layout shapes x y c.step-2.result step.stepped.who c.args.dst jobs.scratch step.makes in
    let read = c.in-Some.ensures.read in
    let held_w : held_in layout w jobs.scratch ≡ Cell c.in-Some.cell =
    read.scratch_has ∙ cell_in_is read.value c.in-Some.cell (sym read.found_is) in
    let held_x : held_in layout x jobs.scratch ≡ Cell c.in-Some.cell = ap (λ (f : ℕ → Val). f jobs.scratch) c.keep.ensures.registers ∙ held_w in
    let after_x = stepped_then c.keep.new.self.mutator c.step-2.new.mutator let_go.new.mutator step.stepped let_go.ensures.stepped in
    let after_w = stepped_then c.load.new.mutator c.keep.new.self.mutator let_go.new.mutator c.keep.ensures.stepped after_x in
    record {
      worked = worked_by c.args.self.now _
          (stepped_then c.args.self.now.mutator c.load.new.mutator let_go.new.mutator c.load.ensures.stepped after_w)
          (subst (GoesOn jobs) (sym c.keep.ensures.jobs) (goes_keeping jobs (with_cell jobs.cells c.in-Some.cell)))
          (takes_kept v u jobs now (stepped_sets_then c.args.self.now.mutator c.load.new.mutator let_go.new.mutator
          c.load.ensures.stepped after_w (none_only v w c.load.ensures.sets)
          (stepped_sets_then c.load.new.mutator c.keep.new.self.mutator let_go.new.mutator c.keep.ensures.stepped after_x
          (kept_only w x jobs now c.keep.ensures.sets)
          (none_only x u (stepped_sets_then c.keep.new.self.mutator c.step-2.new.mutator let_go.new.mutator step.stepped
          let_go.ensures.stepped
          (one_sets_none layout shapes x y (Move c.args.dst jobs.scratch) c.step-2.result step.makes (λ h. refl) (λ h. refl))
          let_go.ensures.sets))))
          (λ one has. subst (λ (us : List Weak). Contains us one) (ap (λ (j : Jobs). j.uses) c.keep.ensures.jobs) has))
          (kept_now layout u now keeps);
      keeps_jobs = keeps;
      holds = put_registers layout v u jobs.scratch c.args.dst (Cell c.in-Some.cell)
          (scratch_kept layout v jobs kept (c.load.ensures.stepped.own at_w.own)) apart let_go.ensures.emptied
          (let_go.ensures.others c.args.dst apart ∙ moved.0 ∙ held_x)
          (λ r far away. let_go.ensures.others r far ∙ moved.1 r away ∙ ap (λ (f : ℕ → Val). f r) c.keep.ensures.registers
          ∙ c.load.ensures.others r far);
      answers = λ target has spare.
          let one = reference c.args.r target in
          let handle = jobs.weak.first + c.args.r in
          let within = is_in jobs c.args.r (All-contains (λ (o : Weak). o.at < jobs.weak.count) jobs.uses one kept.keeps.holds.within.uses has) in
          let seen_y = stepped_seen c.step-2.new.mutator let_go.new.mutator let_go.ensures.stepped in
          let seen_x = stepped_seen c.keep.new.self.mutator let_go.new.mutator after_x in
          let seen_w = stepped_seen c.load.new.mutator let_go.new.mutator after_w in
          let who_w = c.load.ensures.stepped.who in
          let who_x = c.keep.ensures.stepped.who ∙ who_w in
          let who_y = step.stepped.who ∙ who_x in
          let found = found_target layout v w jobs one jobs.scratch (Some c.in-Some.cell) at_w has
          (spare_before v.who w.who jobs w.seen u.seen who_w seen_w spare) read c.in-Some.cell refl in
          let to_target = ap (λ (n : ℕ). Cell n) found.0 in
          let alive_x = (c.keep.ensures.targets jobs).alive handle target within
          (spare_before v.who w.who jobs x.seen u.seen who_w seen_x spare) (held_w ∙ to_target) found.1 in
          let alive_y = (step_targets layout shapes x y (Move c.args.dst jobs.scratch) c.step-2.result step.stepped.who step.makes jobs
          (λ h. refl)).alive handle target within (spare_before v.who x.who jobs y.seen u.seen who_x seen_y spare) (held_x ∙ to_target) alive_x in
          let held_y : held_in layout y jobs.scratch ≡ Cell target = moved.1 jobs.scratch (λ e. apart (sym e)) ∙ held_x ∙ to_target in
          let alive_u = (let_go.ensures.targets jobs).alive handle target within
          (spare_before v.who y.who jobs u.seen u.seen who_y (prefix_refl u.seen) spare) held_y alive_y in
          let room : IsFullFor jobs target → ⊥ = λ full. may_is jobs c.in-Some.cell (sym c.may_keep.ensures ∙ c.if-not-may_keep.false)
          (subst (λ (n : ℕ). IsFullFor jobs n) (sym found.0) full) in
          subst (λ (j : Jobs). IsDereferenced u.seen jobs one j (Ok (Cell c.in-Some.cell)))
          (sym (c.keep.ensures.jobs ∙ ap (λ (n : ℕ). keeping jobs n) found.0))
          (subst (λ (n : ℕ). IsDereferenced u.seen jobs one (keeping jobs target) (Ok (Cell n))) (sym found.0) (leads alive_u room));
      refused = tt;
      why = tt;
      uses = ap (λ (j : Jobs). j.uses) c.keep.ensures.jobs;
    }
