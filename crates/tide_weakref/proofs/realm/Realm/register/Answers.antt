-- A cell is registered, or that is refused.
use Rattle.std.proofs.Common.{ℕ, ◌+◌, arith, refl, sym, ap, subst}
use Rattle.std.specs.Prelude.{Err}
use Rattle.tide_mutator.specs.calls.Viewed as works
use Rattle.tide_weakref.proofs.CalledLaws.{stepped_alone_then, stepped_seen, stepped_then, worked_by}
use Rattle.tide_weakref.proofs.ClosingLaws.{closes_after, full_where, is_apart, is_in, registered_full, registered_not_cell, registered_one, spare_before, uses_more}
use Rattle.tide_weakref.proofs.SettingLaws.{alone_only, takes_no_more, takes_one}
use Rattle.tide_weakref.proofs.StandingLaws.{goes_same, goes_using, holds_using}
use Rattle.tide_weakref.proofs.StepLaws.{held_kept}
use Rattle.tide_weakref.specs.Jobs.{OthersSpare}
use Rattle.tide_weakref.specs.Registered.{IsRegistered}
use Rattle.tide_weakref.specs.Stepping.{HoldsNow, held_in}
use Rattle.tide_weakref.specs.Uses.{GoesOn, registration}
use Rattle.tide_weakref.specs.Viewed.{jobs_of, view_of}
use Rattle.tide_weakref.specs.declared.refused.WeakRefused.{WeakRefused}
use Rattle.tide_weakref.proofs.realm.Realm.register.Goals as goal

pub returns-in_default-clause-answers : goal.returns-in_default-clause-answers
returns-in_default-clause-answers g c = λ spare.
    let value = held_in c.args.heap.now.key.layout (view_of c.args.self.now) c.args.src in
    let jobs = jobs_of c.args.self.now in
    let now = jobs_of c.refuse.new.self in
    subst (λ (r : WeakRefused). IsRegistered c.args.src value c.args.held c.args.token jobs now (Err r)) (sym c.refuse.ensures.why)
    (registered_full c.args.src value c.args.held c.args.token jobs now (c.in_default.ensures.none refl) c.refuse.ensures.jobs)

pub returns-in_default-clause-full : goal.returns-in_default-clause-full
returns-in_default-clause-full g c = λ all. ap (λ (why : WeakRefused). Err why) c.refuse.ensures.why

pub returns-in_default-clause-refs_full : goal.returns-in_default-clause-refs_full
returns-in_default-clause-refs_full g c =
    full_where (jobs_of c.args.self.now) c.refuse.result (c.in_default.ensures.none refl)

pub aim-requires-clause-fits : goal.aim-requires-clause-fits
aim-requires-clause-fits g c κs met =
    let of = c.requires.ready.kept_jobs.keeps.holds.of_layout in
    let below = c.in-Some.ensures.fresh.0 in
    let weak = of.weak in
    (of.scratch, omega (arith, below, weak))

pub let_go-requires-clause-register : goal.let_go-requires-clause-register
let_go-requires-clause-register g c κs met = c.requires.ready.kept_jobs.keeps.holds.of_layout.scratch

pub let_go-requires-2-clause-register : goal.let_go-requires-2-clause-register
let_go-requires-2-clause-register g c κs met = c.requires.ready.kept_jobs.keeps.holds.of_layout.scratch

pub returns-in_default-aim : goal.returns-in_default-aim
returns-in_default-aim g c =
    let layout = c.args.heap.now.key.layout in
    let v = view_of c.args.self.now in
    let w = works.view_of c.aim.new.mutator in
    let u = works.view_of c.let_go.new.mutator in
    let jobs = jobs_of c.args.self.now in
    let at = c.in-Some.at in
    let holds = c.aim.ensures.stands jobs (is_apart jobs at c.in-Some.ensures.fresh.1) (held_kept layout v jobs c.requires.ready.kept_jobs) in
    let closed = closes_after layout v w u jobs jobs c.requires.ready.kept_jobs (c.aim.ensures.stepped.own holds.own) refl
    c.aim.ensures.others holds c.let_go.ensures.stands c.let_go.ensures.emptied c.let_go.ensures.others in
    let before = stepped_seen c.aim.new.mutator c.let_go.new.mutator c.let_go.ensures.stepped in
    record {
      worked = worked_by c.args.self.now _
          (stepped_then c.args.self.now.mutator c.aim.new.mutator c.let_go.new.mutator c.aim.ensures.stepped c.let_go.ensures.stepped)
          (goes_same jobs)
          (takes_no_more v u jobs jobs at c.in-Some.ensures.fresh.0 c.in-Some.ensures.fresh.1
          (alone_only v u (jobs.weak.first + at)
          (stepped_alone_then c.args.self.now.mutator c.aim.new.mutator c.let_go.new.mutator
          (jobs.weak.first + at) c.aim.ensures.stepped c.let_go.ensures.stepped c.aim.ensures.sets c.let_go.ensures.sets))
          (λ one has. has)) closed.kept;
      keeps_jobs = closed.keeps;
      registers = closed.registers;
      answers = λ spare. registered_not_cell layout v w u jobs jobs (jobs.weak.first + at) c.args.src
          (is_in jobs at c.in-Some.ensures.fresh.0) (spare_before v.who v.who jobs w.seen u.seen refl before spare)
          c.args.held c.args.token c.in_default-aim.ensures.aimed refl;
      uses = tt;
      full = (λ all. absurd (let some = c.in-Some.ensures.some in omega (arith, all, some)));
      refs_full = tt;
      refused = refl;
    }

pub returns : goal.returns
returns g c =
    let layout = c.args.heap.now.key.layout in
    let v = view_of c.args.self.now in
    let w = works.view_of c.aim.new.mutator in
    let let_go = c.let_go-2 in
    let u = works.view_of let_go.new.mutator in
    let jobs = jobs_of c.args.self.now in
    let at = c.in-Some.at in
    let below = c.in-Some.ensures.fresh.0 in
    let one = registration at c.in-Some-aim.target c.args.held c.args.token in
    let now = record jobs { weak = c.add.new.self.handles; uses = c.add.new.self.uses.items } in
    let more = uses_more jobs c.add.new.self.handles c.add.new.self.uses.items one c.add.ensures.handles c.add.ensures.uses in
    let holds = c.aim.ensures.stands jobs (is_apart jobs at c.in-Some.ensures.fresh.1) (held_kept layout v jobs c.requires.ready.kept_jobs) in
    let aimed = c.in-Some-aim.ensures.aimed in
    let closed = closes_after layout v w u jobs now c.requires.ready.kept_jobs (c.aim.ensures.stepped.own holds.own) refl
    c.aim.ensures.others (subst (HoldsNow layout w) (sym more) (holds_using layout w.who jobs one w.seen w.mine holds below
    (λ spare. aimed.stands jobs (is_in jobs at below) (subst (λ (n : ℕ). OthersSpare n jobs w.seen) c.aim.ensures.stepped.who spare))))
    let_go.ensures.stands let_go.ensures.emptied let_go.ensures.others in
    let before = stepped_seen c.aim.new.mutator let_go.new.mutator let_go.ensures.stepped in
    record {
      worked = worked_by c.args.self.now _
          (stepped_then c.args.self.now.mutator c.aim.new.mutator let_go.new.mutator c.aim.ensures.stepped let_go.ensures.stepped)
          (subst (GoesOn jobs) (sym more) (goes_using jobs one))
          (let alone = stepped_alone_then c.args.self.now.mutator c.aim.new.mutator let_go.new.mutator
          (jobs.weak.first + at) c.aim.ensures.stepped let_go.ensures.stepped c.aim.ensures.sets let_go.ensures.sets in
          takes_one v u jobs now at c.in-Some.ensures.fresh.0 c.in-Some.ensures.fresh.1
          (alone_only v u (jobs.weak.first + at) alone) one refl c.add.ensures.handles c.add.ensures.uses alone.was_set) closed.kept;
      keeps_jobs = closed.keeps;
      registers = closed.registers;
      answers = λ spare. registered_one layout v w u jobs now (jobs.weak.first + at) c.args.src (is_in jobs at below)
          (spare_before v.who v.who jobs w.seen u.seen refl before spare) c.in-Some-aim.target at c.args.held c.args.token aimed
          (λ all. (let some = c.in-Some.ensures.some in omega (arith, all, some))) below c.in-Some.ensures.fresh.1 more;
      uses = (at, (below, c.in-Some.ensures.fresh.1, (c.in-Some-aim.target, c.add.ensures.uses)));
      full = (λ all. absurd (let some = c.in-Some.ensures.some in omega (arith, all, some)));
      refs_full = tt;
      refused = tt;
    }
