-- A reference is made, or refused.
use Rattle.std.proofs.Common.{ℕ, ◌≡◌, ◌+◌, ◌∙◌, arith, refl, sym, ap, subst, rules}
use Rattle.std.proofs.lemmas.List.Elements.{Contains-push}
use Rattle.std.specs.Prelude.{Contains, Err, List, Ok}
use Rattle.tide_mutator.specs.calls.Viewed as works
use Rattle.tide_weakref.proofs.CalledLaws.{stepped_alone_then, stepped_seen, stepped_set_then, stepped_sets_then, stepped_then, worked_by}
use Rattle.tide_weakref.proofs.ClosingLaws.{closes_after, full_where, is_apart, is_in, made_kept_full, made_not_cell, made_reference, referenced_full, same_but_all, same_but_then, spare_before, uses_more}
use Rattle.tide_weakref.proofs.KeepLaws.{may_is, may_not}
use Rattle.tide_weakref.proofs.SettingLaws.{alone_only, kept_only, none_only, takes_no_more, takes_one}
use Rattle.tide_weakref.proofs.StandingLaws.{goes_keeping, goes_same, goes_then, goes_using, holds_using}
use Rattle.tide_weakref.proofs.StepLaws.{held_kept}
use Rattle.tide_weakref.specs.Jobs.{Jobs, OthersSpare}
use Rattle.tide_weakref.specs.Referenced.{IsReferenced}
use Rattle.tide_weakref.specs.Stepping.{HoldsNow, held_in}
use Rattle.tide_weakref.specs.Uses.{GoesOn, IsReference, UsesOneMore, keeping, reference, using, with_cell}
use Rattle.tide_weakref.specs.Viewed.{jobs_of, view_of}
use Rattle.tide_weakref.specs.declared.refused.WeakRefused.{WeakRefused}
use Rattle.tide_weakref.specs.declared.weak.Weak.{Weak}
use Rattle.tide_weakref.proofs.realm.Realm.make_ref.Goals as goal

pub returns-in_default-clause-answers : goal.returns-in_default-clause-answers
returns-in_default-clause-answers g c = λ spare.
    let value = held_in c.args.heap.now.key.layout (view_of c.args.self.now) c.args.src in
    let jobs = jobs_of c.args.self.now in
    let now = jobs_of c.refuse.new.self in
    subst (λ (r : WeakRefused). IsReferenced c.args.src value jobs now (Err r)) (sym c.refuse.ensures.why)
    (referenced_full c.args.src value jobs now (c.in_default.ensures.none refl) c.refuse.ensures.jobs)

pub returns-in_default-clause-full : goal.returns-in_default-clause-full
returns-in_default-clause-full g c = λ all. ap (λ (why : WeakRefused). Err why) c.refuse.ensures.why

pub returns-in_default-clause-refs_full : goal.returns-in_default-clause-refs_full
returns-in_default-clause-refs_full g c =
    full_where (jobs_of c.args.self.now) c.refuse.result (c.in_default.ensures.none refl)

pub aim-requires-clause-fits : goal.aim-requires-clause-fits
aim-requires-clause-fits g c κs met =
    let of = c.requires.ready.kept_jobs.keeps.holds.of_layout in
    let below = c.in-Some.ensures.fresh.0 in
    let weak = of.weak in
    (of.scratch, omega (arith, below, weak))

pub let_go-requires-clause-register : goal.let_go-requires-clause-register
let_go-requires-clause-register g c κs met = c.requires.ready.kept_jobs.keeps.holds.of_layout.scratch

pub let_go-requires-then-not-may_keep-clause-register : goal.let_go-requires-then-not-may_keep-clause-register
let_go-requires-then-not-may_keep-clause-register g c κs met = c.requires.ready.kept_jobs.keeps.holds.of_layout.scratch

pub let_go-requires-2-clause-register : goal.let_go-requires-2-clause-register
let_go-requires-2-clause-register g c κs met = c.requires.ready.kept_jobs.keeps.holds.of_layout.scratch

pub returns-in_default-aim : goal.returns-in_default-aim
returns-in_default-aim g c =
    let layout = c.args.heap.now.key.layout in
    let v = view_of c.args.self.now in
    let w = works.view_of c.aim.new.mutator in
    let u = works.view_of c.let_go.new.mutator in
    let jobs = jobs_of c.args.self.now in
    let at = c.in-Some.at in
    let holds = c.aim.ensures.stands jobs (is_apart jobs at c.in-Some.ensures.fresh.1) (held_kept layout v jobs c.requires.ready.kept_jobs) in
    let closed = closes_after layout v w u jobs jobs c.requires.ready.kept_jobs (c.aim.ensures.stepped.own holds.own) refl
    c.aim.ensures.others holds c.let_go.ensures.stands c.let_go.ensures.emptied c.let_go.ensures.others in
    let before = stepped_seen c.aim.new.mutator c.let_go.new.mutator c.let_go.ensures.stepped in
    record {
      worked = worked_by c.args.self.now _
          (stepped_then c.args.self.now.mutator c.aim.new.mutator c.let_go.new.mutator c.aim.ensures.stepped c.let_go.ensures.stepped)
          (goes_same jobs)
          (takes_no_more v u jobs jobs at c.in-Some.ensures.fresh.0 c.in-Some.ensures.fresh.1
          (alone_only v u (jobs.weak.first + at)
          (stepped_alone_then c.args.self.now.mutator c.aim.new.mutator c.let_go.new.mutator
          (jobs.weak.first + at) c.aim.ensures.stepped c.let_go.ensures.stepped c.aim.ensures.sets c.let_go.ensures.sets))
          (λ one has. has)) closed.kept;
      keeps_jobs = closed.keeps;
      registers = closed.registers;
      answers = λ spare. made_not_cell layout v w u jobs jobs (jobs.weak.first + at) c.args.src (is_in jobs at c.in-Some.ensures.fresh.0)
          (spare_before v.who v.who jobs w.seen u.seen refl before spare) c.in_default-aim.ensures.aimed refl;
      made = tt;
      uses = tt;
      full = (λ all. absurd (let some = c.in-Some.ensures.some in omega (arith, all, some)));
      refs_full = tt;
      refused = refl;
    }

pub returns-then-not-may_keep : goal.returns-then-not-may_keep
returns-then-not-may_keep g c =
    let layout = c.args.heap.now.key.layout in
    let v = view_of c.args.self.now in
    let w = works.view_of c.aim.new.mutator in
    let let_go = c.let_go-then-not-may_keep in
    let u = works.view_of let_go.new.mutator in
    let jobs = jobs_of c.args.self.now in
    let at = c.in-Some.at in
    let target = c.in-Some-aim.target in
    let holds = c.aim.ensures.stands jobs (is_apart jobs at c.in-Some.ensures.fresh.1) (held_kept layout v jobs c.requires.ready.kept_jobs) in
    let closed = closes_after layout v w u jobs jobs c.requires.ready.kept_jobs (c.aim.ensures.stepped.own holds.own) refl
    c.aim.ensures.others holds let_go.ensures.stands let_go.ensures.emptied let_go.ensures.others in
    let before = stepped_seen c.aim.new.mutator let_go.new.mutator let_go.ensures.stepped in
    record {
      worked = worked_by c.args.self.now _
          (stepped_then c.args.self.now.mutator c.aim.new.mutator let_go.new.mutator c.aim.ensures.stepped let_go.ensures.stepped)
          (goes_same jobs)
          (takes_no_more v u jobs jobs at c.in-Some.ensures.fresh.0 c.in-Some.ensures.fresh.1
          (alone_only v u (jobs.weak.first + at)
          (stepped_alone_then c.args.self.now.mutator c.aim.new.mutator let_go.new.mutator
          (jobs.weak.first + at) c.aim.ensures.stepped let_go.ensures.stepped c.aim.ensures.sets let_go.ensures.sets))
          (λ one has. has)) closed.kept;
      keeps_jobs = closed.keeps;
      registers = closed.registers;
      answers = λ spare. made_kept_full layout v w u jobs jobs (jobs.weak.first + at) c.args.src (is_in jobs at c.in-Some.ensures.fresh.0)
          (spare_before v.who v.who jobs w.seen u.seen refl before spare) target c.in-Some-aim.ensures.aimed
          (λ all. (let some = c.in-Some.ensures.some in omega (arith, all, some)))
          (may_not jobs target holds.within.cells (sym c.may_keep.ensures ∙ c.if-not-may_keep.true)) refl;
      made = tt;
      uses = tt;
      full = (λ all. absurd (let some = c.in-Some.ensures.some in omega (arith, all, some)));
      refs_full = tt;
      refused = refl;
    }

pub keep-requires-clause-holds : goal.keep-requires-clause-holds
keep-requires-clause-holds g c κs met =
    let layout = c.args.heap.now.key.layout in
    let v = view_of c.args.self.now in
    let w = works.view_of c.aim.new.mutator in
    let jobs = jobs_of c.args.self.now in
    let at = c.in-Some.at in
    let one = reference at c.in-Some-aim.target in
    let holds = c.aim.ensures.stands jobs (is_apart jobs at c.in-Some.ensures.fresh.1) (held_kept layout v jobs c.requires.ready.kept_jobs) in
    subst (HoldsNow layout w) (sym (uses_more jobs c.add.new.self.handles c.add.new.self.uses.items one c.add.ensures.handles c.add.ensures.uses))
    (holds_using layout w.who jobs one w.seen w.mine holds c.in-Some.ensures.fresh.0
    (λ spare. c.in-Some-aim.ensures.aimed.stands jobs (is_in jobs at c.in-Some.ensures.fresh.0)
    (subst (λ (n : ℕ). OthersSpare n jobs w.seen) c.aim.ensures.stepped.who spare)))

pub keep-requires-clause-held : goal.keep-requires-clause-held
keep-requires-clause-held g c κs met = c.in-Some-aim.ensures.aimed.scratch_has

pub keep-requires-clause-room : goal.keep-requires-clause-room
keep-requires-clause-room g c κs met = λ full.
    may_is (jobs_of c.args.self.now) c.in-Some-aim.target (sym c.may_keep.ensures ∙ c.if-not-may_keep.false) full

pub returns : goal.returns
returns g c =
    let layout = c.args.heap.now.key.layout in
    let v = view_of c.args.self.now in
    let w = works.view_of c.aim.new.mutator in
    let x = view_of c.keep.new.self in
    let let_go = c.let_go-2 in
    let u = works.view_of let_go.new.mutator in
    let jobs = jobs_of c.args.self.now in
    let now = jobs_of c.keep.new.self in
    let at = c.in-Some.at in
    let target = c.in-Some-aim.target in
    let one = reference at target in
    let holds = c.aim.ensures.stands jobs (is_apart jobs at c.in-Some.ensures.fresh.1) (held_kept layout v jobs c.requires.ready.kept_jobs) in
    let closed = closes_after layout v x u jobs now c.requires.ready.kept_jobs (c.aim.ensures.stepped.own holds.own)
    (ap (λ (j : Jobs). j.scratch) c.keep.ensures.jobs)
    (same_but_then layout jobs.scratch v w x c.aim.ensures.others (same_but_all layout jobs.scratch w x c.keep.ensures.registers))
    c.keep.ensures.holds let_go.ensures.stands let_go.ensures.emptied let_go.ensures.others in
    let later = stepped_then c.aim.new.mutator c.keep.new.self.mutator let_go.new.mutator c.keep.ensures.stepped let_go.ensures.stepped in
    let before = stepped_seen c.aim.new.mutator let_go.new.mutator later in
    let number : c.from.result ≡ at = search rules in
    let made : now ≡ keeping (using jobs one) target = c.keep.ensures.jobs ∙ ap (λ (j : Jobs). keeping j target)
    (uses_more jobs c.add.new.self.handles c.add.new.self.uses.items one c.add.ensures.handles c.add.ensures.uses) in
    record {
      worked = worked_by c.args.self.now _
          (stepped_then c.args.self.now.mutator c.aim.new.mutator let_go.new.mutator c.aim.ensures.stepped later)
          (subst (GoesOn jobs) (sym made) (goes_then jobs (using jobs one) (keeping (using jobs one) target) (goes_using jobs one)
          (goes_keeping (using jobs one) (with_cell jobs.cells target))))
          (takes_one v u jobs now at c.in-Some.ensures.fresh.0 c.in-Some.ensures.fresh.1
          (stepped_sets_then c.args.self.now.mutator c.aim.new.mutator let_go.new.mutator c.aim.ensures.stepped later
          (alone_only v w (jobs.weak.first + at) c.aim.ensures.sets)
          (stepped_sets_then c.aim.new.mutator c.keep.new.self.mutator let_go.new.mutator c.keep.ensures.stepped let_go.ensures.stepped
          (kept_only w x jobs now c.keep.ensures.sets) (none_only x u let_go.ensures.sets)))
          one refl (ap (λ (j : Jobs). j.weak) made) (ap (λ (j : Jobs). j.uses) made)
          (stepped_set_then c.args.self.now.mutator c.aim.new.mutator let_go.new.mutator (jobs.weak.first + at) c.aim.ensures.stepped
          later c.aim.ensures.sets.was_set)) closed.kept;
      keeps_jobs = closed.keeps;
      registers = closed.registers;
      answers = λ spare. subst (λ (n : ℕ). IsReferenced c.args.src (held_in layout v c.args.src) jobs now (Ok n)) (sym number)
          (made_reference layout v w u jobs now (jobs.weak.first + at) c.args.src (is_in jobs at c.in-Some.ensures.fresh.0)
          (spare_before v.who v.who jobs w.seen u.seen refl before spare) target at c.in-Some-aim.ensures.aimed
          (λ all. (let some = c.in-Some.ensures.some in omega (arith, all, some)))
          (λ full. may_is jobs target (sym c.may_keep.ensures ∙ c.if-not-may_keep.false) full)
          c.in-Some.ensures.fresh.0 c.in-Some.ensures.fresh.1 made);
      made = subst (λ (n : ℕ). IsReference now n) (sym number) (
        target,
        subst (λ (us : List Weak). Contains us one) (sym (ap (λ (j : Jobs). j.uses) made)) (Contains-push jobs.uses one),
      );
      uses = subst (λ (n : ℕ). UsesOneMore jobs now n (reference n)) (sym number)
          (c.in-Some.ensures.fresh.0, c.in-Some.ensures.fresh.1, (target, ap (λ (j : Jobs). j.uses) made));
      full = (λ all. absurd (let some = c.in-Some.ensures.some in omega (arith, all, some)));
      refs_full = tt;
      refused = tt;
    }
