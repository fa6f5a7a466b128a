-- The first registration whose target is gone is taken out.
use Rattle.std.proofs.Common.{ℕ, ◌≡◌, ◌<◌, ◌∙◌, refl, sym, ap, subst}
use Rattle.std.proofs.lemmas.List.Elements.{All-contains}
use Rattle.std.specs.List.{remove}
use Rattle.std.specs.Prelude.{Contains, List, MatchOption, None, Option, Some}
use Rattle.tide_mutator.specs.calls.Viewed as works
use Rattle.tide_weakref.proofs.CalledLaws.{stepped_mine, stepped_seen, stepped_sets_then, stepped_then, worked_by}
use Rattle.tide_weakref.proofs.ClosingLaws.{closes, is_in, same_but_then, uses_are}
use Rattle.tide_weakref.proofs.ReadingLaws.{first_gone_more, held_more}
use Rattle.tide_weakref.proofs.SettingLaws.{removed_was, takes_none}
use Rattle.tide_weakref.proofs.StandingLaws.{all_removed, goes_removed, goes_same, holds_fewer}
use Rattle.tide_weakref.proofs.StepLaws.{held_kept}
use Rattle.tide_weakref.proofs.WeakLaws.{contains_got}
use Rattle.tide_weakref.specs.Delivered.{AllHeldCells, IsDelivered, IsFirstGone, delivers, nothing}
use Rattle.tide_weakref.specs.Jobs.{Jobs}
use Rattle.tide_weakref.specs.Stepping.{HoldsNow}
use Rattle.tide_weakref.specs.Roles.{held_of}
use Rattle.tide_weakref.specs.Uses.{GoesOn}
use Rattle.tide_weakref.specs.Viewed.{jobs_of, view_of}
use Rattle.tide_weakref.specs.declared.weak.Weak.{Weak}
use Rattle.tide_weakref.proofs.realm.Realm.deliver.Goals as goal

-- what was found at a place
found_some : (A : Type 0) (B : ℕ → Type 0) (found : Option ℕ) (place : ℕ) → found ≡ Some place → MatchOption found A B → B place
found_some A B found place is has = subst (λ (o : Option ℕ). MatchOption o A B) is has

-- and where nothing was
found_none : (A : Type 0) (B : ℕ → Type 0) (found : Option ℕ) → ((place : ℕ) → found ≡ Some place → ⊥) → MatchOption found A B → A
found_none A B None not has = has
found_none A B (Some place) not has = absurd (not place refl)

some_weak : (one other : Weak) → Some one ≡ Some other → one ≡ other
some_weak one other is = cc

pub first_gone-found-requires-clause-register : goal.first_gone-found-requires-clause-register
first_gone-found-requires-clause-register g c κs met = c.requires.ready.kept_jobs.keeps.holds.of_layout.scratch

pub first_gone-found-requires-clause-within : goal.first_gone-found-requires-clause-within
first_gone-found-requires-clause-within g c κs met = c.requires.ready.kept_jobs.keeps.holds.of_layout.weak

pub let_go-requires-clause-register : goal.let_go-requires-clause-register
let_go-requires-clause-register g c κs met = c.requires.ready.kept_jobs.keeps.holds.of_layout.scratch

pub returns-in_default : goal.returns-in_default
returns-in_default g c =
    let layout = c.args.heap.now.key.layout in
    let v = view_of c.args.self.now in
    let w = works.view_of c.first_gone-found.new.mutator in
    let u = works.view_of c.let_go.new.mutator in
    let jobs = jobs_of c.args.self.now in
    let first = c.first_gone-found.ensures in
    let last = c.let_go.ensures in
    let held = held_kept layout v jobs c.requires.ready.kept_jobs in
    let holds = last.stands jobs (first.stands jobs held) in
    let closed = closes layout v u jobs jobs c.requires.ready.kept_jobs (first.stepped.own (last.stepped.own holds.own)) refl holds
    last.emptied (same_but_then layout jobs.scratch v w u first.others last.others) in
    record {
      worked = worked_by c.args.self.now _
          (stepped_then c.args.self.now.mutator c.first_gone-found.new.mutator c.let_go.new.mutator first.stepped last.stepped)
          (goes_same jobs)
          (takes_none v u jobs jobs (stepped_sets_then c.args.self.now.mutator c.first_gone-found.new.mutator c.let_go.new.mutator
          first.stepped last.stepped first.sets last.sets) (λ other has. has)) closed.kept;
      keeps_jobs = closed.keeps;
      registers = closed.registers;
      answers = nothing (held_more v w u (stepped_mine c.args.self.now.mutator c.first_gone-found.new.mutator first.stepped)
          (stepped_mine c.first_gone-found.new.mutator c.let_go.new.mutator last.stepped) jobs jobs.uses
          (found_none (AllHeldCells v w jobs jobs.uses)
          (λ (place : ℕ). (one : Weak) × (value : ℕ) × (token : ℕ) × IsFirstGone v w jobs place one value token)
          c.first_gone-found.result (λ place is. c.in_default.not-Some place is) (first.found jobs refl refl held)));
    }

pub remove-one-requires : goal.remove-one-requires
remove-one-requires g c =
    let jobs = jobs_of c.args.self.now in
    let v = view_of c.args.self.now in
    let w = works.view_of c.first_gone-found.new.mutator in
    let held = held_kept c.args.heap.now.key.layout v jobs c.requires.ready.kept_jobs in
    let found = found_some (AllHeldCells v w jobs jobs.uses)
    (λ (place : ℕ). (one : Weak) × (value : ℕ) × (token : ℕ) × IsFirstGone v w jobs place one value token)
    c.first_gone-found.result c.in-Some.place c.in-Some.is (c.first_gone-found.ensures.found jobs refl refl held) in
    (contains_got jobs.uses c.in-Some.place found.0 found.3.at).0

pub returns : goal.returns
returns g c =
    let layout = c.args.heap.now.key.layout in
    let v = view_of c.args.self.now in
    let w = works.view_of c.first_gone-found.new.mutator in
    let u = works.view_of c.let_go.new.mutator in
    let jobs = jobs_of c.args.self.now in
    let place = c.in-Some.place in
    let first = c.first_gone-found.ensures in
    let last = c.let_go.ensures in
    let kept = c.requires.ready.kept_jobs in
    let held = held_kept layout v jobs kept in
    let found = found_some (AllHeldCells v w jobs jobs.uses)
    (λ (at : ℕ). (one : Weak) × (value : ℕ) × (token : ℕ) × IsFirstGone v w jobs at one value token)
    c.first_gone-found.result place c.in-Some.is (first.found jobs refl refl held) in
    let one = found.0 in
    let value = found.1 in
    let token = found.2 in
    let is = found.3 in
    let same : c.remove-one.result ≡ one = some_weak c.remove-one.result one (sym c.remove-one.ensures.was ∙ is.at) in
    let registered = ap held_of (ap (λ (o : Weak). o.role) same ∙ is.registered) in
    let now = record jobs { weak = c.remove-one.new.self.handles; uses = c.remove-one.new.self.uses.items } in
    let less = uses_are jobs c.remove-one.new.self.handles c.remove-one.new.self.uses.items (remove jobs.uses place)
    c.remove-one.ensures.handles c.remove-one.ensures.uses in
    let holds = last.stands jobs (first.stands jobs held) in
    let fewer = subst (HoldsNow layout u) (sym less)
    (holds_fewer layout u.who jobs (remove jobs.uses place) u.seen u.mine (all_removed jobs.uses place) holds) in
    let closed = closes layout v u jobs now kept (first.stepped.own (last.stepped.own holds.own)) refl fewer
    last.emptied (same_but_then layout jobs.scratch v w u first.others last.others) in
    let inside = All-contains (λ (o : Weak). o.at < jobs.weak.count) jobs.uses one kept.keeps.holds.within.uses
    (let got = contains_got jobs.uses place one is.at in (place, got.0, got.1)) in
    let gone = first_gone_more layout v w u jobs place one value token
    (stepped_mine c.args.self.now.mutator c.first_gone-found.new.mutator first.stepped)
    (stepped_mine c.first_gone-found.new.mutator c.let_go.new.mutator last.stepped)
    (stepped_seen c.first_gone-found.new.mutator c.let_go.new.mutator last.stepped) first.stepped.who
    (is_in jobs one.at inside) (last.targets jobs) is in
    record {
      worked = worked_by c.args.self.now _
          (stepped_then c.args.self.now.mutator c.first_gone-found.new.mutator c.let_go.new.mutator first.stepped last.stepped)
          (subst (GoesOn jobs) (sym less) (goes_removed jobs place one value token is.at is.registered))
          (takes_none v u jobs now (stepped_sets_then c.args.self.now.mutator c.first_gone-found.new.mutator c.let_go.new.mutator
          first.stepped last.stepped first.sets last.sets)
          (λ other has. removed_was jobs.uses place other
          (subst (λ (us : List Weak). Contains us other) c.remove-one.ensures.uses has))) closed.kept;
      keeps_jobs = closed.keeps;
      registers = closed.registers;
      answers = subst (λ (j : Jobs). IsDelivered v u jobs j c.held_of.result) (sym less)
          (subst (IsDelivered v u jobs (record jobs { uses = remove jobs.uses place })) (sym (c.held_of.ensures ∙ registered))
          (delivers place one value token gone));
    }
