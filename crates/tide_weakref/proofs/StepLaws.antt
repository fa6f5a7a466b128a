-- What each call of a realm leaves, by its mutator's views before it and after it.
use Rattle.std.proofs.Common.{ℕ, ◌≡◌, ◌≢◌, sym, ◌∙◌, ap, subst, true, false, List, inl, inr}
use Rattle.std.proofs.lemmas.Bool.{cases_eq}
use Rattle.tide_heap.proofs.tide_core.machine_laws.steps.OwnState.{own_after}
use Rattle.tide_heap.specs.tide_core.machine.Own.{Own}
use Rattle.tide_heap.specs.tide_core.declared.machine.view.View.{View}
use Rattle.tide_model.specs.Caller.{IsOwn, MakesCall}
use Rattle.tide_model.specs.History.{state_after}
use Rattle.tide_model.specs.Layout.{Layout}
use Rattle.tide_model.specs.Numbers.{put_at}
use Rattle.tide_model.specs.Prefix.{prefix_refl}
use Rattle.tide_model.specs.Refused.{ShapeLists}
use Rattle.tide_model.specs.declared.entry.Event.{Event}
use Rattle.tide_model.specs.declared.op.Op.{Op}
use Rattle.tide_model.specs.declared.op.Op.TheVariants.{Get, Move, Drop, StrongSet, WeakSet, WeakGet}
use Rattle.tide_model.specs.declared.op.Refusal.TheVariants.{NotCell}
use Rattle.tide_model.specs.declared.op.Reply.{Reply}
use Rattle.tide_model.specs.declared.op.Reply.TheVariants.{Seen, Refused}
use Rattle.tide_model.specs.declared.val.Val.{Val}
use Rattle.tide_model.specs.declared.val.Val.TheVariants.{Empty, Cell}
use Rattle.tide_weakref.proofs.Advances.{Advances, advances, same_own}
use Rattle.tide_weakref.proofs.HandleLaws.{freed_none, put_here}
use Rattle.tide_weakref.proofs.OperationLaws.{dropped, got, got_leaves, moved, put_elsewhere, refused_leaves, set_leaves, stays_alive, stays_gone, strong_set, weak_get, weak_set}
use Rattle.tide_weakref.proofs.StandingLaws.{LeavesJobs, holds_called}
use Rattle.tide_weakref.specs.Handles.{IsFreedIn, IsGone, StrongKeeps, is_cell, op_sets_weak}
use Rattle.tide_weakref.specs.Jobs.{HasKeptJobs, HoldsJobs, Jobs, KeepsJobs}
use Rattle.tide_weakref.specs.Stepping.{HasHeldJobs, HoldsNow, KeepsTargets, SameBut, held_in}

-- what stands now, stood
pub held_now : (layout : Layout) (v : View) (jobs : Jobs) → HoldsNow layout v jobs → HasHeldJobs layout v jobs
held_now layout v jobs holds = record { at = v.seen; earlier = prefix_refl v.seen; holds = holds }

pub kept_now : (layout : Layout) (v : View) (jobs : Jobs) → KeepsJobs layout v.who jobs v.seen v.mine → HasKeptJobs layout v jobs
kept_now layout v jobs keeps = record { at = v.seen; earlier = prefix_refl v.seen; keeps = keeps }

pub held_kept : (layout : Layout) (v : View) (jobs : Jobs) → HasKeptJobs layout v jobs → HasHeldJobs layout v jobs
held_kept layout v jobs kept = record { at = kept.at; earlier = kept.earlier; holds = kept.keeps.holds }

-- the scratch register of a realm that kept its jobs is empty still
pub scratch_kept : (layout : Layout) (v : View) (jobs : Jobs) → HasKeptJobs layout v jobs → IsOwn v.who v.seen v.mine →
    held_in layout v jobs.scratch ≡ Empty
scratch_kept layout v jobs kept own =
    ap (λ (o : Own). o.registers jobs.scratch) (same_own layout v.who v.seen kept.at v.mine own kept.keeps.holds.own)
    ∙ kept.keeps.scratch

module _ (layout : Layout) (shapes : ShapeLists) (v u : View) (op : Op) (reply : Reply) (same : u.who ≡ v.who)
    (makes : MakesCall layout shapes v.who op reply v.seen u.seen v.mine u.mine) where
  abbrev pub adv : Advances layout shapes v.who op reply v.seen u.seen v.mine
  adv = advances layout shapes v.who op reply v.seen v.seen u.seen v.mine u.mine (prefix_refl v.seen) makes.were_own makes

  pub step_own : IsOwn u.who u.seen u.mine
  step_own = subst (λ (w : ℕ). IsOwn w u.seen u.mine) (sym same) makes.are_own

  pub step_holds : (jobs : Jobs) → HasHeldJobs layout v jobs → LeavesJobs jobs op → HoldsNow layout u jobs
  step_holds jobs held leaves = subst (λ (w : ℕ). HoldsJobs layout w jobs u.seen u.mine) (sym same)
      (holds_called layout shapes v.who op reply jobs held.at v.seen u.seen v.mine u.mine held.earlier held.holds leaves makes)

  pub step_targets : (jobs : Jobs) → ((handle : ℕ) → op_sets_weak handle op ≡ false) → KeepsTargets layout jobs v u
  step_targets jobs sets_none = record {
    gone = λ handle target within spare is.
        stays_gone layout shapes v.who op reply v.seen u.seen v.mine adv jobs.strong jobs.weak handle target spare within
        (sets_none handle) is;
    alive = λ handle target within spare has alive.
        stays_alive layout shapes v.who op reply v.seen u.seen v.mine adv makes.were_own jobs.strong jobs.weak handle
        jobs.scratch target spare within (sets_none handle) has alive;
  }

  -- registers by the view's own number
  abbrev in_view : (ℕ → Val) → Type 0
  in_view f = held_in layout u ≡ f

  by_view : (f : ℕ → Val) → (state_after layout u.seen).registers v.who ≡ f → held_in layout u ≡ f
  by_view f is = ap (λ (w : ℕ). (state_after layout u.seen).registers w) same ∙ is

  pub step_set : ((o : Own) (r : Reply) → own_after o op r ≡ o) → held_in layout u ≡ held_in layout v
  step_set leaves = by_view (held_in layout v) (set_leaves layout shapes v.who reply v.seen u.seen v.mine op leaves adv makes.were_own)

module _ (layout : Layout) (shapes : ShapeLists) (v u : View) (reply : Reply) (same : u.who ≡ v.who) where
  -- a register's value once it was put, or another was
  put_view : (f : ℕ → Val) (place : ℕ) (value : Val) → held_in layout u ≡ put_at f place value →
      (held_in layout u place ≡ value) × ((r : ℕ) → r ≢ place → held_in layout u r ≡ f r)
  put_view f place value is = (
    ap (λ (g : ℕ → Val). g place) is ∙ put_here f place value,
    λ r apart. ap (λ (g : ℕ → Val). g r) is ∙ put_elsewhere f place r value apart,
  )

  pub step_dropped : (dst : ℕ) → MakesCall layout shapes v.who (Drop dst) reply v.seen u.seen v.mine u.mine →
      (held_in layout u dst ≡ Empty) × SameBut layout dst v u
  step_dropped dst makes = put_view (held_in layout v) dst Empty
      (by_view layout shapes v u (Drop dst) reply same makes (put_at (held_in layout v) dst Empty)
      (dropped layout shapes v.who reply v.seen u.seen v.mine dst
      (adv layout shapes v u (Drop dst) reply same makes) makes.were_own))

  pub step_moved : (dst src : ℕ) → MakesCall layout shapes v.who (Move dst src) reply v.seen u.seen v.mine u.mine →
      (held_in layout u dst ≡ held_in layout v src) × SameBut layout dst v u
  step_moved dst src makes = put_view (held_in layout v) dst (held_in layout v src)
      (by_view layout shapes v u (Move dst src) reply same makes (put_at (held_in layout v) dst (held_in layout v src))
      (moved layout shapes v.who reply v.seen u.seen v.mine dst src
      (adv layout shapes v u (Move dst src) reply same makes) makes.were_own))

  pub step_loaded : (dst handle : ℕ) → MakesCall layout shapes v.who (WeakGet dst handle) reply v.seen u.seen v.mine u.mine →
      (reply ≡ Seen ((state_after layout u.seen).weak handle))
      × ((held_in layout u dst ≡ (state_after layout u.seen).weak handle) × SameBut layout dst v u)
  step_loaded dst handle makes =
      let read = weak_get layout shapes v.who reply v.seen u.seen v.mine dst handle
      (adv layout shapes v u (WeakGet dst handle) reply same makes) makes.were_own in (
        read.0,
        put_view (held_in layout v) dst ((state_after layout u.seen).weak handle)
            (by_view layout shapes v u (WeakGet dst handle) reply same makes
            (put_at (held_in layout v) dst ((state_after layout u.seen).weak handle)) read.1),
      )

  -- a weak handle is set: it has what the register held, and if that names a cell, stands for it
  pub step_aimed : (handle src : ℕ) → MakesCall layout shapes v.who (WeakSet handle src) reply v.seen u.seen v.mine u.mine →
      ((state_after layout u.seen).weak handle ≡ held_in layout v src)
      × ((cell : ℕ) → IsGone u.seen handle cell → ⊥)
  step_aimed handle src makes =
      let set = weak_set layout shapes v.who reply v.seen u.seen v.mine handle src
      (adv layout shapes v u (WeakSet handle src) reply same makes) makes.were_own in
      (set.0, λ cell gone. freed_none cell (subst (λ (es : List Event). IsFreedIn es cell) set.1 gone))

  pub step_kept : (handle src cell : ℕ) → MakesCall layout shapes v.who (StrongSet handle src) reply v.seen u.seen v.mine u.mine →
      held_in layout v src ≡ Cell cell → StrongKeeps layout u.seen handle cell
  step_kept handle src cell makes is = strong_set layout shapes v.who reply v.seen u.seen v.mine handle src cell
      (adv layout shapes v u (StrongSet handle src) reply same makes) makes.were_own is

  pub step_got : (dst src slot : ℕ) → MakesCall layout shapes v.who (Get dst src slot) reply v.seen u.seen v.mine u.mine →
      ((is_cell (held_in layout v src) ≡ false → reply ≡ Refused (NotCell src))
      × (is_cell (held_in layout v src) ≡ true → (reg : ℕ) → reply ≡ Refused (NotCell reg) → ⊥)) × SameBut layout dst v u
  step_got dst src slot makes =
      let a = adv layout shapes v u (Get dst src slot) reply same makes in (
        got layout shapes v.who reply v.seen u.seen v.mine dst src slot a makes.were_own,
        λ r apart. ap (λ (w : ℕ). (state_after layout u.seen).registers w r) same
            ∙ got_leaves layout shapes v.who reply v.seen u.seen v.mine dst src slot r a makes.were_own apart,
      )

  pub step_refused : (dst src slot reg : ℕ) → MakesCall layout shapes v.who (Get dst src slot) reply v.seen u.seen v.mine u.mine →
      reply ≡ Refused (NotCell reg) → held_in layout u ≡ held_in layout v
  step_refused dst src slot reg makes is =
      by_view layout shapes v u (Get dst src slot) reply same makes (held_in layout v)
      (refused_leaves layout shapes v.who reply v.seen u.seen v.mine dst src slot (NotCell reg)
      (adv layout shapes v u (Get dst src slot) reply same makes) makes.were_own is)

-- registers that are the same but for the scratch register, which is empty in both, are the same
pub same_registers : (layout : Layout) (v u : View) (scratch : ℕ) → held_in layout v scratch ≡ Empty →
    held_in layout u scratch ≡ Empty → SameBut layout scratch v u → held_in layout u ≡ held_in layout v
same_registers layout v u scratch was is others = λ i r. each r i
  where
    each : (r : ℕ) → held_in layout u r ≡ held_in layout v r
    each r = elim (cases_eq r scratch) [
      | inl here ↦ ap (held_in layout u) here ∙ (is ∙ sym was) ∙ ap (held_in layout v) (sym here)
      | inr apart ↦ others r apart
    ]
