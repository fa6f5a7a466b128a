-- What a call of a realm leaves once its scratch register is empty again.
use Rattle.std.proofs.Common.{ℕ, ◌≡◌, ◌≢◌, ◌+◌, ◌<◌, arith, refl, sym, ◌∙◌, ap, subst, Bool, true, false, List, [], ◌∷◌, ◌++◌, inl, inr}
use Rattle.std.specs.Prelude.{Contains, Option, None, Some, Ok, Err, if◌then◌else◌}
use Rattle.std.proofs.lemmas.Bool.{cases_eq}
use Rattle.std.proofs.lemmas.List.Elements.{All-contains}
use Rattle.tide_heap.specs.tide_core.declared.machine.view.View.{View}
use Rattle.tide_model.specs.Caller.{IsOwn}
use Rattle.tide_model.specs.Layout.{Layout}
use Rattle.tide_model.specs.Numbers.{put_at}
use Rattle.tide_model.specs.Prefix.{IsPrefix}
use Rattle.tide_model.specs.declared.val.Val.{Val}
use Rattle.tide_model.specs.declared.val.Val.TheVariants.{Empty, Int, Cell}
use Rattle.tide_weakref.proofs.AimLaws.{cell_in_is}
use Rattle.tide_weakref.proofs.HandleLaws.{put_here}
use Rattle.tide_weakref.proofs.OperationLaws.{put_elsewhere}
use Rattle.tide_weakref.proofs.CallLaws.{OthersLeave-prefix}
use Rattle.tide_weakref.proofs.StepLaws.{held_now, kept_now, same_registers, scratch_kept}
use Rattle.tide_weakref.specs.Handles.{IsGone, IsIn, WeakStands, is_cell}
use Rattle.tide_weakref.specs.Jobs.{HasKeptJobs, Jobs, KeepsJobs, OthersSpare, handle_of}
use Rattle.tide_weakref.specs.Referenced as referenced
use Rattle.tide_weakref.specs.Registered as registered
use Rattle.tide_model.specs.declared.entry.Event.{Event}
use Rattle.tide_weakref.specs.Stepping.{HoldsNow, LetsStand, SameBut, WasAimed, WasLoaded, cell_in, held_in, refusal_where_full}
use Rattle.tide_weakref.specs.Uses.{AreAllUsed, IsFullFor, IsFullWhere, IsUnused, keeping, reference, registration, using}
use Rattle.tide_weakref.specs.declared.range.Range16.{Range16}
use Rattle.tide_weakref.specs.declared.refused.WeakRefused.{WeakRefused}
use Rattle.tide_weakref.specs.declared.refused.WeakRefused.TheVariants.{NotCell, RefsFull, KeptFull}
use Rattle.tide_weakref.specs.declared.weak.Weak.{Weak}

-- registers that change in steps
pub same_but_then : (layout : Layout) (r : ℕ) (v w u : View) → SameBut layout r v w → SameBut layout r w u → SameBut layout r v u
same_but_then layout r v w u first second = λ n apart. second n apart ∙ first n apart

pub same_but_all : (layout : Layout) (r : ℕ) (v u : View) → held_in layout u ≡ held_in layout v → SameBut layout r v u
same_but_all layout r v u same = λ n apart. ap (λ (f : ℕ → Val). f n) same

-- others that spare the realm's handles in a longer history do so in a shorter one
pub spare_before : (who other : ℕ) (jobs : Jobs) (at new : List Event) → other ≡ who → IsPrefix at new →
    OthersSpare who jobs new → OthersSpare other jobs at
spare_before who other jobs at new is prefix spare =
    subst (λ (n : ℕ). OthersSpare n jobs at) (sym is) (OthersLeave-prefix who jobs.strong jobs.weak at new prefix spare)

-- a handle of a realm is in its range
pub is_in : (jobs : Jobs) (at : ℕ) → at < jobs.weak.count → IsIn jobs.weak (jobs.weak.first + at)
is_in jobs at below = (omega arith, omega (arith, below))

-- an unused one is none of those in use
pub is_apart : (jobs : Jobs) (at : ℕ) → IsUnused jobs at → (one : Weak) → Contains jobs.uses one →
    handle_of jobs one ≢ jobs.weak.first + at
is_apart jobs at unused one has same = unused one has (omega (arith, same))

-- What is left of a call: the realm keeps its jobs, and the registers hold what they held.
pub record Closes (layout : Layout) (v u : View) (now : Jobs) : Type 0 where
  pub keeps : KeepsJobs layout u.who now u.seen u.mine
  pub kept : HasKeptJobs layout u now
  pub registers : held_in layout u ≡ held_in layout v

pub closes : (layout : Layout) (v u : View) (jobs now : Jobs) → HasKeptJobs layout v jobs → IsOwn v.who v.seen v.mine →
    now.scratch ≡ jobs.scratch → HoldsNow layout u now → held_in layout u jobs.scratch ≡ Empty →
    SameBut layout jobs.scratch v u → Closes layout v u now
closes layout v u jobs now kept own same holds emptied others =
    let keeps : KeepsJobs layout u.who now u.seen u.mine =
    record { holds = holds; scratch = ap (held_in layout u) same ∙ emptied } in
    record {
      keeps = keeps;
      kept = kept_now layout u now keeps;
      registers = same_registers layout v u jobs.scratch (scratch_kept layout v jobs kept own) emptied others;
    }

-- a value that names no cell, and one that does
no_cell_of : (value : Val) → cell_in value ≡ None → is_cell value ≡ false
no_cell_of Empty is = refl
no_cell_of (Int n) is = refl
no_cell_of (Cell c) is = absurd (cc)

-- each return of `make_ref`: what was aimed at v names the answer
module _ (layout : Layout) (v w u : View) (jobs now : Jobs) (handle src : ℕ) (within : IsIn jobs.weak handle)
    (spare : OthersSpare v.who jobs w.seen) where
  pub made_not_cell : WasAimed layout v w jobs.scratch handle src None → now ≡ jobs →
      referenced.IsReferenced src (held_in layout v src) jobs now (Err (NotCell src))
  made_not_cell aimed same = subst (λ (j : Jobs). referenced.IsReferenced src (held_in layout v src) jobs j (Err (NotCell src)))
      (sym same) (referenced.not_cell (no_cell_of (held_in layout v src) (sym (aimed.found_is jobs within spare))))

  pub made_kept_full : (target : ℕ) → WasAimed layout v w jobs.scratch handle src (Some target) → (AreAllUsed jobs → ⊥) →
      IsFullFor jobs target → now ≡ jobs →
      referenced.IsReferenced src (held_in layout v src) jobs now (Err KeptFull)
  made_kept_full target aimed room full same =
      subst (λ (j : Jobs). referenced.IsReferenced src (held_in layout v src) jobs j (Err KeptFull)) (sym same)
      (referenced.kept_full target (cell_in_is (held_in layout v src) target (sym (aimed.found_is jobs within spare))) room full)

  pub made_reference : (target number : ℕ) → WasAimed layout v w jobs.scratch handle src (Some target) → (AreAllUsed jobs → ⊥) →
      (IsFullFor jobs target → ⊥) → number < jobs.weak.count → IsUnused jobs number →
      now ≡ keeping (using jobs (reference number target)) target →
      referenced.IsReferenced src (held_in layout v src) jobs now (Ok number)
  made_reference target number aimed room apart below unused same =
      subst (λ (j : Jobs). referenced.IsReferenced src (held_in layout v src) jobs j (Ok number)) (sym same)
      (referenced.made target number (cell_in_is (held_in layout v src) target (sym (aimed.found_is jobs within spare))) room apart below unused)

  -- and of `register`
  pub registered_not_cell : (held token : ℕ) → WasAimed layout v w jobs.scratch handle src None → now ≡ jobs →
      registered.IsRegistered src (held_in layout v src) held token jobs now (Err (NotCell src))
  registered_not_cell held token aimed same =
      subst (λ (j : Jobs). registered.IsRegistered src (held_in layout v src) held token jobs j (Err (NotCell src)))
      (sym same) (registered.not_cell (no_cell_of (held_in layout v src) (sym (aimed.found_is jobs within spare))))

  pub registered_one : (target at held token : ℕ) → WasAimed layout v w jobs.scratch handle src (Some target) → (AreAllUsed jobs → ⊥) →
      at < jobs.weak.count → IsUnused jobs at → now ≡ using jobs (registration at target held token) →
      registered.IsRegistered src (held_in layout v src) held token jobs now (Ok tt)
  registered_one target at held token aimed room below unused same =
      subst (λ (j : Jobs). registered.IsRegistered src (held_in layout v src) held token jobs j (Ok tt)) (sym same)
      (registered.made target at (cell_in_is (held_in layout v src) target (sym (aimed.found_is jobs within spare))) room below unused)

-- what a reference leads to, where its handle was read at w, and stands there
module _ (layout : Layout) (v w : View) (jobs : Jobs) (one : Weak) (scratch : ℕ) (found : Option ℕ)
    (holds : HoldsNow layout w jobs) (has : Contains jobs.uses one) (spare : OthersSpare w.who jobs w.seen)
    (loaded : WasLoaded layout v w scratch (handle_of jobs one) found) where
  stands : WeakStands layout w.seen (handle_of jobs one) one.target
  stands = All-contains (λ (o : Weak). WeakStands layout w.seen (handle_of jobs o) o.target) jobs.uses one (holds.stands spare).uses has

  pub found_target : (target : ℕ) → found ≡ Some target → (target ≡ one.target) × (IsGone w.seen (handle_of jobs one) one.target → ⊥)
  found_target target is = elim stands [
    | inl here ↦
        let value : Cell target ≡ Cell one.target =
        sym (cell_in_is loaded.value target (sym loaded.found_is ∙ is)) ∙ sym loaded.handle_has ∙ here.0 in
        (cc, here.1)
    | inr lost ↦
        absurd (let value : Cell target ≡ Empty =
        sym (cell_in_is loaded.value target (sym loaded.found_is ∙ is)) ∙ sym loaded.handle_has ∙ lost.0 in cc)
  ]

  pub found_none : found ≡ None → IsGone w.seen (handle_of jobs one) one.target
  found_none is = elim stands [
    | inl here ↦ absurd (let none : Some one.target ≡ None =
        ap cell_in (sym here.0 ∙ loaded.handle_has) ∙ sym loaded.found_is ∙ is in cc)
    | inr lost ↦ lost.1
  ]

-- the same where the step from w on emptied the scratch register
pub closes_after : (layout : Layout) (v w u : View) (jobs now : Jobs) → HasKeptJobs layout v jobs → IsOwn v.who v.seen v.mine →
    now.scratch ≡ jobs.scratch → SameBut layout jobs.scratch v w → HoldsNow layout w now → LetsStand layout w u →
    held_in layout u jobs.scratch ≡ Empty → SameBut layout jobs.scratch w u → Closes layout v u now
closes_after layout v w u jobs now kept own same came holds stands emptied others =
    closes layout v u jobs now kept own same (stands now (held_now layout w now holds)) emptied
    (same_but_then layout jobs.scratch v w u came others)

-- one weak handle more, as the handles' list has it
pub uses_more : (jobs : Jobs) (weak : Range16) (uses : List Weak) (one : Weak) → weak ≡ jobs.weak → uses ≡ jobs.uses ++ one ∷ [] →
    record jobs { weak = weak; uses = uses } ≡ using jobs one
uses_more jobs weak uses one same_weak more =
    ap (λ (w : Range16). record jobs { weak = w; uses = uses }) same_weak
    ∙ ap (λ (us : List Weak). record jobs { uses = us }) more

-- one fewer, or some
pub uses_are : (jobs : Jobs) (weak : Range16) (uses others : List Weak) → weak ≡ jobs.weak → uses ≡ others →
    record jobs { weak = weak; uses = uses } ≡ record jobs { uses = others }
uses_are jobs weak uses others same_weak same =
    ap (λ (w : Range16). record jobs { weak = w; uses = uses }) same_weak
    ∙ ap (λ (us : List Weak). record jobs { uses = us }) same

-- where all weak handles are in use
pub full_where : (jobs : Jobs) (why : WeakRefused) → AreAllUsed jobs → IsFullWhere jobs why
full_where jobs RefsFull all = all
full_where jobs KeptFull all = tt
full_where jobs (NotCell register) all = tt

pub referenced_full : (src : ℕ) (value : Val) (jobs now : Jobs) → AreAllUsed jobs → now ≡ jobs →
    referenced.IsReferenced src value jobs now (Err (refusal_where_full src value))
referenced_full src value jobs now full same =
    subst (λ (j : Jobs). referenced.IsReferenced src value jobs j (Err (refusal_where_full src value))) (sym same)
    (by_test (is_cell value) refl)
  where
    by_test : (b : Bool) → is_cell value ≡ b → referenced.IsReferenced src value jobs jobs (Err (if b then RefsFull else NotCell src))
    by_test true is = referenced.refs_full is full
    by_test false is = referenced.not_cell is

pub registered_full : (src : ℕ) (value : Val) (held token : ℕ) (jobs now : Jobs) → AreAllUsed jobs → now ≡ jobs →
    registered.IsRegistered src value held token jobs now (Err (refusal_where_full src value))
registered_full src value held token jobs now full same =
    subst (λ (j : Jobs). registered.IsRegistered src value held token jobs j (Err (refusal_where_full src value))) (sym same)
    (by_test (is_cell value) refl)
  where
    by_test : (b : Bool) → is_cell value ≡ b →
        registered.IsRegistered src value held token jobs jobs (Err (if b then RefsFull else NotCell src))
    by_test true is = registered.refs_full is full
    by_test false is = registered.not_cell is

-- the registers hold what they held, but for one, where the scratch register is empty before and after
pub put_registers : (layout : Layout) (v u : View) (scratch dst : ℕ) (value : Val) → held_in layout v scratch ≡ Empty →
    dst ≢ scratch → held_in layout u scratch ≡ Empty → held_in layout u dst ≡ value →
    ((r : ℕ) → r ≢ scratch → r ≢ dst → held_in layout u r ≡ held_in layout v r) →
    held_in layout u ≡ put_at (held_in layout v) dst value
put_registers layout v u scratch dst value was apart is here others = λ i r. each r i
  where
    each : (r : ℕ) → held_in layout u r ≡ put_at (held_in layout v) dst value r
    each r = elim (cases_eq r dst) [
      | inl at ↦ ap (held_in layout u) at ∙ here ∙ sym (put_here (held_in layout v) dst value)
          ∙ ap (put_at (held_in layout v) dst value) (sym at)
      | inr away ↦ elim (cases_eq r scratch) [
        | inl empty ↦ ap (held_in layout u) empty ∙ (is ∙ sym was) ∙ ap (held_in layout v) (sym empty)
            ∙ sym (put_elsewhere (held_in layout v) dst r value away)
        | inr far ↦ others r far away ∙ sym (put_elsewhere (held_in layout v) dst r value away)
      ]
    ]
