-- A weak handle is set to what a register holds, and read.
use Rattle.std.proofs.Common.{ℕ, ◌≡◌, refl, sym, ◌∙◌, ap, subst, false, inl, inr}
use Rattle.std.specs.Prelude.{Option, None, Some, IfSome}
use Rattle.tide_heap.specs.tide_core.declared.machine.view.View.{View}
use Rattle.tide_model.specs.Caller.{MakesCall}
use Rattle.tide_model.specs.History.{state_after}
use Rattle.tide_model.specs.Layout.{Layout}
use Rattle.tide_model.specs.Refused.{ShapeLists}
use Rattle.tide_model.specs.declared.entry.Entry.TheVariants.{Call}
use Rattle.tide_model.specs.declared.op.Op.TheVariants.{WeakSet, WeakGet}
use Rattle.tide_model.specs.declared.op.Reply.{Reply}
use Rattle.tide_model.specs.declared.val.Val.{Val}
use Rattle.tide_model.specs.declared.val.Val.TheVariants.{Empty, Int, Cell}
use Rattle.tide_weakref.proofs.Advances.{call_event}
use Rattle.tide_weakref.proofs.CallLaws.{no_cell_stays, weak_stays}
use Rattle.tide_weakref.proofs.OperationLaws.{stays_alive}
use Rattle.tide_weakref.proofs.StepLaws.{adv, step_aimed, step_loaded, step_set}
use Rattle.tide_weakref.specs.Handles.{IsGone, IsIn, WeakStands, is_cell}
use Rattle.tide_weakref.specs.Jobs.{Jobs, OthersSpare}
use Rattle.tide_weakref.specs.Stepping.{SameBut, WasAimed, WasLoaded, cell_in, cell_seen, held_in}

-- the cell that a value names is its own
pub cell_in_is : (value : Val) (cell : ℕ) → cell_in value ≡ Some cell → value ≡ Cell cell
cell_in_is Empty cell is = absurd (cc)
cell_in_is (Int n) cell is = absurd (cc)
cell_in_is (Cell c) cell is = let e : c ≡ cell = cc in ap (λ (n : ℕ). Cell n) e

pub no_cell_in : (value : Val) → is_cell value ≡ false → cell_in value ≡ None
no_cell_in Empty bare = refl
no_cell_in (Int n) bare = refl
no_cell_in (Cell c) bare = absurd (cc)

pub some_of : (P : ℕ → Type 0) (found : Option ℕ) → ((cell : ℕ) → found ≡ Some cell → P cell) → IfSome found P
some_of P None each = tt
some_of P (Some cell) each = each cell refl

-- a weak handle was read
pub was_loaded : (layout : Layout) (shapes : ShapeLists) (v u : View) (reply : Reply) (same : u.who ≡ v.who) (scratch handle : ℕ)
    (found : Option ℕ) → found ≡ cell_seen reply →
    (makes : MakesCall layout shapes v.who (WeakGet scratch handle) reply v.seen u.seen v.mine u.mine) →
    WasLoaded layout v u scratch handle found × SameBut layout scratch v u
was_loaded layout shapes v u reply same scratch handle found is makes =
    let loaded = step_loaded layout shapes v u reply same scratch handle makes in
    let value = (state_after layout u.seen).weak handle in (
      record {
        value = value;
        found_is = is ∙ ap cell_seen loaded.0;
        handle_has = refl;
        scratch_has = loaded.1.0;
        read = (
          call_event v.who (WeakGet scratch handle) reply makes.took,
          makes.adds,
          ap (λ (r : Reply). Call v.who (WeakGet scratch handle) r) loaded.0,
        );
      },
      loaded.1.1,
    )

-- it was set before, to what a register held
pub was_aimed : (layout : Layout) (shapes : ShapeLists) (v w u : View) (set got : Reply) (scratch src handle : ℕ)
    (found : Option ℕ) (first : w.who ≡ v.who) (second : u.who ≡ w.who) →
    (sets : MakesCall layout shapes v.who (WeakSet handle src) set v.seen w.seen v.mine w.mine) →
    (gets : MakesCall layout shapes w.who (WeakGet scratch handle) got w.seen u.seen w.mine u.mine) →
    WasLoaded layout w u scratch handle found → WasAimed layout v u scratch handle src found
was_aimed layout shapes v w u set got scratch src handle found first second sets gets loaded = record {
  scratch_has = some_of (λ cell. held_in layout u scratch ≡ Cell cell) found
      (λ cell is. loaded.scratch_has ∙ cell_in_is loaded.value cell (sym loaded.found_is ∙ is));
  found_is = λ jobs within spare. found_same jobs within spare;
  stands = λ jobs within spare. some_of (WeakStands layout u.seen handle) found (λ cell is. inl (
    loaded.handle_has ∙ cell_in_is loaded.value cell (sym loaded.found_is ∙ is),
    alive jobs within spare cell (cell_in_is (held_in layout v src) cell (sym (found_same jobs within spare) ∙ is)),
  ));
}
  where
    aimed : ((state_after layout w.seen).weak handle ≡ held_in layout v src) × ((cell : ℕ) → IsGone w.seen handle cell → ⊥)
    aimed = step_aimed layout shapes v w set first handle src sets

    registers : held_in layout w ≡ held_in layout v
    registers = step_set layout shapes v w (WeakSet handle src) set first sets (λ o r. refl)

    spares : (jobs : Jobs) → OthersSpare v.who jobs u.seen → OthersSpare w.who jobs u.seen
    spares jobs = subst (λ (n : ℕ). OthersSpare n jobs u.seen) (sym first)

    alive : (jobs : Jobs) → IsIn jobs.weak handle → OthersSpare v.who jobs u.seen → (cell : ℕ) →
        held_in layout v src ≡ Cell cell → IsGone u.seen handle cell → ⊥
    alive jobs within spare cell is = stays_alive layout shapes w.who (WeakGet scratch handle) got w.seen u.seen w.mine
        (adv layout shapes w u (WeakGet scratch handle) got second gets) gets.were_own jobs.strong jobs.weak handle src cell
        (spares jobs spare) within refl (ap (λ (f : ℕ → Val). f src) registers ∙ is) (aimed.1 cell)

    has : (jobs : Jobs) → IsIn jobs.weak handle → OthersSpare v.who jobs u.seen → (cell : ℕ) →
        held_in layout v src ≡ Cell cell → (state_after layout u.seen).weak handle ≡ Cell cell
    has jobs within spare cell is = elim (weak_stays layout shapes w.who (WeakGet scratch handle) got w.seen u.seen w.mine
        (adv layout shapes w u (WeakGet scratch handle) got second gets) jobs.strong jobs.weak handle cell (spares jobs spare)
        within refl (inl (aimed.0 ∙ is, aimed.1 cell))) [
          | inl stands ↦ stands.0
          | inr gone ↦ absurd (alive jobs within spare cell is gone.1)
        ]

    by_no_cell : (jobs : Jobs) → IsIn jobs.weak handle → OthersSpare v.who jobs u.seen → (value : Val) →
        held_in layout v src ≡ value → is_cell value ≡ false →
        cell_in ((state_after layout u.seen).weak handle) ≡ cell_in value
    by_no_cell jobs within spare value is bare = no_cell_in ((state_after layout u.seen).weak handle)
        (no_cell_stays layout shapes w.who (WeakGet scratch handle) got w.seen u.seen w.mine
        (adv layout shapes w u (WeakGet scratch handle) got second gets) jobs.strong jobs.weak handle (spares jobs spare)
        within refl (ap is_cell (aimed.0 ∙ is) ∙ bare)) ∙ sym (no_cell_in value bare)

    by_value : (jobs : Jobs) → IsIn jobs.weak handle → OthersSpare v.who jobs u.seen → (value : Val) →
        held_in layout v src ≡ value → cell_in ((state_after layout u.seen).weak handle) ≡ cell_in value
    by_value jobs within spare Empty is = by_no_cell jobs within spare Empty is refl
    by_value jobs within spare (Int n) is = by_no_cell jobs within spare (Int n) is refl
    by_value jobs within spare (Cell cell) is = ap cell_in (has jobs within spare cell is)

    found_same : (jobs : Jobs) → IsIn jobs.weak handle → OthersSpare v.who jobs u.seen → found ≡ cell_in (held_in layout v src)
    found_same jobs within spare = loaded.found_is ∙ ap cell_in (sym loaded.handle_has)
        ∙ by_value jobs within spare (held_in layout v src) refl
