-- A participant begins a part, makes its calls or its drain, and stops.
use Rattle.std.proofs.Common.{ℕ, ◌≡◌, ◌<◌, ◌≤◌, refl, sym, ◌∙◌, ap, subst, arith, Bool, true, false, List, []}
use Rattle.std.proofs.lemmas.Bool.{ne_eqb}
use Rattle.std.specs.Prelude.{◌==◌, if◌then◌else◌}
use Rattle.tide.specs.Parts.{HasDoneItsPart, IsIdle, IsIdleBefore, IsInPart}
use Rattle.tide_server.specs.tide_heap.Turns.{heard_view, note_of}
use Rattle.tide_server.proofs.tide_heap.tide_core.machine_laws.steps.Lists.{nothing_in}
use Rattle.tide_server.specs.tide_heap.tide_core.machine.Frozen.{newcomer}
use Rattle.tide_server.specs.tide_heap.tide_core.machine.Visiting.{FitsIn}
use Rattle.tide_server.specs.tide_heap.tide_core.declared.machine.view.View.{View}
use Rattle.tide_server.specs.tide_heap.tide_core.machine.kinds.Activate.{begun_view}
use Rattle.tide_server.specs.tide_heap.tide_core.machine.kinds.Split.{split_view}
use Rattle.tide_server.specs.tide_heap.tide_core.machine.kinds.StoreStopped.{stopped_view}
use Rattle.tide_server.specs.tide_model.Layout.{Layout}
use Rattle.tide_server.specs.tide_mutator.owed.Calling.{Kept, kept}
use Rattle.tide_server.specs.tide_visitor.Draining.{HasStopped}
use Rattle.tide_server.specs.tide_visitor.Visits.{visit_frame, IsVisitorOf}

-- it has begun the ticket's part, and has done nothing there yet
pub record HasBegun (who : ℕ) (t u : View) : Type 0 where
  pub part : IsInPart who t.period u
  pub visits : u.visits ≡ 0
  pub born : u.born ≡ 0
  pub marks : u.marks ≡ t.marks
  pub run : u.run ≡ t.run

-- a newcomer stands before the first part
pub new_idle : (who : ℕ) (v : View) → v ≡ newcomer who → IsIdle who 0 v
new_idle who v is =
    subst (IsIdle who 0) (sym is) (record { is = refl; stopped = refl; stays = refl; begun = refl; period = refl })

pub has_begun : (who : ℕ) (v t u : View) → IsIdleBefore who t.period v → u ≡ begun_view (heard_view v t) → HasBegun who t u
has_begun who v t u before same = subst (HasBegun who t) (sym (same ∙ ap by_test apart)) fresh
  where
    idle : IsIdle who before.0 v
    idle = before.1

    by_test : Bool → View
    by_test b = if b then record (heard_view v t) { runs = true; round = []; full = []; known = [] }
        else record (heard_view v t) {
          runs = true;
          begun = (heard_view v t).ticket;
          born = 0;
          visits = 0;
          races = 0;
          round = [];
          full = [];
          known = [];
        }

    apart : (v.begun == t.period) ≡ false
    apart = ne_eqb v.begun t.period (λ is. (let begun = idle.begun in let later = before.2 in absurd (omega (arith, later, is, begun))))

    fresh : HasBegun who t (by_test false)
    fresh = record {
      part = record {
        is = idle.is;
        runs = refl;
        stays = idle.stays;
        begun = refl;
        ticket = refl;
        once = (let period = idle.period in let later = before.2 in omega (arith, later, period));
      };
      visits = refl;
      born = refl;
      marks = refl;
      run = refl;
    }

-- calls leave a mutator in its part
pub in_part_kept : (who part : ℕ) (v u : View) → kept u ≡ kept v → u.left ≡ false → IsInPart who part v → IsInPart who part u
in_part_kept who part v u same stays is = record {
  is = ap (λ (k : Kept). k.who) same ∙ is.is;
  runs = ap (λ (k : Kept). k.runs) same ∙ is.runs;
  stays = stays;
  begun = ap (λ (k : Kept). k.begun) same ∙ is.begun;
  ticket = ap (λ (k : Kept). k.ticket) same ∙ is.ticket;
  once = subst (λ (n : ℕ). n < part) (sym (ap (λ (k : Kept). k.period) same)) is.once;
}

-- drains leave a visitor in its part
pub in_part_framed : (who part : ℕ) (v u : View) → visit_frame u ≡ visit_frame v → IsInPart who part v → IsInPart who part u
in_part_framed who part v u same is = record {
  is = ap (λ (x : View). x.who) same ∙ is.is;
  runs = ap (λ (x : View). x.runs) same ∙ is.runs;
  stays = ap (λ (x : View). x.left) same ∙ is.stays;
  begun = ap (λ (x : View). x.begun) same ∙ is.begun;
  ticket = ap (λ (x : View). x.ticket) same ∙ is.ticket;
  once = subst (λ (n : ℕ). n < part) (sym (ap (λ (x : View). x.period) same)) is.once;
}

-- what is held, and the word found last, are no matter of the part
pub in_part_bare : (who part found : ℕ) (v : View) → IsInPart who part v → IsInPart who part (record v { held = []; found = found })
in_part_bare who part found v is = record {
  is = is.is;
  runs = is.runs;
  stays = is.stays;
  begun = is.begun;
  ticket = is.ticket;
  once = is.once;
}

-- it stops
pub idle_then : (who part : ℕ) (u x : View) → IsInPart who part u → x ≡ split_view (stopped_view u) → IsIdle who part x
idle_then who part u x is same =
    subst (IsIdle who part) (sym same) (record { is = is.is; stopped = refl; stays = is.stays; begun = is.begun; period = is.ticket })

-- a mutator's note
pub mutator_done : (t u note : View) → IsInPart 0 t.period u → u.visits ≡ 0 → note ≡ note_of true (stopped_view u) → HasDoneItsPart 0 t note
mutator_done t u note part none same = subst (HasDoneItsPart 0 t) (sym same) (record {
  is = part.is;
  period = part.ticket;
  begun = part.begun;
  stays = part.stays;
  done = refl;
  few = omega (arith, none);
  none = λ idle. none;
})

-- a visitor's note
pub visitor_done : (layout : Layout) (t u note x : View) → IsInPart 16 t.period u → HasStopped layout u note x →
    note.done ≡ true → note.visits ≡ u.visits → u.visits ≤ t.run → (t.marks ≡ false → u.visits ≡ 0) → HasDoneItsPart 16 t note
visitor_done layout t u note x part stopped done visits few none = record {
  is = ap (λ (y : View). y.who) stopped.note_is ∙ part.is;
  period = ap (λ (y : View). y.period) stopped.note_is ∙ part.ticket;
  begun = ap (λ (y : View). y.begun) stopped.note_is ∙ part.begun;
  stays = ap (λ (y : View). y.left) stopped.note_is ∙ part.stays;
  done = done;
  few = omega (arith, visits, few);
  none = λ idle. visits ∙ none idle;
}

pub visitor_idle : (layout : Layout) (part : ℕ) (u note x : View) → IsInPart 16 part u → HasStopped layout u note x → IsIdle 16 part x
visitor_idle layout part u note x is stopped =
    idle_then 16 part (record u { held = []; found = stopped.found }) x (in_part_bare 16 part stopped.found u is) stopped.stopped

-- who holds nothing holds what fits
pub bare_fits : (layout : Layout) (cells : List ℕ) → cells ≡ [] → FitsIn layout cells
bare_fits layout cells none = subst (FitsIn layout) (sym none) (record {
  within = λ cell at. absurd (nothing_in cell at);
  once = λ cell. omega arith;
  room = omega arith;
})

pub is_visitor_of : (layout : Layout) (v : View) → layout.visitors ≡ 1 → v.who ≡ 16 → IsVisitorOf layout v
is_visitor_of layout v one is = record {
  is_visitor = omega (arith, is);
  within = omega (arith, is, one);
}
