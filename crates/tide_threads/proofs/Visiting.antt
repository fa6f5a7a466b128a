-- A visitor's part, by its view: from its ticket to its note.
use Rattle.std.proofs.Common.{ℕ, ◌≡◌, ◌<◌, ◌≤◌, ◌+◌, ◌-◌, ◌^◌, ◌∙◌, refl, sym, ap, subst, arith, Bool, true, []}
use Rattle.std.specs.Prelude.{if◌then◌else◌, min}
use Rattle.atomic_table.specs.Seated.{TableId}
use Rattle.tide_heap.proofs.Newcomers.{begun_view-first}
use Rattle.tide_heap.specs.Turns.{heard_view}
use Rattle.tide_heap.specs.tide_core.declared.machine.view.View.{View}
use Rattle.tide_heap.specs.tide_core.machine.kinds.Activate.{begun_view}
use Rattle.tide_model.specs.Layout.{Layout}
use Rattle.tide_heap.specs.declared.steps.notes.Note.{Note}
use Rattle.tide_table.specs.VisitsTold.{most_visits}
use Rattle.tide_threads.specs.Marking.{HasMadeVisits}
use Rattle.tide_threads.specs.declared.marking.CountingVisitor.{CountingVisitor}
use Rattle.tide_visitor.specs.Draining.{HasStopped}
use Rattle.tide_visitor.specs.Viewed.{stack_room_of, table_of, view_of}
use Rattle.tide_visitor.specs.Visits.{visit_frame, IsVisitorOf}

-- what a visitor's view is once it began a part in which it hadn't begun before
pub record HasBegunVisits (tells v u : View) : Type 0 where
  pub who : u.who ≡ v.who
  pub runs : u.runs ≡ true
  pub ticket : u.ticket ≡ tells.period
  pub run : u.run ≡ tells.run
  pub marks : u.marks ≡ tells.marks
  pub begun : u.begun ≡ tells.period

pub HasBegunVisits-by : (t v u : View) → u ≡ begun_view (heard_view v t) → v.begun < t.period → HasBegunVisits t v u
HasBegunVisits-by t v u is later = subst (HasBegunVisits t v) (sym (is ∙ begun_view-first v t later)) (record {
  who = refl;
  runs = refl;
  ticket = refl;
  run = refl;
  marks = refl;
  begun = refl;
})

-- as many visits as the part has calls for each mutator, where a cycle marks
pub most_marking : (t : View) → t.marks ≡ true → t.run ≡ most_visits t
most_marking t marks = ap (λ (b : Bool). if b then t.run else 0) (sym marks)

-- what its note tells once it has stopped, and what is left of its view
module _ (layout : Layout) (id : TableId) (t : View) (x y : CountingVisitor) (note : Note) (v u w : View)
    (began : HasBegunVisits t v u) (kept : visit_frame w ≡ visit_frame u) (most : w.visits ≤ most_visits u)
    (stopped : HasStopped layout w note.seat.me.0 (view_of y.visitor)) (was : view_of x.visitor ≡ v) where
  abbrev at_last : View
  at_last = record w { held = []; found = stopped.found }

  pub HasMadeVisits-stopped : table_of y.visitor ≡ id → stack_room_of y.visitor ≡ stack_room_of x.visitor →
      note.seat.table_id ≡ id → note.seat.me.0.done ≡ true →
      y.deferred ≡ min (x.deferred + w.races) (2 ^ 64 - 1) → HasMadeVisits id t x y note
  HasMadeVisits-stopped table room of_heap done counted = record {
    table = table;
    room = room;
    is = ap (λ (k : View). k.who) stopped.stopped ∙ who ∙ ap (λ (k : View). k.who) (sym was);
    rests = ap (λ (k : View). k.runs) stopped.stopped;
    period = ap (λ (k : View). k.period) stopped.stopped ∙ ap (λ (k : View). k.ticket) kept ∙ began.ticket;
    of_heap = of_heap;
    of_visitor = ap (λ (k : View). k.who) stopped.note_is ∙ who ∙ ap (λ (k : View). k.who) (sym was);
    of_part = ap (λ (k : View). k.period) stopped.note_is ∙ ap (λ (k : View). k.ticket) kept ∙ began.ticket;
    begun = ap (λ (k : View). k.begun) stopped.note_is ∙ ap (λ (k : View). k.begun) kept ∙ began.begun;
    most = subst (λ (n : ℕ). n ≤ most_visits t) (sym (ap (λ (k : View). k.visits) stopped.note_is))
        (subst (λ (n : ℕ). w.visits ≤ n) same most);
    done = done;
    counted = counted ∙ ap (λ (n : ℕ). min (x.deferred + n) (2 ^ 64 - 1)) (sym (ap (λ (k : View). k.races) stopped.note_is));
  }
    where
      who : w.who ≡ v.who
      who = ap (λ (k : View). k.who) kept ∙ began.who

      same : most_visits u ≡ most_visits t
      same = λ i. if began.marks i then began.run i else 0

-- whoever has a visitor's number is one
pub IsVisitorOf-same : (layout : Layout) (v u : View) → u.who ≡ v.who → IsVisitorOf layout v → IsVisitorOf layout u
IsVisitorOf-same layout v u same is =
    let least = is.is_visitor in
    let most = is.within in record {
      is_visitor = omega (arith, least, same);
      within = omega (arith, most, same);
    }
