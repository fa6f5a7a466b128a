-- A heap on which nothing was run yet stands still, and its participants stand by.
use Rattle.std.proofs.Common.{ℕ, ◌≡◌, ◌<◌, ◌+◌, ◌∙◌, refl, sym, ap, subst, arith, Bool, false, true, List, [], length}
use Rattle.std.proofs.lemmas.Option.{slice_get_within}
use Rattle.std.specs.Prelude.{Some}
use Rattle.atomic_table.specs.Seated.{TableId}
use Rattle.crossbeam_utils.specs.Padded.{padded_value}
use Rattle.crossbeam_utils.specs.declared.cache_padded.CachePadded.{CachePadded}
use Rattle.tide_heap.specs.tide_core.machine.Frozen.{newcomer}
use Rattle.tide_heap.specs.tide_core.declared.machine.view.View.{View}
use Rattle.tide_model.specs.Caller.{IsOwn}
use Rattle.tide_model.specs.Freeze.{marks_after}
use Rattle.tide_model.specs.History.{state_after}
use Rattle.tide_model.specs.Layout.{Layout, cell_count}
use Rattle.tide_model.specs.Refused.{ShapeLists}
use Rattle.tide_model.specs.declared.entry.Event.{Event}
use Rattle.tide_model.specs.declared.op.Op.{Op}
use Rattle.tide_mutator.specs.calls.Viewed.{view_of}
use Rattle.tide_periods.proofs.Starting.{IsSettled-nothing}
use Rattle.tide_periods.specs.Asking.{AreNew, Standing}
use Rattle.tide_periods.specs.Recorded.{IsSettled, recorded_at}
use Rattle.tide_periods.specs.Store.{Setting, blocks_in}
use Rattle.tide_periods.specs.declared.cursor.ScriptCursor.{ScriptCursor}
use Rattle.tide_table.proofs.Standing.{marks_still}
use Rattle.tide_table.specs.Standing.{StandsStill}
use Rattle.tide_table.specs.Started.{IsStarted}
use Rattle.tide_table.specs.VisitsTold.{unentered}
use Rattle.tide_threads.proofs.Acting.{AreParted, IsParted, cursors_at}
use Rattle.tide_threads.specs.Acting.{cursor_of, cursors_in}
use Rattle.tide_threads.specs.Fresh.{AreFresh, IsFreshWorker}
use Rattle.tide_threads.specs.Parked.{IsParked}
use Rattle.tide_threads.specs.Playing.{AllStandBy, WorkerStandsBy}
use Rattle.tide_threads.specs.Standing.{MayOpenPart}
use Rattle.tide_threads.specs.declared.participant.Participant.{Participant}
use Rattle.tide_threads.specs.declared.worker.Worker.{Worker}
use Rattle.tide_threads.specs.declared.worker.Worker.TheVariants.{Mutator, Visitor}

-- no cycle marks at the start, so that any part may be opened
pub MayOpenPart-started : (layout : Layout) (shapes : ShapeLists) (v : View) (run : ℕ) → IsStarted layout shapes v →
    StandsStill layout shapes v → MayOpenPart layout v run
MayOpenPart-started layout shapes v run started still = record {
  entered = ap unentered started.visited;
  may = λ marks visitors. absurd (let clash : false ≡ true =
      ap (marks_after layout) (sym started.seen) ∙ marks_still layout shapes v still ∙ marks in cc);
}

-- a mutator that knows nothing yet is parked
pub IsParked-newcomer : (v p : View) (who : ℕ) → v.seen ≡ [] → p ≡ newcomer who → IsParked v who false p
IsParked-newcomer v p who none is = subst (IsParked v who false) (sym is) (record {
  is = refl;
  rests = refl;
  left = refl;
  period = omega arith;
  begun = omega arith;
  visits = refl;
  seen = record { rest = v.seen; joins = refl };
  own = subst (λ (h : List Event). IsOwn who h []) (sym none) refl;
  gone = λ e. absurd (cc);
})

-- mutators come first among fresh participants
IsParted-fresh : (id : TableId) (mutators cells at : ℕ) (w : Worker) → IsFreshWorker id mutators cells at w → IsParted mutators at w
IsParted-fresh id mutators cells at (Mutator x) fresh = fresh.is_mutator
IsParted-fresh id mutators cells at (Visitor x) fresh = (let place = fresh.place in omega (arith, place))

pub AreParted-fresh : (id : TableId) (mutators cells : ℕ) (xs : List (CachePadded Participant)) →
    AreFresh id mutators cells xs → AreParted mutators xs
AreParted-fresh id mutators cells xs fresh at x found =
    IsParted-fresh id mutators cells at (padded_value x).worker (fresh at x found).worker

module _ (id : TableId) (layout : Layout) (v : View) (none : v.seen ≡ []) where
  -- so a participant that knows nothing stands by
  worker_stands : (at : ℕ) (w : Worker) → at < layout.mutators + layout.visitors →
      ((c : ScriptCursor) → cursor_of w ≡ Some c → c.retired ≡ false) →
      IsFreshWorker id layout.mutators (cell_count layout) at w → WorkerStandsBy id layout v at w
  worker_stands at (Mutator x) within active fresh = record {
    table = fresh.table;
    is_mutator = fresh.is_mutator;
    number = fresh.number;
    parked = subst (λ (b : Bool). IsParked v at b (view_of x.mutator)) (sym (active x.cursor refl))
        (IsParked-newcomer v (view_of x.mutator) at none fresh.view);
  }
  worker_stands at (Visitor x) within active fresh = record {
    table = fresh.table;
    visitor = fresh.visitor;
    is_visitor = (let place = fresh.place in omega (arith, place, within));
    place = fresh.place;
    rests = record {
      is = ap (λ (u : View). u.who) fresh.view;
      rests = ap (λ (u : View). u.runs) fresh.view;
      period = (let period = ap (λ (u : View). u.period) fresh.view in omega (arith, period));
    };
    room = (let room = fresh.room in omega (arith, room));
  }

  -- all of them do at the start, each mutator with a cursor that has made no call
  pub AllStandBy-fresh : (xs : List (CachePadded Participant)) (scripts : List (List Op)) →
      length xs ≡ layout.mutators + layout.visitors → AreNew (cursors_in xs) scripts →
      AreFresh id layout.mutators (cell_count layout) xs → AllStandBy id layout v xs
  AllStandBy-fresh xs scripts many are fresh = record {
    one_each = many;
    each = λ at x found. record {
      worker = worker_stands at (padded_value x).worker
          (let within = slice_get_within xs at x found in omega (arith, within, many))
          (λ c is. ap (λ (s : Standing). s.retired) (are.each at c
          (cursors_at layout.mutators xs (AreParted-fresh id layout.mutators (cell_count layout) xs fresh) at x c found is)).standing)
          (fresh at x found).worker;
      no_ticket = (fresh at x found).no_ticket;
      no_note = (fresh at x found).no_note;
    };
  }

-- a heap on which nothing was run is settled
pub IsSettled-fresh : (setting : Setting) (history : List Event) → history ≡ [] → IsSettled (recorded_at setting history)
IsSettled-fresh setting history none =
    subst (λ (h : List Event). IsSettled (recorded_at setting h)) (sym none)
    (IsSettled-nothing setting (state_after setting.layout []) (blocks_in setting) refl refl)
