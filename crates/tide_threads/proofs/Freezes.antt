-- Why a heap that stands still may be collected, and what that leaves of its participants and of a run.
use Rattle.std.proofs.Common.{ℕ, ◌≡◌, ◌<◌, ◌≤◌, ◌∙◌, refl, sym, ap, subst, Bool, true, false, List, [], ◌∷◌, ◌++◌, append-nil, length}
use Rattle.std.proofs.lemmas.Bool.{and_parts}
use Rattle.std.proofs.lemmas.List.Elements.{filter-append}
use Rattle.std.specs.List.{list_all}
use Rattle.std.specs.Prelude.{Contains, ◌+◌, filter, if◌then◌else◌}
use Rattle.atomic_table.specs.Seated.{TableId}
use Rattle.tide_heap.proofs.tide_freeze.FreezeLaws.{IsFreeze-by}
use Rattle.tide_heap.proofs.tide_freeze.QuietLaws.{HasFrozenWhole-quiet, calls_of-quiet, kept_by_quiet, open_count-quiet}
use Rattle.tide_heap.specs.Parties.{In}
use Rattle.tide_heap.specs.Turns.{calls_of as noted_calls_of}
use Rattle.tide_heap.specs.tide_core.machine.World.{first_visitor}
use Rattle.tide_heap.specs.tide_core.declared.machine.view.NotedCalls.{NotedCalls}
use Rattle.tide_heap.specs.tide_core.declared.machine.view.View.{View}
use Rattle.tide_model.proofs.Histories.{state_from-append}
use Rattle.tide_model.specs.History.{is_call_of, state_after, state_from}
use Rattle.tide_model.specs.Layout.{Layout}
use Rattle.tide_model.specs.Pace.{Pace}
use Rattle.tide_model.specs.Periods.{open_count}
use Rattle.tide_model.specs.Prefix.{prefix_trans}
use Rattle.tide_model.specs.Refused.{ShapeLists}
use Rattle.tide_model.specs.Since.{is_of_freeze}
use Rattle.tide_model.specs.State.{State, empty_state}
use Rattle.tide_model.specs.declared.entry.Entry.{Entry}
use Rattle.tide_model.specs.declared.entry.Entry.TheVariants.{Begin, Call, End, Open, Pause, Sweep, Taken, Visits}
use Rattle.tide_model.specs.declared.entry.Event.{Event}
use Rattle.tide_mutator.specs.calls.Viewed.{view_of}
use Rattle.tide_periods.specs.Periods.{RanFreeze}
use Rattle.tide_periods.specs.Recorded.{IsSettled, recorded_at}
use Rattle.tide_sched.specs.Paces.{last_run}
use Rattle.tide_table.specs.Standing.{HasCollected}
use Rattle.tide_threads.specs.Parked.{IsAtRest, IsParked}
use Rattle.tide_threads.specs.Playing.{StandsBy, WorkerStandsBy}
use Rattle.tide_threads.specs.Standing.{MayOpenPart}
use Rattle.tide_threads.specs.declared.participant.Participant.{Participant}
use Rattle.tide_threads.specs.declared.worker.Worker.{Worker}
use Rattle.tide_threads.specs.declared.worker.Worker.TheVariants.{Mutator, Visitor}
use Rattle.tide_visitor.specs.Viewed as visiting

-- an entry of a freeze is nobody's call
own_quiet : (who : ℕ) (entry : Entry) → is_of_freeze entry ≡ true → is_call_of who entry ≡ false
own_quiet who (Call by op reply) quiet = absurd (cc)
own_quiet who (Open number run) quiet = refl
own_quiet who (Begin cycle full) quiet = refl
own_quiet who (Pause visits) quiet = refl
own_quiet who (Visits by visits) quiet = refl
own_quiet who (End cycle freed) quiet = refl
own_quiet who (Taken block) quiet = refl
own_quiet who (Sweep block) quiet = refl

-- so a freeze adds no call of anybody
pub own-quiet : (who : ℕ) (history events : List Event) → list_all (λ e. is_of_freeze e.entry) events ≡ true →
    filter (λ e. is_call_of who e.entry) (history ++ events) ≡ filter (λ e. is_call_of who e.entry) history
own-quiet who history events all =
    filter-append (λ (e : Event). is_call_of who e.entry) history events
    ∙ ap (λ (more : List Event). filter (λ (e : Event). is_call_of who e.entry) history ++ more) (none events all)
    ∙ append-nil (filter (λ (e : Event). is_call_of who e.entry) history)
  where
    none : (some : List Event) → list_all (λ e. is_of_freeze e.entry) some ≡ true →
        filter (λ e. is_call_of who e.entry) some ≡ []
    none [] quiet = refl
    none (event ∷ some) quiet =
        let (here, later) = and_parts (is_of_freeze event.entry) (list_all (λ e. is_of_freeze e.entry) some) quiet in
        ap (λ (b : Bool). if b then event ∷ filter (λ (e : Event). is_call_of who e.entry) some
        else filter (λ (e : Event). is_call_of who e.entry) some) (own_quiet who event.entry here)
        ∙ none some later

-- what a collection leaves
module _ (layout : Layout) (shapes : ShapeLists) (pace : Pace) (is_forced : Bool) (v w : View) (run : ℕ)
    (did : HasCollected layout shapes pace is_forced v w run) where
  quiet : list_all (λ (e : Event). is_of_freeze e.entry) did.freezes.events ≡ true
  quiet = HasFrozenWhole-quiet pace layout (last_run v.seen) v.seen w.seen is_forced did.freezes

  -- the next part may be opened
  pub MayOpenPart-collected : MayOpenPart layout w run
  MayOpenPart-collected = record { entered = did.entered; may = did.may }

  -- who was parked is
  pub IsParked-collected : (who : ℕ) (retired : Bool) (p : View) → IsParked v who retired p → IsParked w who retired p
  IsParked-collected who retired p parked = record {
    is = parked.is;
    rests = parked.rests;
    left = parked.left;
    period = subst (λ (n : ℕ). p.period ≤ n) (sym (ap (λ (x : View). x.period) did.rest)) parked.period;
    begun = subst (λ (n : ℕ). p.begun ≤ n) (sym (ap (λ (x : View). x.period) did.rest)) parked.begun;
    visits = parked.visits;
    seen = prefix_trans p.seen v.seen w.seen parked.seen (record { rest = did.freezes.events; joins = sym did.freezes.entered });
    own = parked.own ∙ sym (own-quiet who v.seen did.freezes.events quiet)
        ∙ ap (filter (λ (e : Event). is_call_of who e.entry)) (sym did.freezes.entered);
    gone = λ e. let a = parked.gone e in record {
      gone = subst (λ (l : List ℕ). In who l) (sym (ap (λ (x : View). x.gone) did.rest)) a.gone;
      noted = subst (λ (l : List NotedCalls). Contains l (noted_calls_of p)) (sym (ap (λ (x : View). x.noted_calls) did.rest)) a.noted;
    };
  }

  -- a visitor that stood still does
  pub IsAtRest-collected : (who : ℕ) (p : View) → IsAtRest v who p → IsAtRest w who p
  IsAtRest-collected who p rests = record {
    is = rests.is;
    rests = rests.rests;
    period = subst (λ (n : ℕ). p.period ≤ n) (sym (ap (λ (x : View). x.period) did.rest)) rests.period;
  }

  -- whoever stood by does
  pub StandsBy-collected : (id : TableId) (at : ℕ) (x : Participant) → StandsBy id layout v at x → StandsBy id layout w at x
  StandsBy-collected id at x by = record {
    worker = worker x.worker by.worker;
    no_ticket = by.no_ticket;
    no_note = by.no_note;
  }
    where
      worker : (k : Worker) → WorkerStandsBy id layout v at k → WorkerStandsBy id layout w at k
      worker (Mutator o) by = record {
        table = by.table;
        is_mutator = by.is_mutator;
        number = by.number;
        parked = IsParked-collected at o.cursor.retired (view_of o.mutator) by.parked;
      }
      worker (Visitor o) by = record {
        table = by.table;
        visitor = by.visitor;
        is_visitor = by.is_visitor;
        place = by.place;
        rests = IsAtRest-collected (first_visitor + by.visitor) (visiting.view_of o.visitor) by.rests;
        room = by.room;
      }

  -- it did what a run's freeze does
  pub RanFreeze-collected : IsSettled (recorded_at (record { layout = layout; shapes = shapes }) v.seen) →
      RanFreeze (recorded_at (record { layout = layout; shapes = shapes }) v.seen)
      (recorded_at (record { layout = layout; shapes = shapes }) w.seen) pace is_forced run
  RanFreeze-collected settled = record {
    settled = record {
      lawful = did.still.wave.lawful;
      ends = did.still.ends;
      leaves = refl;
      begun = refl;
      opens = refl;
      few = λ who. subst (λ (claims : ℕ → List ℕ). length (claims who) ≤ 8) (sym claims) (settled.few who);
      blocks = refl;
    };
    same = refl;
    cycles = did.freezes.cycles;
    parts = ap open_count did.freezes.entered ∙ open_count-quiet v.seen did.freezes.events quiet;
    freeze = did.freezes.events;
    history = did.freezes.entered;
    quiet = λ who. calls_of-quiet who did.freezes.events quiet;
    active = ap (λ (s : State). s.active) grown ∙ kept.0;
    claims = claims;
    is_freeze = IsFreeze-by pace layout v.seen (last_run v.seen) is_forced did.freezes.events did.freezes.freezes;
    clean = did.freezes.clean;
    next = did.next;
    some = subst (λ (n : ℕ). 0 < n) (sym did.next) did.freezes.calls;
  }
    where
      grown : state_after layout w.seen ≡ state_from layout (state_after layout v.seen) did.freezes.events
      grown = ap (state_after layout) did.freezes.entered ∙ state_from-append layout empty_state v.seen did.freezes.events

      kept : ((state_from layout (state_after layout v.seen) did.freezes.events).active ≡ (state_after layout v.seen).active)
          × ((state_from layout (state_after layout v.seen) did.freezes.events).claims ≡ (state_after layout v.seen).claims)
      kept = kept_by_quiet layout (state_after layout v.seen) did.freezes.events quiet

      claims : (state_after layout w.seen).claims ≡ (state_after layout v.seen).claims
      claims = ap (λ (s : State). s.claims) grown ∙ kept.1
