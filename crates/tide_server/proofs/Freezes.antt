-- What a freeze makes of the open part, and what the next part begins with.
use Rattle.std.proofs.Common.{ℕ, ◌≡◌, ◌↔◌, ◌+◌, ◌-◌, ◌<◌, ◌^◌, ◌∙◌, refl, sym, ap, subst, arith, Bool, true, false, not, List, [], ◌∷◌, ◌++◌, append_assoc, get_or, inl, inr, le-ltb, lt-ltb}
use Rattle.std.proofs.lemmas.List.Sums.{AllPass-from_list_all}
use Rattle.std.specs.List.{list_all}
use Rattle.std.specs.Prelude.{◌⊎◌, ◌||◌, if◌then◌else◌}
use Rattle.atomic_table.specs.Seated.{TableId}
use Rattle.tide_model.proofs.DeadLaws.{calls_where_marking}
use Rattle.tide_model.proofs.Histories.{state_after-push, state_from-append}
use Rattle.tide_model.proofs.NumberLaws.{any_below-false}
use Rattle.tide_model.proofs.SinceLaws.{count-push}
use Rattle.tide_model.specs.Freeze.{is_marking_phase, marks_after}
use Rattle.tide_model.specs.History.{is_open, plain, state_after}
use Rattle.tide_model.specs.Lawful.{IsLawful}
use Rattle.tide_model.specs.Layout.{Layout}
use Rattle.tide_model.specs.Numbers.{any_below}
use Rattle.tide_model.specs.Pace.{Pace}
use Rattle.tide_model.specs.Periods.{is_forced, is_over, next_run, open_count, opened as opened_history}
use Rattle.tide_model.specs.Prefix.{IsPrefix}
use Rattle.tide_model.specs.Refused.{ShapeLists}
use Rattle.tide_model.specs.Since.{is_call, is_of_freeze, is_of_part}
use Rattle.tide_model.specs.State.{State, empty_state}
use Rattle.tide_model.specs.declared.entry.Entry.TheVariants.{Open}
use Rattle.tide_model.specs.declared.entry.Event.{Event}
use Rattle.tide_posts.proofs.Keeping.{inactive-prefix}
use Rattle.tide_posts.proofs.Schedule.{has_stop-nobody, have_stops-push, periods_go_on_where}
use Rattle.tide_posts.proofs.tide_heap.tide_freeze.BookLaws.{AddsEnds-same, AddsEnds-then, ends_in-part}
use Rattle.tide_posts.proofs.tide_heap.tide_freeze.QuietLaws.{HasFrozenWhole-quiet, kept_by_quiet}
use Rattle.tide_posts.specs.Name.{places}
use Rattle.tide_posts.specs.Posts.{TicketTells}
use Rattle.tide_posts.specs.Schedule.{ArePeriodsWhere, IsLegalWhere, OpensPart, have_stops}
use Rattle.tide_posts.specs.Among.{Among, times}
use Rattle.tide_posts.specs.tide_heap.Parties.{In}
use Rattle.tide_posts.specs.tide_heap.Turns.{Freezes, open_entry, opened}
use Rattle.tide_posts.specs.tide_heap.tide_core.declared.machine.view.NotedVisits.{NotedVisits}
use Rattle.tide_posts.specs.tide_heap.tide_core.declared.machine.view.View.{View}
use Rattle.tide_posts.specs.tide_heap.tide_freeze.Books.{AddsEnds}
use Rattle.tide_posts.specs.tide_heap.tide_freeze.Freezing.{HasFrozenWhole}
use Rattle.tide_posts.specs.tide_heap.tide_freeze.declared.books.Books.{Books}
use Rattle.tide_report.specs.Ends.{ends_in}
use Rattle.tide_report.specs.Reports.{Reported}
use Rattle.tide_sched.proofs.RunLaws.{last_run-opened, last_run-same}
use Rattle.tide_sched.specs.Paces.{last_run, pace_of}
use Rattle.tide_sched.specs.declared.pacing.Pacing.{Pacing}
use Rattle.tide_server.proofs.Noted.{or_false}
use Rattle.tide_server.proofs.Ending.{has_done, is_over-here, lawful, shares_here}
use Rattle.tide_server.specs.Keepers.{AreLeft, HasNoEnd, IsKeeperOf, KeeperStands, NotesAreIn, has_left, ticket_count, view_of}
use Rattle.tide_server.specs.Turned.{HasFinished, HasFrozenPart, HasOpenedPart, HasPostedEnds, HasSpentParts, MakesPeriod}
use Rattle.tide_server.specs.declared.keeper.Keeper.{Keeper}
use Rattle.tide_table.proofs.Nexts.{AddsEnds-next, HasOpenedNext-by}
use Rattle.tide_table.proofs.Standing.{marks_still, no_ends, no_opens}
use Rattle.tide_table.proofs.VisitsTold.{HasTold, HasTold-nothing}
use Rattle.tide_table.specs.Standing.{HasOpenedNext, RunsWith, StandsStill}
use Rattle.tide_table.proofs.tide_statistics.SumLaws.{HasSummed-opened}
use Rattle.tide_table.specs.tide_statistics.Sums.{HasSummed}
use Rattle.tide_table.specs.tide_statistics.declared.sums.CycleSums.{CycleSums}

-- an opening begins no cycle and ends none
marks_after-opened : (layout : Layout) (run : ℕ) (v : View) →
    marks_after layout (v.seen ++ open_entry run v ∷ []) ≡ marks_after layout v.seen
marks_after-opened layout run v =
    ap (λ (s : State). is_marking_phase s.phase) (state_after-push layout v.seen (open_entry run v))

-- the part that was opened has its number, its run, and whether a cycle marks
pub TicketTells-opened : (layout : Layout) (shapes : ShapeLists) (v : View) (run : ℕ) → StandsStill layout shapes v →
    0 < run → OpensPart layout (opened layout run v).seen → TicketTells layout (opened layout run v)
TicketTells-opened layout shapes v run still some periods = record {
  opening = record {
    before = v.seen;
    is = refl;
    count =
        let counted = count-push (λ (e : Event). is_open e.entry) v.seen (open_entry run v) in
        let number = still.period in
        omega (arith, counted, number);
  };
  periods = periods;
  some = some;
  marking = sym (marks_still layout shapes v still) ∙ sym (marks_after-opened layout run v);
}

-- no note of a part that was just opened is in
NotesAreIn-none : (layout : Layout) (v : View) (early : List Bool) → v.visited ≡ [] → v.done ≡ true →
    ((who : ℕ) → get_or early who false ≡ false) → NotesAreIn layout v 0 false early
NotesAreIn-none layout v early none done nobody =
    let told = subst (λ (l : List NotedVisits). HasTold 0 (0 - layout.mutators) l) (sym none)
    (subst (λ (n : ℕ). HasTold 0 n []) (let same : 0 ≡ 0 - layout.mutators = omega arith in same) (HasTold-nothing 0)) in record {
      ended_by = λ place. false;
      is_ended = refl;
      mutators = λ who less. absurd (omega (arith, less));
      visitors = λ visitor less. absurd (omega (arith, less));
      none_ends = λ place behind. refl;
      none_early = λ who past. nobody who;
      most = 0;
      visits = told.told;
      later = told.later;
      done = done;
    }

-- A keeper stands right after an opening, if it has no note in yet, and if who has left isn't active.
pub KeeperStands-opened : (layout : Layout) (heap hands : TableId) (k : Keeper) (stops : List (List Bool)) (before : List Event) →
    IsKeeperOf layout heap hands k → RunsWith layout k.books (view_of k) → HasSummed (view_of k).start k.sums →
    ArePeriodsWhere (pace_of k.books.pacing) layout stops before → k.stopped ≡ have_stops layout stops →
    ((who : ℕ) → get_or k.early who false ≡ false) →
    is_over layout before ≡ false → (view_of k).start ≡ opened_history (pace_of k.books.pacing) layout before →
    (view_of k).marks ≡ marks_after layout (view_of k).start → (view_of k).visited ≡ [] → (view_of k).done ≡ true →
    k.next ≡ 0 → k.ended ≡ false → AreLeft layout (view_of k) 0 k.left →
    ((place : ℕ) → has_left layout k.left place ≡ true → Among place k.seat.seat.me.0.free) →
    ((place : ℕ) → place < places layout → has_left layout k.left place ≡ false →
    times place k.seat.seat.me.0.tickets ≡ (view_of k).period) →
    ((place : ℕ) → place < places layout → has_left layout k.left place ≡ false →
    times place k.seat.seat.me.0.notes + 1 ≡ (view_of k).period) → HasNoEnd k → KeeperStands layout heap hands k
KeeperStands-opened layout heap hands k stops before of runs summed periods stopped nobody goes_on is marking none done next ended left due rounds noted no_end = record {
  of = of;
  runs = runs;
  summed = summed;
  before = before;
  stops = stops;
  periods = periods;
  stopped = stopped ∙ sym (or_false (have_stops layout stops))
      ∙ ap (λ (b : Bool). have_stops layout stops || b) (sym (has_stop-nobody layout k.early nobody));
  goes_on = goes_on;
  opened = is;
  marking = marking;
  within = omega (arith, next);
  notes = subst (λ (n : ℕ). NotesAreIn layout (view_of k) n k.ended k.early) (sym next)
      (subst (λ (b : Bool). NotesAreIn layout (view_of k) 0 b k.early) (sym ended)
      (NotesAreIn-none layout (view_of k) k.early none done nobody));
  left = subst (λ (n : ℕ). AreLeft layout (view_of k) n k.left) (sym next) left;
  due = λ place is. by place is;
  rounds = rounds;
  noted = λ place below isnt. ap (λ (b : Bool). times place k.seat.seat.me.0.notes + (if b then 0 else 1))
      (le-ltb place k.next (omega (arith, next))) ∙ noted place below isnt;
  no_end = no_end;
}
  where
    by : (place : ℕ) → (place < k.next) ⊎ (has_left layout k.left place ≡ true) → Among place k.seat.seat.me.0.free
    by place (inl below) = absurd (omega (arith, below, next))
    by place (inr gone) = due place gone

-- Below, the open part of a keeper was frozen once all its notes were in, and `new` has what the schedule made of it.
module _ (layout : Layout) (shapes : ShapeLists) (heap hands : TableId) (k : Keeper)
    (stands : KeeperStands layout heap hands k) (all : k.next ≡ places layout) (forces : Bool) (run : ℕ) (new : Keeper)
    (report longer : Reported) (did : HasFrozenPart layout shapes forces run k new report longer) where
  abbrev v : View
  v = view_of k

  abbrev u : View
  u = did.stopped

  abbrev w : View
  w = view_of new

  abbrev pace : Pace
  pace = pace_of k.books.pacing

  abbrev froze : Freezes layout shapes v u
  froze = did.freezes

  abbrev whole : List Event
  whole = v.start ++ froze.part

  abbrev events : List Event
  events = did.collected.freezes.events

  seen_is : u.seen ≡ whole
  seen_is = ap (λ (x : View). x.seen) froze.view ∙ froze.since

  after_is : w.seen ≡ whole ++ events
  after_is = did.collected.freezes.entered ∙ ap (λ (h : List Event). h ++ events) seen_is

  quiet : list_all (λ (e : Event). is_of_freeze e.entry) events ≡ true
  quiet = HasFrozenWhole-quiet pace layout (last_run u.seen) u.seen w.seen forces did.collected.freezes

  longer_is : IsPrefix whole w.seen
  longer_is = record { rest = events; joins = sym after_is }

  begun_is : IsPrefix v.start w.seen
  begun_is = record {
    rest = froze.part ++ events;
    joins = sym (append_assoc v.start froze.part events) ∙ sym after_is;
  }

  -- nobody comes or leaves in a freeze
  active_is : (state_after layout w.seen).active ≡ (state_after layout whole).active
  active_is = ap (λ (h : List Event). (state_after layout h).active) after_is
      ∙ ap (λ (s : State). s.active) (state_from-append layout empty_state whole events)
      ∙ (kept_by_quiet layout (state_after layout whole) events quiet).0

  pub is_over-frozen : is_over layout w.seen ≡ not (any_below (λ who. not (get_or k.left who false)) layout.mutators)
  is_over-frozen = ap (λ (active : ℕ → Bool). not (any_below active layout.mutators)) active_is
      ∙ is_over-here layout shapes heap hands k stands all u froze

  gone_is : w.gone ≡ v.gone
  gone_is = ap (λ (x : View). x.gone) did.collected.rest ∙ ap (λ (x : View). x.gone) froze.view

  run_now : last_run u.seen ≡ next_run pace layout stands.before
  run_now = ap last_run seen_is ∙ last_run-same v.start froze.part (no_opens froze.part froze.of_part) ∙ ap last_run stands.opened
      ∙ last_run-opened stands.before (open_count stands.before + 1) (next_run pace layout stands.before)

  pub period_is : w.period ≡ v.period
  period_is = ap (λ (x : View). x.period) did.collected.rest ∙ ap (λ (x : View). x.period) froze.view

  -- the freeze made a whole period of the part
  pub MakesPeriod-frozen : forces ≡ is_forced layout (opened_history pace layout stands.before) froze.part →
      MakesPeriod layout shapes k k.stopped w.seen
  MakesPeriod-frozen forced = record {
    grows = begun_is;
    lawful = did.collected.still.wave.lawful;
    stops = stands.stops ++ k.early ∷ [];
    periods = periods_go_on_where pace layout stands.stops k.early stands.before froze.part w.seen stands.periods stands.goes_on
        (AllPass-from_list_all (λ (e : Event). is_of_part e.entry) froze.part froze.of_part)
        (λ marks. AllPass-from_list_all (λ (e : Event). is_call e.entry) froze.part
        (calls_where_marking layout shapes froze.part (opened_history pace layout stands.before)
        (subst (λ (h : List Event). IsLawful layout shapes (h ++ froze.part)) stands.opened
        (lawful layout shapes heap hands k stands all u froze)) marks froze.of_part))
        froze.taken froze.swept (shares_here layout shapes heap hands k stands all u froze)
        (subst (λ (n : ℕ). HasFrozenWhole pace layout n (opened_history pace layout stands.before ++ froze.part) w.seen
        (is_forced layout (opened_history pace layout stands.before) froze.part)) run_now
        (subst (λ (h : List Event). HasFrozenWhole pace layout (last_run u.seen) h w.seen
        (is_forced layout (opened_history pace layout stands.before) froze.part))
        (seen_is ∙ ap (λ (h : List Event). h ++ froze.part) stands.opened)
        (subst (HasFrozenWhole pace layout (last_run u.seen) u.seen w.seen) forced did.collected.freezes)));
    is_stopped = stands.stopped ∙ sym (have_stops-push layout stands.stops k.early);
    ends = did.collected.still.ends;
  }

  -- behind which the next part is opened
  pub OpensPart-frozen : MakesPeriod layout shapes k k.stopped w.seen → OpensPart layout (opened layout run w).seen
  OpensPart-frozen makes = record {
    pace = pace;
    stops = makes.stops;
    before = w.seen;
    periods = makes.periods;
    is = λ i. w.seen ++ plain (Open (did.collected.still.period i + 1) (did.collected.next i)) ∷ [];
  }

  -- no cycle ends in a running part
  ends_is : ends_in layout u.seen ≡ ends_in layout v.start
  ends_is = ap (ends_in layout) seen_is ∙ ends_in-part layout v.start froze.part (no_ends froze.part froze.of_part)

  AddsEnds-frozen : AddsEnds layout v.start w.seen report longer
  AddsEnds-frozen = AddsEnds-then layout v.start u.seen w.seen report report longer
      (AddsEnds-same layout v.start u.seen report report ends_is refl refl) did.told

  -- its sums are those of the history
  summed_now : (final : Keeper) → view_of final ≡ w → final.sums ≡ new.sums → HasSummed (view_of final).seen final.sums
  summed_now final same sums =
      subst (λ (x : View × CycleSums). HasSummed x.0.seen x.1) (λ i. (sym same i, sym sums i)) did.summed

  -- where all have left the history is finished
  pub HasFinished-frozen : (final : Keeper) → view_of final ≡ w → final.books.pacing ≡ k.books.pacing →
      final.sums ≡ new.sums → final.stopped ≡ k.stopped → final.collector.seat.table_id ≡ heap → MakesPeriod layout shapes k k.stopped w.seen →
      any_below (λ who. not (get_or k.left who false)) layout.mutators ≡ false → HasPostedEnds layout k final →
      HasFinished layout shapes heap k final report longer
  HasFinished-frozen final same pacing sums stopped table makes over posted = record {
    grows = subst (IsPrefix v.start) (sym seen_now) begun_is;
    parts = ap open_count seen_now ∙ sym did.collected.still.period ∙ period_is;
    finished = record {
      table = table;
      frozen = ap (λ (x : View). x.frozen) same ∙ did.collected.still.frozen;
      still = subst (StandsStill layout shapes) (sym same) did.collected.still;
      summed = summed_now final same sums;
      gone = λ i below. subst (In i) (sym (ap (λ (x : View). x.gone) same ∙ gone_is))
          ((stands.left.known i below).0 (left_all i below));
      stops = makes.stops;
      legal = subst (λ (p : Pacing). IsLegalWhere (pace_of p) layout shapes makes.stops (view_of final).seen) (sym pacing)
          (subst (IsLegalWhere pace layout shapes makes.stops) (sym seen_now) (record {
            lawful = makes.lawful;
            periods = makes.periods;
            ends = makes.ends;
            over = is_over-frozen ∙ ap not over;
          }));
      is_stopped = stopped ∙ makes.is_stopped;
    };
    posted = posted;
    told = subst (λ (h : List Event). AddsEnds layout v.start h report longer) (sym seen_now) AddsEnds-frozen;
  }
    where
      seen_now : (view_of final).seen ≡ w.seen
      seen_now = ap (λ (x : View). x.seen) same

      left_all : (i : ℕ) → i < layout.mutators → get_or k.left i false ≡ true
      left_all i below = of_not (get_or k.left i false)
          (any_below-false (λ who. not (get_or k.left who false)) layout.mutators i over below)
        where
          of_not : (b : Bool) → not b ≡ false → b ≡ true
          of_not true e = refl
          of_not false e = absurd (cc)

  -- where the number of the part was the last one none is opened
  pub HasSpentParts-frozen : (final : Keeper) → view_of final ≡ w → final.sums ≡ new.sums → final.stopped ≡ k.stopped →
      MakesPeriod layout shapes k k.stopped w.seen →
      any_below (λ who. not (get_or k.left who false)) layout.mutators ≡ true → w.period ≡ 2 ^ 32 - 1 →
      HasPostedEnds layout k final → HasSpentParts layout shapes k final report longer
  HasSpentParts-frozen final same sums stopped makes goes_on last posted = record {
    makes = subst (λ (b : Bool). MakesPeriod layout shapes k b (view_of final).seen) (sym stopped)
        (subst (MakesPeriod layout shapes k k.stopped) (sym seen_now) makes);
    goes_on = ap (is_over layout) seen_now ∙ is_over-frozen ∙ ap not goes_on;
    last = sym period_is ∙ last;
    summed = summed_now final same sums;
    posted = posted;
    told = subst (λ (h : List Event). AddsEnds layout v.start h report longer) (sym seen_now) AddsEnds-frozen;
  }
    where
      seen_now : (view_of final).seen ≡ w.seen
      seen_now = ap (λ (x : View). x.seen) same

  -- and else the next part is open
  module _ (final : Keeper) (is_opened : view_of final ≡ opened layout run w) (later : w.period + 1 < 2 ^ 32)
      (same_books : final.books ≡ new.books) (sums : final.sums ≡ new.sums)
      (pacing : new.books.pacing ≡ k.books.pacing) where
    abbrev x : View
    x = view_of final

    -- what the books say of the history isn't in the keeper's own report
    next : HasOpenedNext layout (record new.books { report = longer }) v x
    next = HasOpenedNext-by layout shapes pace forces run k.books (record new.books { report = report })
        (record new.books { report = longer }) v u w x stands.runs froze did.collected
        (record { are = record { births = did.are.births; room = did.are.room }; pacing = refl; told = did.told }) is_opened later

    pub start_is : x.start ≡ opened_history pace layout w.seen
    start_is = ap (λ (y : View). y.start) is_opened
        ∙ (λ i. w.seen ++ plain (Open (did.collected.still.period i + 1) (did.collected.next i)) ∷ [])

    left_now : AreLeft layout x 0 k.left
    left_now = record {
      are = λ who is. stands.left.are who (subst (In who) gone_now is);
      known = λ who below. subst (λ (l : List ℕ). (get_or k.left who false ≡ true) ↔ In who l) (sym gone_now)
          (stands.left.known who below);
      early = λ who below past is. inactive-prefix layout who whole x.start
          (record {
            rest = events ++ open_entry run w ∷ [];
            joins = sym (append_assoc whole events (open_entry run w ∷ []))
                ∙ ap (λ (h : List Event). h ++ open_entry run w ∷ []) (sym after_is)
                ∙ sym (ap (λ (y : View). y.start) is_opened);
          })
          ((has_done layout shapes heap hands k stands all u froze who below).gone (subst (In who) gone_now is));
    }
      where
        gone_now : x.gone ≡ v.gone
        gone_now = ap (λ (y : View). y.gone) is_opened ∙ gone_is

    pub HasOpenedPart-frozen : IsKeeperOf layout heap hands final → final.next ≡ 0 → final.ended ≡ false →
        final.left ≡ k.left → final.stopped ≡ k.stopped → ((who : ℕ) → get_or final.early who false ≡ false) →
        HasNoEnd final →
        final.seat.seat.me.0.given ≡ k.seat.seat.me.0.given + ticket_count layout k.left →
        ((place : ℕ) → has_left layout k.left place ≡ true → Among place final.seat.seat.me.0.free) →
        ((place : ℕ) → place < places layout → times place final.seat.seat.me.0.tickets
        ≡ times place k.seat.seat.me.0.tickets + (if has_left layout k.left place then 0 else 1)) →
        final.seat.seat.me.0.notes ≡ k.seat.seat.me.0.notes →
        MakesPeriod layout shapes k k.stopped w.seen → any_below (λ who. not (get_or k.left who false)) layout.mutators ≡ true →
        HasOpenedPart layout shapes heap hands k final report longer
    HasOpenedPart-frozen of none ended left stopped nobody no_end posted due tickets notes makes goes_on = record {
      after = w.seen;
      makes = subst (λ (b : Bool). MakesPeriod layout shapes k b w.seen) (sym stopped) makes;
      goes_on = over;
      opened = start_is;
      period = next.period;
      stands = KeeperStands-opened layout heap hands final makes.stops w.seen of
          (subst (λ (b : Books). RunsWith layout b x) (sym same_books) (record {
            runs = next.runs.runs;
            few = next.runs.few;
            numbered = next.runs.numbered;
            are = record { births = next.runs.are.births; room = next.runs.are.room };
          }))
          (subst (λ (x : View × CycleSums). HasSummed x.0.start x.1) (λ i. (sym is_opened i, sym sums i))
          (HasSummed-opened w.seen (w.period + 1) run new.sums did.summed))
          (subst (λ (p : Pacing). ArePeriodsWhere (pace_of p) layout makes.stops w.seen) (sym same_pacing) makes.periods)
          (stopped ∙ makes.is_stopped) nobody over
          (subst (λ (p : Pacing). x.start ≡ opened_history (pace_of p) layout w.seen) (sym same_pacing) start_is) marking next.visited
          next.done none ended (subst (AreLeft layout x 0) (sym left) left_now)
          (λ place is. due place (ap (λ (l : List Bool). has_left layout l place) (sym left) ∙ is)) rounds noted no_end;
      posted = posted ∙ ap (λ (l : List Bool). k.seat.seat.me.0.given + ticket_count layout l) (sym left);
      told = AddsEnds-next layout shapes run report longer v u w x froze did.told is_opened;
    }
      where
        same_pacing : final.books.pacing ≡ k.books.pacing
        same_pacing = ap (λ (b : Books). b.pacing) same_books ∙ pacing

        stays : (place : ℕ) → has_left layout final.left place ≡ false → has_left layout k.left place ≡ false
        stays place isnt = ap (λ (l : List Bool). has_left layout l place) (sym left) ∙ isnt

        -- each got one more ticket
        rounds : (place : ℕ) → place < places layout → has_left layout final.left place ≡ false →
            times place final.seat.seat.me.0.tickets ≡ x.period
        rounds place below isnt =
            let more = tickets place below in
            let one = ap {B = ℕ} (λ (b : Bool). if b then 0 else 1) (stays place isnt) in
            let were = stands.rounds place below (stays place isnt) in
            let period = next.period in
            omega (arith, more, one, were, period)

        -- and of each the note of the part before was in
        noted : (place : ℕ) → place < places layout → has_left layout final.left place ≡ false →
            times place final.seat.seat.me.0.notes + 1 ≡ x.period
        noted place below isnt =
            let same = ap (times place) notes in
            let were = stands.noted place below (stays place isnt) in
            let in_it = ap {B = ℕ} (λ (b : Bool). if b then 0 else 1) (lt-ltb place k.next (omega (arith, below, all))) in
            let period = next.period in
            omega (arith, same, were, in_it, period)

        over : is_over layout w.seen ≡ false
        over = is_over-frozen ∙ ap not goes_on

        marking : x.marks ≡ marks_after layout x.start
        marking = ap (λ (y : View). y.marks) is_opened ∙ sym (marks_still layout shapes w did.collected.still)
            ∙ sym (marks_after-opened layout run w) ∙ sym (ap (λ (y : View). marks_after layout y.start) is_opened)
