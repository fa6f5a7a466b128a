-- A freeze in which no cycle goes on, and how a period joins its part and its freeze.
use Rattle.std.proofs.Common.{ℕ, zero, suc, ◌≡◌, ◌+◌, ◌<◌, refl, sym, ◌∙◌, ap, subst, arith, Bool, true, false, List, [], ◌∷◌, ◌++◌, append-nil, inl, inr}
use Rattle.std.proofs.lemmas.Bool.{and_parts, eqb-true, eqb-false}
use Rattle.std.proofs.lemmas.List.Elements.{All-get_or}
use Rattle.std.proofs.lemmas.List.Sums.{AllPass-from_list_all, list_all-from_AllPass}
use Rattle.std.proofs.lemmas.Option.{slice_get_cases, slice_get_within}
use Rattle.std.specs.Prelude.{None, Some, map, slice_get, not, ◌||◌, ◌&&◌, nat_lt, nat_le, ◌==◌, if◌then◌else◌}
use Rattle.std.specs.List.{list_all}
use Rattle.tide_model.specs.declared.entry.Entry.{Entry}
use Rattle.tide_model.specs.declared.entry.Entry.TheVariants.{Begin, Call, Pause, End, Sweep, Taken, Open, Visits}
use Rattle.tide_model.specs.declared.entry.Event.{Event}
use Rattle.tide_model.specs.Cycle.{IsSwept, begin_count}
use Rattle.tide_model.specs.Freeze.{IsFreeze, is_due, is_marking_phase, marks_after, marks_of}
use Rattle.tide_model.specs.History.{is_begin, is_open, plain, state_after}
use Rattle.tide_model.specs.Layout.{Layout}
use Rattle.tide_model.specs.Pace.{Pace, call_quota}
use Rattle.tide_model.specs.Numbers.{any_below}
use Rattle.tide_model.specs.Periods.{is_forced, is_over, next_run, open_count, opened, after_part, Period}
use Rattle.tide_model.specs.Script.{calls_of, retry_after_all, retry_of}
use Rattle.tide_model.specs.Share.{IsShare, has_ended}
use Rattle.tide_model.specs.Since.{born_since, is_end, is_of_part}
use Rattle.tide_model.specs.State.{State, idle}
use Rattle.tide_model.proofs.Histories.{calls_of-append}
use Rattle.tide_model.proofs.PeriodLaws.{marks_of-append}
use Rattle.tide_periods.specs.declared.cursor.ScriptCursor.{ScriptCursor}
use Rattle.tide_periods.specs.Part.{AreCursors, RanPart}
use Rattle.tide_periods.specs.Periods.{RanFreeze, RanPeriod}
use Rattle.tide_periods.specs.Store.{Setting}
use Rattle.tide_sched.specs.Paces.{last_run}
use Rattle.tide_sched.proofs.RunLaws.{last_run-opened, last_run-same}
use Rattle.tide_periods.specs.Recorded.{IsSettled, OpenedPart, RanCycle, Recorded}
use Rattle.tide_model.proofs.OwnCalls.{IsShare-by}

-- no cycle marks where the state says so
rests_after : (recorded : Recorded) → IsSettled recorded → recorded.state.phase ≡ idle → marks_after recorded.setting.layout recorded.history ≡ false
rests_after recorded settled rests = ap (λ (s : State). is_marking_phase s.phase) settled.leaves ∙ ap is_marking_phase rests

-- so the next part has all calls of a period
run_at_rest : (pace : Pace) (recorded : Recorded) → IsSettled recorded → recorded.state.phase ≡ idle →
    pace.calls ≡ next_run pace recorded.setting.layout recorded.history
run_at_rest pace recorded settled rests =
    sym (ap (λ (b : Bool). if b then call_quota pace (born_since is_begin recorded.history) else pace.calls) (rests_after recorded settled rests))

-- none is due by itself where the trigger is 0
no_trigger : (pace : Pace) (layout : Layout) (history : List Event) → pace.trigger ≡ 0 → is_due pace layout history ≡ false
no_trigger pace layout history none =
    ap (λ (t : ℕ). not (marks_after layout history) && (nat_lt 0 t && nat_le t (born_since is_end history))) none ∙ and_false (not (marks_after layout history))
  where
    and_false : (b : Bool) → (b && false) ≡ false
    and_false true = refl
    and_false false = refl

-- sweeps are no marks, and no calls
marks_of-sweeps : (blocks : List ℕ) → marks_of (map (λ block. plain (Sweep block)) blocks) ≡ []
marks_of-sweeps [] = refl
marks_of-sweeps (block ∷ blocks) = marks_of-sweeps blocks

calls_of-sweeps : (who : ℕ) (blocks : List ℕ) → calls_of who (map (λ block. plain (Sweep block)) blocks) ≡ []
calls_of-sweeps who [] = refl
calls_of-sweeps who (block ∷ blocks) = calls_of-sweeps who blocks

-- a freeze that is one whole cycle
pub RanFreeze-cycle : (old new : Recorded) (pace : Pace) → IsSettled old → old.state.phase ≡ idle → 0 < pace.calls → RanCycle old new →
    RanFreeze old new pace true pace.calls
RanFreeze-cycle old new pace recorded rests some ran = record {
  settled = ran.settled;
  same = ran.same;
  cycles = let e = ran.cycles in omega (arith, e);
  parts = ran.parts;
  freeze = marks ++ sweeps;
  history = ran.history;
  quiet = λ who. calls_of-append who marks sweeps ∙ calls_of-sweeps who ran.blocks;
  active = ran.active;
  claims = ran.claims;
  is_freeze = record {
    old = [];
    new = entries;
    are = marks_of-append marks sweeps ∙ ap (λ (more : List Entry). entries ++ more) (marks_of-sweeps ran.blocks) ∙ append-nil entries;
    goes_on = λ marks_now. (let clash : true ≡ false = sym marks_now ∙ rests_after old recorded rests in absurd (cc));
    rests = λ _. refl;
    begins = λ _. record {
      paused = record { visits = ran.visits; freed = Some ran.freed };
      are = refl;
      pause = record { ends = λ _. refl; at_most = λ clash. absurd (cc); all = λ clash. absurd (cc) };
    };
    stays = λ clash. absurd (cc);
  };
  clean = λ must. ran.clean;
  next = run_at_rest pace new ran.settled ran.rests;
  some = some;
}
  where
    number : ℕ
    number = begin_count old.history + 1

    marks : List Event
    marks = plain (Begin number true) ∷ plain (Pause ran.visits) ∷ plain (End number ran.freed) ∷ []

    entries : List Entry
    entries = Begin number true ∷ Pause ran.visits ∷ End number ran.freed ∷ []

    sweeps : List Event
    sweeps = map (λ block. plain (Sweep block)) ran.blocks

-- a freeze in which nothing happens
pub RanFreeze-rest : (old : Recorded) (pace : Pace) → IsSettled old → old.state.phase ≡ idle → 0 < pace.calls → pace.trigger ≡ 0 →
    RanFreeze old old pace false pace.calls
RanFreeze-rest old pace settled rests some none = record {
  settled = settled;
  same = refl;
  cycles = omega arith;
  parts = refl;
  freeze = [];
  history = sym (append-nil old.history);
  quiet = λ who. refl;
  active = refl;
  claims = refl;
  is_freeze = record {
    old = [];
    new = [];
    are = refl;
    goes_on = λ marks_now. (let clash : true ≡ false = sym marks_now ∙ rests_after old settled rests in absurd (cc));
    rests = λ _. refl;
    begins = λ due. (let clash : true ≡ false = sym due ∙ no_trigger pace old.setting.layout old.history none in absurd (cc));
    stays = λ _. refl;
  };
  clean = λ clash. absurd (cc);
  next = run_at_rest pace old settled rests;
  some = some;
}

-- an open part is no call
pub calls_of-opened : (who : ℕ) (history : List Event) (number run : ℕ) → calls_of who (history ++ plain (Open number run) ∷ []) ≡ calls_of who history
calls_of-opened who history number run = calls_of-append who history (plain (Open number run) ∷ []) ∙ append-nil (calls_of who history)

-- what a test below a bound says
any_below-none : (test : ℕ → Bool) (n : ℕ) → ((k : ℕ) → k < n → test k ≡ false) → any_below test n ≡ false
any_below-none test zero none = refl
any_below-none test (suc n) none =
    let here = none n (omega arith) in
    ap (λ (b : Bool). b || test n) (any_below-none test n (λ k below. none k (omega arith))) ∙ here

any_below-some : (test : ℕ → Bool) (n k : ℕ) → k < n → test k ≡ true → any_below test n ≡ true
any_below-some test zero k below passes = absurd (omega arith)
any_below-some test (suc n) k below passes = step (k == n) refl (λ less. any_below-some test n k less passes)
  where
    or_true : (b : Bool) → (b || true) ≡ true
    or_true true = refl
    or_true false = refl

    step : (same : Bool) → (k == n) ≡ same → (k < n → any_below test n ≡ true) → (any_below test n || test n) ≡ true
    step true same earlier = ap (λ (b : Bool). any_below test n || b) (ap test (sym (eqb-true k n same)) ∙ passes) ∙ or_true (any_below test n)
    step false same earlier = let apart = eqb-false k n same in ap (λ (b : Bool). b || test n) (earlier (omega (arith, apart, below)))

-- a part opens none
none_open : (part : List Event) → list_all (λ event. is_of_part event.entry) part ≡ true →
    list_all (λ event. not (is_open event.entry)) part ≡ true
none_open [] all = refl
none_open (event ∷ part) all =
    let (here, later) = and_parts (is_of_part event.entry) (list_all (λ (e : Event). is_of_part e.entry) part) all in
    ap (λ (b : Bool). b && list_all (λ (e : Event). not (is_open e.entry)) part) (step event.entry here) ∙ none_open part later
  where
    step : (entry : Entry) → is_of_part entry ≡ true → not (is_open entry) ≡ true
    step (Call who op reply) is = refl
    step (Begin cycle full) is = refl
    step (Pause visits) is = refl
    step (Visits who visits) is = refl
    step (End cycle freed) is = refl
    step (Taken block) is = refl
    step (Sweep block) is = refl
    step (Open number run) is = absurd (cc)

-- a part was opened and run, and frozen after
pub RanPeriod-by : (old begun ran new : Recorded) (pace : Pace) (run next : ℕ) (stopped must : Bool) → is_over old.setting.layout old.history ≡ false →
    run ≡ next_run pace old.setting.layout old.history → OpenedPart old begun run → RanPart begun ran run stopped → RanFreeze ran new pace must next →
    must ≡ (stopped || is_over ran.setting.layout ran.history) → RanPeriod old new pace next
RanPeriod-by old begun ran new pace run next stopped must goes_on is_run opens part froze is_forced' = record {
  settled = froze.settled;
  same = froze.same ∙ settings;
  cycles = let e = froze.cycles in let f = part.counts.cycles in let h = opens.cycles in omega (arith, e, f, h);
  parts = froze.parts ∙ part.counts.parts ∙ opens.parts;
  period = period;
  history = froze.history ∙ ap (λ (h : List Event). h ++ froze.freeze) ran_history;
  stands = record {
    goes_on = goes_on;
    entries = part.is_part.entries;
    calls = λ marks. part.is_part.calls
        (ap (λ (s : Setting). marks_after s.layout begun.history) opens.same ∙ ap (marks_after layout) is_opened ∙ marks);
    taken = part.is_part.taken;
    swept_taken = part.is_part.swept;
    shares = λ who below. subst (λ (r : ℕ). IsShare r (retry_of who old.history) ((state_after layout (after_part pace layout old.history period)).active who) (calls_of who part.part)) (sym runs)
        (IsShare-by run (retry_of who begun.history) (retry_of who old.history) ((state_after ran.setting.layout ran.history).active who)
        ((state_after layout (after_part pace layout old.history period)).active who) (calls_of who part.part) (calls_of who part.part)
        (still who) (ap (λ (s : Setting). (state_after s.layout ran.history).active who) settings ∙ ap (λ (h : List Event). (state_after layout h).active who) ran_history) refl
        (part.shares who (subst (λ (s : Setting). who < s.layout.mutators) (sym opens.same) below)));
    freeze = subst (λ (m : Bool). IsFreeze pace layout (after_part pace layout old.history period) (next_run pace layout old.history) m (marks_of froze.freeze)) is_must_now
        (subst (λ (h : List Event). IsFreeze pace layout h (next_run pace layout old.history) must (marks_of froze.freeze)) ran_history
        (subst (λ (s : Setting). IsFreeze pace s.layout ran.history (next_run pace layout old.history) must (marks_of froze.freeze)) settings
        (subst (λ (n : ℕ). IsFreeze pace ran.setting.layout ran.history n must (marks_of froze.freeze)) last froze.is_freeze)));
    swept = λ must. subst (IsSwept layout) (froze.history ∙ ap (λ (h : List Event). h ++ froze.freeze) ran_history)
        (subst (λ (s : Setting). IsSwept s.layout new.history) (froze.same ∙ settings) (froze.clean (is_must_now ∙ must)));
  };
  next = froze.next;
  some = froze.some;
}
  where
    layout : Layout
    layout = old.setting.layout

    period : Period
    period = record { part = part.part; freeze = froze.freeze }

    settings : ran.setting ≡ old.setting
    settings = part.same ∙ opens.same

    runs : next_run pace layout old.history ≡ run
    runs = sym is_run

    is_opened : begun.history ≡ opened pace layout old.history
    is_opened = opens.history ∙ ap (λ (r : ℕ). old.history ++ plain (Open (open_count old.history + 1) r) ∷ []) (sym runs)

    ran_history : ran.history ≡ after_part pace layout old.history period
    ran_history = part.history ∙ ap (λ (h : List Event). h ++ part.part) is_opened

    last : last_run ran.history ≡ next_run pace layout old.history
    last = ap last_run ran_history
        ∙ last_run-same (opened pace layout old.history) part.part (none_open part.part (list_all-from_AllPass (λ (event : Event). is_of_part event.entry) part.part part.is_part.entries))
        ∙ last_run-opened old.history (open_count old.history + 1) (next_run pace layout old.history)

    still : (who : ℕ) → retry_of who begun.history ≡ retry_of who old.history
    still who = ap (retry_of who) opens.history ∙ ap (retry_after_all None) (calls_of-opened who old.history (open_count old.history + 1) run)

    is_must_now : must ≡ is_forced layout (opened pace layout old.history) part.part
    is_must_now = is_forced' ∙ ap (λ (b : Bool). b || is_over ran.setting.layout ran.history) part.stops
        ∙ ap (λ (s : Setting). any_below (λ who. has_ended (retry_of who begun.history) (calls_of who part.part)) s.layout.mutators || is_over ran.setting.layout ran.history) opens.same
        ∙ ap (λ (s : Setting). any_below (λ who. has_ended (retry_of who begun.history) (calls_of who part.part)) layout.mutators || is_over s.layout ran.history) settings
        ∙ ap (λ (h : List Event). any_below (λ who. has_ended (retry_of who begun.history) (calls_of who part.part)) layout.mutators || is_over layout h) ran_history
        ∙ ap (λ (h : List Event). any_below (λ who. has_ended (retry_of who h) (calls_of who part.part)) layout.mutators || is_over layout (after_part pace layout old.history period)) is_opened

-- which element fails a test that not all pass
pub one_fails : {X : Type 0} (test : X → Bool) (xs : List X) → list_all test xs ≡ false → (k : ℕ) × (x : X) × (slice_get xs k ≡ Some x) × (test x ≡ false)
one_fails test [] e = absurd (cc)
one_fails {X} test (x ∷ xs) e = step (test x) refl e (λ rest. one_fails test xs rest)
  where
    step : (passes : Bool) → test x ≡ passes → (passes && list_all test xs) ≡ false →
        (list_all test xs ≡ false → (k : ℕ) × (y : X) × (slice_get xs k ≡ Some y) × (test y ≡ false)) →
        (k : ℕ) × (y : X) × (slice_get (x ∷ xs) k ≡ Some y) × (test y ≡ false)
    step true is rest later = let at = later rest in (suc at.0, at.1, at.2, at.3)
    step false is rest later = (0, x, refl, is)

-- no mutator is active where each cursor has retired
pub is_over-cursors : (recorded : Recorded) (cursors : List ScriptCursor) → AreCursors recorded cursors →
    list_all (λ cursor. cursor.retired) cursors ≡ is_over recorded.setting.layout recorded.history
is_over-cursors recorded cursors are = step (list_all (λ cursor. cursor.retired) cursors) refl
  where
    active : ℕ → Bool
    active = (state_after recorded.setting.layout recorded.history).active

    step : (all : Bool) → list_all (λ cursor. cursor.retired) cursors ≡ all → list_all (λ cursor. cursor.retired) cursors ≡ is_over recorded.setting.layout recorded.history
    step true e = e ∙ sym (ap not (any_below-none active recorded.setting.layout.mutators none))
      where
        none : (k : ℕ) → k < recorded.setting.layout.mutators → active k ≡ false
        none k below = elim (slice_get_cases cursors k).1 [
          | inl at ↦
              let known = are.each k at.0 at.2 in
              let retired = subst (λ (c : ScriptCursor). c.retired ≡ true) at.3
              (All-get_or (λ (c : ScriptCursor). c.retired ≡ true) cursors k at.0 at.1 (AllPass-from_list_all (λ (c : ScriptCursor). c.retired) cursors e)) in
              ap active (sym known.0) ∙ known.1.active ∙ ap not retired
          | inr past ↦ absurd (let short = past.0 in let same = are.one_each in omega (arith, short, same, below))
        ]
    step false e =
        let one = one_fails (λ (c : ScriptCursor). c.retired) cursors e in
        let known = are.each one.0 one.1 one.2 in
        let within = slice_get_within cursors one.0 one.1 one.2 in
        let below : one.0 < recorded.setting.layout.mutators = (let same = are.one_each in omega (arith, within, same)) in
        e ∙ sym (ap not (any_below-some active recorded.setting.layout.mutators one.0 below (ap active (sym known.0) ∙ known.1.active ∙ ap not one.3)))
