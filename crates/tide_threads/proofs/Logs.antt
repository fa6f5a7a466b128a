-- A log is told of a part of a run.
use Rattle.std.proofs.Common.{ℕ, ◌≡◌, ◌+◌, ◌∙◌, refl, sym, ap, subst, arith, Bool, true, false, List, [], ◌∷◌, ◌++◌}
use Rattle.std.proofs.lemmas.Bool.{and_parts}
use Rattle.std.proofs.lemmas.List.Sums.{list_all-from_AllPass}
use Rattle.std.specs.List.{list_all}
use Rattle.std.specs.Prelude.{◌<◌, ◌≤◌, ◌&&◌, ◌^◌, if◌then◌else◌, not, sum}
use Rattle.tide_model.specs.Freeze.{marks_after}
use Rattle.tide_model.specs.History.{is_begin, is_open, plain}
use Rattle.tide_model.specs.Layout.{Layout}
use Rattle.tide_model.specs.Pace.{Pace, call_quota}
use Rattle.tide_model.specs.Periods.{next_run, open_count}
use Rattle.tide_model.specs.Since.{born_since, is_of_part}
use Rattle.tide_model.specs.declared.entry.Entry.{Entry}
use Rattle.tide_model.specs.declared.entry.Entry.TheVariants.{Begin, Call, End, Open, Pause, Sweep, Taken, Visits}
use Rattle.tide_model.specs.declared.entry.Event.{Event}
use Rattle.tide_periods.specs.Part.{RanOpenedPart}
use Rattle.tide_periods.specs.Recorded.{Recorded}
use Rattle.tide_sched.proofs.RunLaws.{last_run-opened, last_run-same}
use Rattle.tide_sched.specs.Paces.{last_run}
use Rattle.tide_table.proofs.ForeseenLaws.{visits_noted-few}
use Rattle.tide_table.proofs.tide_statistics.LogLaws.{HasLogged-opened, HasLogged-part}
use Rattle.tide_table.specs.Foreseen.{visits_noted}
use Rattle.tide_table.specs.tide_statistics.Statistics.{HasLogged, Logged}
use Rattle.tide_threads.specs.OnThreads.{MayEnterOn, Stands, recorded_in}
use Rattle.tide_threads.specs.declared.on_threads.OnThreads.{OnThreads}

-- a part opens no other
unopened : (part : List Event) → list_all (λ event. is_of_part event.entry) part ≡ true →
    list_all (λ event. not (is_open event.entry)) part ≡ true
unopened [] all = refl
unopened (event ∷ part) all =
    let (here, later) = and_parts (is_of_part event.entry) (list_all (λ (e : Event). is_of_part e.entry) part) all in
    ap (λ (b : Bool). b && list_all (λ (e : Event). not (is_open e.entry)) part) (step event.entry here) ∙ unopened part later
  where
    step : (entry : Entry) → is_of_part entry ≡ true → not (is_open entry) ≡ true
    step (Call who op reply) is = refl
    step (Begin cycle full) is = refl
    step (Pause visits) is = refl
    step (Visits who visits) is = refl
    step (End cycle freed) is = refl
    step (Taken block) is = refl
    step (Sweep block) is = refl
    step (Open number run) is = absurd (cc)

-- a part was opened and run
module _ (old new : Recorded) (run : ℕ) (ended : Bool) (ran : RanOpenedPart old new run ended) where
  abbrev opens : Event
  opens = plain (Open (open_count old.history + 1) run)

  all_of_part : list_all (λ event. is_of_part event.entry) ran.ran.part ≡ true
  all_of_part = list_all-from_AllPass (λ (event : Event). is_of_part event.entry) ran.ran.part ran.ran.is_part.entries

  history_is : new.history ≡ (old.history ++ opens ∷ []) ++ ran.ran.part
  history_is = ran.ran.history ∙ ap (λ (h : List Event). h ++ ran.ran.part) ran.opened.history

  -- the log was told that it was opened
  pub HasLogged-parted : (log : Logged) → HasLogged old.history log → HasLogged new.history (record log { parts = log.parts + 1 })
  HasLogged-parted log has =
      subst (λ (h : List Event). HasLogged h (record log { parts = log.parts + 1 })) (sym history_is)
      (HasLogged-part (old.history ++ opens ∷ []) ran.ran.part (record log { parts = log.parts + 1 }) all_of_part
      (HasLogged-opened old.history opens (open_count old.history + 1) run log refl has))

  -- it is the last one
  pub last_run-parted : last_run new.history ≡ run
  last_run-parted = ap last_run history_is
      ∙ last_run-same (old.history ++ opens ∷ []) ran.ran.part (unopened ran.ran.part all_of_part)
      ∙ last_run-opened old.history (open_count old.history + 1) run

-- each mutator has no more calls in a part than a period has
pub next_run-most : (pace : Pace) (layout : Layout) (history : List Event) → next_run pace layout history ≤ pace.calls
next_run-most pace layout history = step (marks_after layout history)
  where
    step : (marks : Bool) → (if marks then call_quota pace (born_since is_begin history) else pace.calls) ≤ pace.calls
    step true = omega arith
    step false = omega arith

-- visitors made few cells black in a part of at most 2^16 calls
pub visited-few : (o : OnThreads) → Stands o → MayEnterOn o → 0 < (recorded_in o).parts → last_run (recorded_in o).history ≤ 2 ^ 16 →
    sum (visits_noted o.heap.key.layout o.collector.seat.me.0) < 2 ^ 32
visited-few o stands may opened few =
    let still = stands.still in
    let period = still.period in
    let run = still.run (omega (arith, opened, period)) in
    visits_noted-few o.heap.key.layout o.collector.seat.me.0 still.limits.few_visitors (omega (arith, few, run)) may
