-- How sums go on being those of a history: over a part's opening, over what it does, and over a whole freeze.
use Rattle.std.proofs.Common.{ℕ, ◌≡◌, ◌+◌, ◌-◌, ◌∙◌, refl, sym, ap, subst, add-zero, arith, Bool, true, false, List, [], ◌∷◌, ◌++◌, Option, None, Some}
use Rattle.std.proofs.lemmas.List.Sums.{sum_by-append, sum_by_push}
use Rattle.std.specs.List.{list_all}
use Rattle.std.specs.Prelude.{count_by, if◌then◌else◌, min, not, sum}
use Rattle.tide_model.specs.declared.entry.Entry.TheVariants.{Open}
use Rattle.tide_model.specs.declared.entry.Event.{Event}
use Rattle.tide_model.specs.Cycle.{begin_count}
use Rattle.tide_model.specs.Freeze.{IsFreeze, marks_of}
use Rattle.tide_model.specs.History.{is_begin, plain}
use Rattle.tide_model.specs.Layout.{Layout}
use Rattle.tide_model.specs.Old.{is_full}
use Rattle.tide_model.specs.Pace.{Pace}
use Rattle.tide_model.specs.Since.{born_since, is_end, is_of_part}
use Rattle.tide_statistics.specs.declared.log.CycleStatistics.{CycleStatistics}
use Rattle.tide_statistics.specs.declared.sums.CycleSums.{CycleSums}
use Rattle.tide_statistics.specs.declared.told.BegunTold.{BegunTold}
use Rattle.tide_statistics.specs.declared.told.FreezeTold.{FreezeTold}
use Rattle.tide_statistics.specs.declared.told.PauseTold.{PauseTold}
use Rattle.tide_statistics.specs.Statistics.{HasLogged, Logged, born_before, parts_since_begin, paused_in, paused_since_begin, statistics_in, told_by, visited_in, visited_since_begin}
use Rattle.tide_statistics.specs.Sums.{HasSummed, all_born, all_paused, all_visited, most, no_sums, raised, sums_with_begun, sums_with_end, sums_with_on, sums_with_pause, with_part, with_told}
use Rattle.tide_statistics.specs.Told.{TellsFreeze, since_end_with, with_begun, with_freeze, with_on, with_pause}
use Rattle.tide_statistics.proofs.EntryCounts.{begun_counted, birth_in, births_black, born_since-part, counted-part, counted-told, none_begun, none_on, on_counted, paused_black, sum-none, unblack_in_part, visited_black}
use Rattle.tide_statistics.proofs.LogLaws.{HasLogged-opened, HasLogged-part}
use Rattle.tide_statistics.proofs.ToldLaws.{HasLogged-told}

-- a sum that was as far as it goes still is, with so many more
raised_to : (sum before more after : ℕ) → sum ≡ min before most → after ≡ before + more → raised sum more ≡ min after most
raised_to sum before more after was is = omega (arith, was, is)

-- and with none more
kept_at : (sum before after : ℕ) → sum ≡ min before most → after ≡ before → sum ≡ min after most
kept_at sum before after was is = omega (arith, was, is)

-- the log that the history itself says
abbrev log_of : List Event → Logged
log_of history = record {
  ended = statistics_in history;
  begun = begin_count history;
  full = is_full history;
  parts = parts_since_begin history;
  before = born_before history;
  paused = paused_since_begin history;
  visited = visited_since_begin history;
}

HasLogged-itself : (history : List Event) → HasLogged history (log_of history)
HasLogged-itself history = record { ended = refl; begun = refl; full = refl; parts = refl; before = refl; paused = refl; visited = refl }

-- how many cycles of each kind are told of
abbrev fulls : List CycleStatistics → ℕ
fulls cycles = count_by (λ cycle. cycle.full) cycles

abbrev edens : List CycleStatistics → ℕ
edens cycles = count_by (λ cycle. not cycle.full) cycles

-- the sums have the kinds that a log has, and these counts
record AreSums (log : Logged) (made_paused made_visited made_born : ℕ) (sums : CycleSums) : Type 0 where
  full_cycles : sums.full_cycles ≡ min (fulls log.ended) most
  eden_cycles : sums.eden_cycles ≡ min (edens log.ended) most
  paused : sums.paused ≡ min made_paused most
  visited : sums.visited ≡ min made_visited most
  born : sums.born ≡ min made_born most
  begun : sums.begun ≡ log.begun
  is_full : sums.is_full ≡ log.full

-- the cycle that began last ended
AreSums-end : (log : Logged) (paused visited born marking : ℕ) (sums : CycleSums) → AreSums log paused visited born sums →
    AreSums (record log { ended = log.ended ++ told_by log marking ∷ [] }) paused visited born (sums_with_end sums)
AreSums-end log paused visited born marking sums has = counted sums.is_full (sym has.is_full)
  where
    cycle : CycleStatistics
    cycle = told_by log marking

    after : List CycleStatistics
    after = log.ended ++ cycle ∷ []

    more_full : fulls after ≡ fulls log.ended + (if log.full then 1 else 0)
    more_full = sum_by_push (λ c. if c.full then 1 else 0) log.ended cycle

    more_eden : edens after ≡ edens log.ended + (if not log.full then 1 else 0)
    more_eden = sum_by_push (λ c. if not c.full then 1 else 0) log.ended cycle

    chosen : Bool → CycleSums
    chosen full = if full then record sums { full_cycles = raised sums.full_cycles 1 } else record sums { eden_cycles = raised sums.eden_cycles 1 }

    counted : (full : Bool) → log.full ≡ full → AreSums (record log { ended = after }) paused visited born (chosen full)
    counted true is = record {
      full_cycles = raised_to sums.full_cycles (fulls log.ended) 1 (fulls after) has.full_cycles
          (more_full ∙ ap (λ (full : Bool). fulls log.ended + (if full then 1 else 0)) is);
      eden_cycles = kept_at sums.eden_cycles (edens log.ended) (edens after) has.eden_cycles
          (more_eden ∙ ap (λ (full : Bool). edens log.ended + (if not full then 1 else 0)) is ∙ add-zero (edens log.ended));
      paused = has.paused;
      visited = has.visited;
      born = has.born;
      begun = has.begun;
      is_full = has.is_full;
    }
    counted false is = record {
      full_cycles = kept_at sums.full_cycles (fulls log.ended) (fulls after) has.full_cycles
          (more_full ∙ ap (λ (full : Bool). fulls log.ended + (if full then 1 else 0)) is ∙ add-zero (fulls log.ended));
      eden_cycles = raised_to sums.eden_cycles (edens log.ended) 1 (edens after) has.eden_cycles
          (more_eden ∙ ap (λ (full : Bool). edens log.ended + (if not full then 1 else 0)) is);
      paused = has.paused;
      visited = has.visited;
      born = has.born;
      begun = has.begun;
      is_full = has.is_full;
    }

-- a pause was told, and the end behind it, if its cycle ended
AreSums-pause : (log : Logged) (paused visited born marking : ℕ) (told : PauseTold) (sums : CycleSums) → AreSums log paused visited born sums →
    AreSums (with_pause log told marking) (paused + told.visits) visited born (sums_with_pause sums told)
AreSums-pause log paused visited born marking told sums has = step told.ended
  where
    between : CycleSums
    between = record sums { paused = raised sums.paused told.visits }

    first : AreSums (record log { paused = log.paused + told.visits }) (paused + told.visits) visited born between
    first = record {
      full_cycles = has.full_cycles;
      eden_cycles = has.eden_cycles;
      paused = raised_to sums.paused paused told.visits (paused + told.visits) has.paused refl;
      visited = has.visited;
      born = has.born;
      begun = has.begun;
      is_full = has.is_full;
    }

    step : (ended : Bool) → AreSums (with_pause log (record { visits = told.visits; ended = ended }) marking) (paused + told.visits) visited born
        (sums_with_pause sums (record { visits = told.visits; ended = ended }))
    step true = AreSums-end (record log { paused = log.paused + told.visits }) (paused + told.visits) visited born marking between first
    step false = first

-- the cycle that marks went on, if one does
AreSums-on : (log : Logged) (paused visited born marking : ℕ) (told : Option PauseTold) (sums : CycleSums) → AreSums log paused visited born sums →
    AreSums (with_on log told marking) (paused + on_counted (λ v. v) told) visited born (sums_with_on sums told)
AreSums-on log paused visited born marking None sums has =
    subst (λ (n : ℕ). AreSums log n visited born sums) (sym (add-zero paused)) has
AreSums-on log paused visited born marking (Some told) sums has = AreSums-pause log paused visited born marking told sums has

-- a cycle began, if one does
AreSums-begun : (log : Logged) (paused visited born since_end : ℕ) (told : Option BegunTold) (sums : CycleSums) → AreSums log paused visited born sums →
    AreSums (with_begun log told since_end) (paused + begun_counted (λ v. v) told) visited born (sums_with_begun sums told)
AreSums-begun log paused visited born since_end None sums has =
    subst (λ (n : ℕ). AreSums log n visited born sums) (sym (add-zero paused)) has
AreSums-begun log paused visited born since_end (Some told) sums has =
    let begun = record log { begun = log.begun + 1; full = told.full; parts = 0; before = since_end; paused = 0; visited = 0 } in
    AreSums-pause begun paused visited born 0 told.pause (record sums { begun = sums.begun + 1; is_full = told.full })
    (record {
      full_cycles = has.full_cycles;
      eden_cycles = has.eden_cycles;
      paused = has.paused;
      visited = has.visited;
      born = has.born;
      begun = ap (λ (n : ℕ). n + 1) has.begun;
      is_full = refl;
    })

-- a whole freeze was told
AreSums-told : (log : Logged) (paused visited born seen since_end in_cycle : ℕ) (told : FreezeTold) (sums : CycleSums) → AreSums log paused visited born sums →
    AreSums (with_freeze log seen told since_end in_cycle) ((paused + on_counted (λ v. v) told.went_on) + begun_counted (λ v. v) told.begun) (visited + seen) born
    (with_told sums seen told)
AreSums-told log paused visited born seen since_end in_cycle told sums has =
    let first : AreSums (record log { visited = log.visited + seen }) paused (visited + seen) born (record sums { visited = raised sums.visited seen }) = record {
      full_cycles = has.full_cycles;
      eden_cycles = has.eden_cycles;
      paused = has.paused;
      visited = raised_to sums.visited visited seen (visited + seen) has.visited refl;
      born = has.born;
      begun = has.begun;
      is_full = has.is_full;
    } in
    let on = AreSums-on (record log { visited = log.visited + seen }) paused (visited + seen) born in_cycle told.went_on
    (record sums { visited = raised sums.visited seen }) first in
    AreSums-begun (with_on (record log { visited = log.visited + seen }) told.went_on in_cycle) (paused + on_counted (λ v. v) told.went_on) (visited + seen) born
    (since_end_with told.went_on since_end) told.begun (sums_with_on (record sums { visited = raised sums.visited seen }) told.went_on) on

-- sums that have what the history itself says
of_history : (history : List Event) (sums : CycleSums) → HasSummed history sums →
    AreSums (log_of history) (all_paused history) (all_visited history) (all_born history) sums
of_history history sums has = record {
  full_cycles = has.full_cycles;
  eden_cycles = has.eden_cycles;
  paused = has.paused;
  visited = has.visited;
  born = has.born;
  begun = has.begun;
  is_full = has.is_full;
}

-- sums by a log that has what a history says are those of the history
HasSummed-logged : (history : List Event) (log : Logged) (paused visited born : ℕ) (sums : CycleSums) → HasLogged history log →
    all_paused history ≡ paused → all_visited history ≡ visited → all_born history ≡ born → AreSums log paused visited born sums → HasSummed history sums
HasSummed-logged history log paused visited born sums has paused_is visited_is born_is are = record {
  full_cycles = are.full_cycles ∙ ap (λ (cycles : List CycleStatistics). min (fulls cycles) most) has.ended;
  eden_cycles = are.eden_cycles ∙ ap (λ (cycles : List CycleStatistics). min (edens cycles) most) has.ended;
  paused = kept_at sums.paused paused (all_paused history) are.paused paused_is;
  visited = kept_at sums.visited visited (all_visited history) are.visited visited_is;
  born = kept_at sums.born born (all_born history) are.born born_is;
  begun = are.begun ∙ has.begun;
  is_full = are.is_full ∙ has.full;
}

-- nothing has happened yet
pub HasSummed-nothing : HasSummed [] no_sums
HasSummed-nothing = record { full_cycles = refl; eden_cycles = refl; paused = refl; visited = refl; born = refl; begun = refl; is_full = refl }

-- a part was opened
pub HasSummed-opened : (history : List Event) (number run : ℕ) (sums : CycleSums) → HasSummed history sums →
    HasSummed (history ++ plain (Open number run) ∷ []) sums
HasSummed-opened history number run sums has =
    let event = plain (Open number run) in
    let log = log_of history in
    HasSummed-logged (history ++ event ∷ []) (record log { parts = log.parts + 1 }) (all_paused history) (all_visited history) (all_born history) sums
    (HasLogged-opened history event number run log refl (HasLogged-itself history))
    (sum_by_push (λ e. paused_in e.entry) history event ∙ add-zero (all_paused history))
    (sum_by_push (λ e. visited_in e.entry) history event ∙ add-zero (all_visited history))
    (sum_by_push (λ e. birth_in e.entry) history event ∙ add-zero (all_born history))
    (record {
      full_cycles = has.full_cycles;
      eden_cycles = has.eden_cycles;
      paused = has.paused;
      visited = has.visited;
      born = has.born;
      begun = has.begun;
      is_full = has.is_full;
    })

-- a part ran, and the births since the last end were taken before it and behind it
pub HasSummed-part : (history part : List Event) (sums : CycleSums) → list_all (λ event. is_of_part event.entry) part ≡ true → HasSummed history sums →
    HasSummed (history ++ part) (with_part sums (born_since is_end (history ++ part) - born_since is_end history))
HasSummed-part history part sums all has =
    let log = log_of history in
    let born = born_since is_end (history ++ part) - born_since is_end history in
    let paused = counted-part paused_in (unblack_in_part paused_in (λ who op reply. refl) (λ block. refl) (λ block. refl)) part all in
    let visited = counted-part visited_in (unblack_in_part visited_in (λ who op reply. refl) (λ block. refl) (λ block. refl)) part all in
    let more_paused = sum_by-append (λ e. paused_in e.entry) history part in
    let more_visited = sum_by-append (λ e. visited_in e.entry) history part in
    let more_born = sum_by-append (λ e. birth_in e.entry) history part in
    let since = born_since-part history part all in
    HasSummed-logged (history ++ part) log (all_paused history) (all_visited history) (all_born history + born) (with_part sums born)
    (HasLogged-part history part log all (HasLogged-itself history))
    (omega (arith, more_paused, paused)) (omega (arith, more_visited, visited)) (omega (arith, more_born, since))
    (record {
      full_cycles = has.full_cycles;
      eden_cycles = has.eden_cycles;
      paused = has.paused;
      visited = has.visited;
      born = raised_to sums.born (all_born history) born (all_born history + born) has.born refl;
      begun = has.begun;
      is_full = has.is_full;
    })

-- Sums that were those of the history are those of it behind a freeze, once what the freeze tells is added.
pub HasSummed-told : (pace : Pace) (layout : Layout) (here freeze : List Event) (run : ℕ) (is_forced : Bool) (sums : CycleSums) (visits : List ℕ) (told : FreezeTold) →
    IsFreeze pace layout here run is_forced (marks_of freeze) → TellsFreeze here freeze visits told → HasSummed here sums →
    HasSummed (here ++ freeze) (with_told sums (sum visits) told)
HasSummed-told pace layout here freeze run is_forced sums visits told is tells has =
    let log = log_of here in
    let since_end = born_since is_end here in
    let in_cycle = born_since is_begin here in
    let unseen = sum-none visits in
    let no_on = none_on told.went_on in
    let no_begun = none_begun told.begun in
    let paused = counted-told paused_in (λ v. 0) (λ v. v) paused_black here freeze visits told tells in
    let visited = counted-told visited_in (λ v. v) (λ v. 0) visited_black here freeze visits told tells in
    let born = counted-told birth_in (λ v. 0) (λ v. 0) births_black here freeze visits told tells in
    HasSummed-logged (here ++ freeze) (with_freeze log (sum visits) told since_end in_cycle)
    ((all_paused here + on_counted (λ v. v) told.went_on) + begun_counted (λ v. v) told.begun) (all_visited here + sum visits) (all_born here)
    (with_told sums (sum visits) told)
    (HasLogged-told pace layout here freeze run is_forced log visits told is tells (HasLogged-itself here))
    (omega (arith, paused, unseen)) (omega (arith, visited, no_on, no_begun)) (omega (arith, born, unseen, no_on, no_begun))
    (AreSums-told log (all_paused here) (all_visited here) (all_born here) (sum visits) since_end in_cycle told sums (of_history here sums has))
