-- What a freeze tells is what a log has to be told of it.
use Rattle.std.proofs.Common.{ℕ, ◌≡◌, ◌+◌, ◌∙◌, refl, sym, ap, subst, arith, Bool, true, false, List, [], ◌∷◌, ◌++◌, Option, None, Some, zero-add}
use Rattle.std.specs.List.{fold}
use Rattle.std.specs.Prelude.{map, sum, if◌then◌else◌}
use Rattle.tide_model.specs.declared.entry.Entry.{Entry}
use Rattle.tide_model.specs.declared.entry.Entry.TheVariants.{Begin, Call, End, Open, Pause, Sweep, Taken, Visits}
use Rattle.tide_model.specs.declared.entry.Event.{Event}
use Rattle.tide_model.specs.Cycle.{begin_count}
use Rattle.tide_model.specs.Freeze.{IsFreeze, marks_of, visits_entries}
use Rattle.tide_model.specs.History.{is_begin}
use Rattle.tide_model.specs.Layout.{Layout}
use Rattle.tide_model.specs.Pace.{Pace}
use Rattle.tide_model.specs.Since.{born_since, is_end}
use Rattle.tide_statistics.specs.declared.told.BegunTold.{BegunTold}
use Rattle.tide_statistics.specs.declared.told.FreezeTold.{FreezeTold}
use Rattle.tide_statistics.specs.declared.told.PauseTold.{PauseTold}
use Rattle.tide_statistics.specs.Statistics.{HasLogged, Logged}
use Rattle.tide_statistics.specs.Told.{TellsFreeze, begun_told, entries_told, on_told, pause_told, since_end_with, unfreed, with_begun, with_freeze, with_on, with_pause}
use Rattle.tide_statistics.proofs.FreezeLaws.{HasTallied-freeze, Tally, tally-append, tally_after, tally_with}

-- ends are told alike, whatever they freed
tally-unfreed : (tally : Tally) (entries : List Entry) → tally_after tally (map unfreed entries) ≡ tally_after tally entries
tally-unfreed tally [] = refl
tally-unfreed tally (Call who op reply ∷ entries) = tally-unfreed tally entries
tally-unfreed tally (Begin cycle full ∷ entries) = tally-unfreed (tally_with tally (Begin cycle full)) entries
tally-unfreed tally (Pause visits ∷ entries) = tally-unfreed (tally_with tally (Pause visits)) entries
tally-unfreed tally (Visits who visits ∷ entries) = tally-unfreed (tally_with tally (Visits who visits)) entries
tally-unfreed tally (End cycle freed ∷ entries) = tally-unfreed (tally_with tally (End cycle freed)) entries
tally-unfreed tally (Taken block ∷ entries) = tally-unfreed tally entries
tally-unfreed tally (Sweep block ∷ entries) = tally-unfreed tally entries
tally-unfreed tally (Open number run ∷ entries) = tally-unfreed tally entries

-- a tally with so many visits of visitors
abbrev with_visited : Tally → ℕ → Tally
with_visited tally visited = record {
  log = record tally.log { visited = visited };
  since_end = tally.since_end;
  in_cycle = tally.in_cycle;
}

-- a tally with so many more
abbrev visited_more : Tally → ℕ → Tally
visited_more tally more = with_visited tally (tally.log.visited + more)

none_more : (n : ℕ) → n ≡ n + 0
none_more n = omega (arith)

added : (a b c : ℕ) → (a + b) + c ≡ a + (b + c)
added a b c = omega (arith)

-- a sum from so many on
fold_more : (n : ℕ) (visits : List ℕ) → fold ◌+◌ n visits ≡ n + fold ◌+◌ 0 visits
fold_more n [] = none_more n
fold_more n (v ∷ visits) =
    let left = fold_more (n + v) visits in
    let right = fold_more (0 + v) visits in
    omega (arith, left, right)

pub sum_cons : (v : ℕ) (visits : List ℕ) → sum (v ∷ visits) ≡ v + sum visits
sum_cons v visits = fold_more (0 + v) visits ∙ ap (λ (m : ℕ). m + fold ◌+◌ 0 visits) (zero-add v)

-- what visitors made black is added up
tally-visited : (tally : Tally) (who : ℕ) (visits : List ℕ) → tally_after tally (visits_entries who visits) ≡ visited_more tally (sum visits)
tally-visited tally who [] = ap (with_visited tally) (none_more tally.log.visited)
tally-visited tally who (v ∷ visits) =
    tally-visited (tally_with tally (Visits who v)) (who + 1) visits
    ∙ ap (with_visited tally) (added tally.log.visited v (sum visits) ∙ ap (λ (m : ℕ). tally.log.visited + m) (sym (sum_cons v visits)))

-- a pause, and the end behind it, if its cycle ended
tally-pause : (tally : Tally) (cycle : ℕ) (told : PauseTold) → tally_after tally (pause_told cycle told) ≡ record {
  log = with_pause tally.log told tally.in_cycle;
  since_end = if told.ended then 0 else tally.since_end;
  in_cycle = tally.in_cycle;
}
tally-pause tally cycle told = step told.ended
  where
    step : (ended : Bool) → tally_after tally (pause_told cycle (record { visits = told.visits; ended = ended })) ≡ record {
      log = with_pause tally.log (record { visits = told.visits; ended = ended }) tally.in_cycle;
      since_end = if ended then 0 else tally.since_end;
      in_cycle = tally.in_cycle;
    }
    step true = refl
    step false = refl

-- both halves of a freeze
halves : (tally : Tally) (begun : ℕ) (on : Option PauseTold) (new : Option BegunTold) →
    (tally_after tally (on_told begun on ++ begun_told begun new)).log
    ≡ with_begun (with_on tally.log on tally.in_cycle) new (since_end_with on tally.since_end)
halves tally begun None None = refl
halves tally begun None (Some new) =
    ap (λ (t : Tally). t.log) (tally-pause (tally_with tally (Begin (begun + 1) new.full)) (begun + 1) new.pause)
halves tally begun (Some on) None =
    ap (λ (t : Tally). t.log) (tally-append tally (pause_told begun on) [] ∙ tally-pause tally begun on)
halves tally begun (Some on) (Some new) =
    let between : Tally = record {
      log = with_pause tally.log on tally.in_cycle;
      since_end = if on.ended then 0 else tally.since_end;
      in_cycle = tally.in_cycle;
    } in
    ap (λ (t : Tally). t.log) (tally-append tally (pause_told begun on) (begun_told begun (Some new)))
    ∙ ap (λ (t : Tally). (tally_after t (begun_told begun (Some new))).log) (tally-pause tally begun on)
    ∙ ap (λ (t : Tally). t.log) (tally-pause (tally_with between (Begin (begun + 1) new.full)) (begun + 1) new.pause)

-- all that a freeze tells
tally-told : (tally : Tally) (begun : ℕ) (visits : List ℕ) (told : FreezeTold) →
    (tally_after tally (entries_told begun visits told)).log ≡ with_freeze tally.log (sum visits) told tally.since_end tally.in_cycle
tally-told tally begun visits told =
    let rest = on_told begun told.went_on ++ begun_told begun told.begun in
    ap (λ (t : Tally). t.log) (tally-append tally (visits_entries 0 visits) rest)
    ∙ ap (λ (t : Tally). (tally_after t rest).log) (tally-visited tally 0 visits)
    ∙ halves (visited_more tally (sum visits)) begun told.went_on told.begun

-- A log that had what the history said has what it says behind a freeze, once it is told what the freeze tells.
pub HasLogged-told : (pace : Pace) (layout : Layout) (here freeze : List Event) (run : ℕ) (is_forced : Bool) (log : Logged) (visits : List ℕ) (told : FreezeTold) →
    IsFreeze pace layout here run is_forced (marks_of freeze) → TellsFreeze here freeze visits told → HasLogged here log →
    HasLogged (here ++ freeze) (with_freeze log (sum visits) told (born_since is_end here) (born_since is_begin here))
HasLogged-told pace layout here freeze run is_forced log visits told is tells has =
    let tally : Tally = record { log = log; since_end = born_since is_end here; in_cycle = born_since is_begin here } in
    let same : (tally_after tally (marks_of freeze)).log ≡ with_freeze log (sum visits) told (born_since is_end here) (born_since is_begin here) =
    ap (λ (t : Tally). t.log) (sym (tally-unfreed tally (marks_of freeze)) ∙ ap (tally_after tally) tells)
    ∙ tally-told tally (begin_count here) visits told in
    subst (HasLogged (here ++ freeze)) same
    (HasTallied-freeze pace layout here freeze run is_forced tally is (record { logged = has; since_end = refl; in_cycle = refl })).logged
