-- How a log goes on having what a history says, event by event.
use Rattle.std.proofs.Common.{ℕ, suc, ◌≡◌, ◌+◌, ◌∙◌, refl, sym, ap, subst, arith, Bool, true, false, List, [], ◌∷◌, ◌++◌, append_assoc, append-nil, length, length-append, take, take_all, zero-add}
use Rattle.std.proofs.lemmas.Bool.{and_parts}
use Rattle.std.proofs.lemmas.List.Sums.{sum_by-append}
use Rattle.std.specs.List.{list_all}
use Rattle.std.specs.Prelude.{◌||◌, count_by, if◌then◌else◌, sum_by}
use Rattle.tide_model.specs.declared.entry.Entry.{Entry}
use Rattle.tide_model.specs.declared.entry.Entry.TheVariants.{Begin, Call, End, Open, Pause, Sweep, Taken, Visits}
use Rattle.tide_model.specs.declared.entry.Event.{Event}
use Rattle.tide_model.specs.Cycle.{begin_count}
use Rattle.tide_model.specs.History.{is_begin, is_open, moment_after_last}
use Rattle.tide_model.specs.Old.{full_with, is_full}
use Rattle.tide_model.specs.Since.{born_since, is_birth, is_end, is_of_part, since}
use Rattle.tide_model.proofs.Histories.{moment_after_last-le, moment_after_last-push, take-append-short}
use Rattle.tide_model.proofs.OldLaws.{full_after-push, is_full-kept}
use Rattle.tide_model.proofs.SinceLaws.{count-push, since-none, since-push}
use Rattle.tide_statistics.specs.declared.log.CycleStatistics.{CycleStatistics}
use Rattle.tide_statistics.specs.Statistics.{HasLogged, Logged, born_before, nothing, parts_since_begin, paused_in, paused_since_begin, statistics_at, statistics_from, statistics_in, told_by, visited_in, visited_since_begin}

-- what is told of one more event behind others
statistics_from-push : (before events : List Event) (event : Event) →
    statistics_from before (events ++ event ∷ []) ≡ statistics_from before events ++ statistics_at (before ++ events) event.entry
statistics_from-push before [] event =
    append-nil (statistics_at before event.entry) ∙ ap (λ (h : List Event). statistics_at h event.entry) (sym (append-nil before))
statistics_from-push before (first ∷ events) event =
    let now = before ++ first ∷ [] in
    ap (λ (rest : List CycleStatistics). statistics_at before first.entry ++ rest)
    (statistics_from-push now events event
    ∙ ap (λ (h : List Event). statistics_from now events ++ statistics_at h event.entry) (append_assoc before (first ∷ []) events))
    ∙ sym (append_assoc (statistics_at before first.entry) (statistics_from now events) (statistics_at (before ++ first ∷ events) event.entry))

-- what is told of a history with one more event
pub statistics_in-push : (history : List Event) (event : Event) →
    statistics_in (history ++ event ∷ []) ≡ statistics_in history ++ statistics_at history event.entry
statistics_in-push history event = statistics_from-push [] history event

-- an event that begins no cycle leaves what was born before the last one
born_before-kept : (history : List Event) (event : Event) → is_begin event.entry ≡ false → born_before (history ++ event ∷ []) ≡ born_before history
born_before-kept history event other =
    let kind = λ (e : Event). is_begin e.entry in
    let last = moment_after_last kind history in
    ap (λ (moment : ℕ). born_since is_end (take moment (history ++ event ∷ [])))
    (moment_after_last-push kind history event ∙ ap (λ (is : Bool). if is then suc (length history) else last) other)
    ∙ ap (born_since is_end) (take-append-short history (event ∷ []) last (moment_after_last-le kind history))

-- an event that is neither a beginning nor an end and no birth leaves what was born
pub born_since-beside : (test : Entry → Bool) (history : List Event) (event : Event) → test event.entry ≡ false → is_birth event.entry ≡ false →
    born_since test (history ++ event ∷ []) ≡ born_since test history
born_since-beside test history event other none =
    let more = count-push (λ e. is_birth e.entry) (since test history) event in
    let unborn = ap {B = ℕ} (λ (is : Bool). if is then 1 else 0) none in
    ap (count_by (λ e. is_birth e.entry)) (since-push test history event other) ∙ (omega (arith, more, unborn))

-- where a cycle begins, all that was born since the last end was born before it
born_before-begun : (history : List Event) (event : Event) → is_begin event.entry ≡ true → is_end event.entry ≡ false → is_birth event.entry ≡ false →
    born_before (history ++ event ∷ []) ≡ born_since is_end history
born_before-begun history event begins ends none =
    let kind = λ (e : Event). is_begin e.entry in
    let parts = length-append history (event ∷ []) in
    ap (λ (moment : ℕ). born_since is_end (take moment (history ++ event ∷ [])))
    (moment_after_last-push kind history event ∙ ap (λ (is : Bool). if is then suc (length history) else moment_after_last kind history) begins)
    ∙ ap (born_since is_end) (take_all (suc (length history)) (history ++ event ∷ []) (omega (arith, parts)))
    ∙ born_since-beside is_end history event ends none

-- how many parts were opened since the last beginning, with one more event
parts-push : (history : List Event) (event : Event) → is_begin event.entry ≡ false →
    parts_since_begin (history ++ event ∷ []) ≡ parts_since_begin history + (if is_open event.entry then 1 else 0)
parts-push history event other =
    ap (count_by (λ e. is_open e.entry)) (since-push is_begin history event other) ∙ count-push (λ e. is_open e.entry) (since is_begin history) event

-- what is summed up since the last beginning, with one more event
summed-push : (count : Entry → ℕ) (history : List Event) (event : Event) → is_begin event.entry ≡ false →
    sum_by (λ e. count e.entry) (since is_begin (history ++ event ∷ [])) ≡ sum_by (λ e. count e.entry) (since is_begin history) + count event.entry
summed-push count history event other =
    let more = zero-add (count event.entry) in
    ap {A = List Event} (sum_by (λ e. count e.entry)) (since-push is_begin history event other)
    ∙ sum_by-append (λ e. count e.entry) (since is_begin history) (event ∷ [])
    ∙ ap (λ (n : ℕ). sum_by (λ e. count e.entry) (since is_begin history) + n) more

-- an event that counts for nothing leaves the sum
summed-kept : (count : Entry → ℕ) (history : List Event) (event : Event) → is_begin event.entry ≡ false → count event.entry ≡ 0 →
    sum_by (λ e. count e.entry) (since is_begin (history ++ event ∷ [])) ≡ sum_by (λ e. count e.entry) (since is_begin history)
summed-kept count history event other none =
    let more = summed-push count history event other in omega (arith, more, none)

-- right after a beginning nothing is summed up
summed-none : (count : Entry → ℕ) (history : List Event) (event : Event) → is_begin event.entry ≡ true →
    sum_by (λ e. count e.entry) (since is_begin (history ++ event ∷ [])) ≡ 0
summed-none count history event is = ap {A = List Event} (sum_by (λ e. count e.entry)) (since-none is_begin history event is)

-- no cycle more has begun
begun-kept : (history : List Event) (event : Event) → is_begin event.entry ≡ false → begin_count (history ++ event ∷ []) ≡ begin_count history
begun-kept history event other =
    let more = count-push (λ e. is_begin e.entry) history event in
    let none = ap {B = ℕ} (λ (is : Bool). if is then 1 else 0) other in
    omega (arith, more, none)

-- the entry says that cells were made black
abbrev pub is_marking : Entry → Bool
is_marking (Pause visits) = true
is_marking (Visits who visits) = true
is_marking _ = false

-- the entry is one that a log is told of
abbrev pub is_told : Entry → Bool
is_told entry = is_begin entry || (is_end entry || (is_open entry || is_marking entry))

-- what says of no cell that it was made black counts for nothing
unpaused : (entry : Entry) → is_marking entry ≡ false → paused_in entry ≡ 0
unpaused (Call who op reply) none = refl
unpaused (Begin cycle full) none = refl
unpaused (Pause visits) none = absurd (cc)
unpaused (Visits who visits) none = refl
unpaused (End cycle freed) none = refl
unpaused (Taken block) none = refl
unpaused (Sweep block) none = refl
unpaused (Open number run) none = refl

unvisited : (entry : Entry) → is_marking entry ≡ false → visited_in entry ≡ 0
unvisited (Call who op reply) none = refl
unvisited (Begin cycle full) none = refl
unvisited (Pause visits) none = refl
unvisited (Visits who visits) none = absurd (cc)
unvisited (End cycle freed) none = refl
unvisited (Taken block) none = refl
unvisited (Sweep block) none = refl
unvisited (Open number run) none = refl

nothing_told : (history : List Event) (entry : Entry) → is_end entry ≡ false → statistics_at history entry ≡ []
nothing_told history (Call who op reply) none = refl
nothing_told history (Begin cycle full) none = refl
nothing_told history (Pause visits) none = refl
nothing_told history (Visits who visits) none = refl
nothing_told history (End cycle freed) none = absurd (cc)
nothing_told history (Taken block) none = refl
nothing_told history (Sweep block) none = refl
nothing_told history (Open number run) none = refl

ended-kept : (history : List Event) (event : Event) → is_end event.entry ≡ false → statistics_in (history ++ event ∷ []) ≡ statistics_in history
ended-kept history event none =
    statistics_in-push history event
    ∙ ap (λ (more : List CycleStatistics). statistics_in history ++ more) (nothing_told history event.entry none)
    ∙ append-nil (statistics_in history)

left_false : (a b : Bool) → (a || b) ≡ false → a ≡ false
left_false true b neither = absurd (cc)
left_false false b neither = refl

right_false : (a b : Bool) → (a || b) ≡ false → b ≡ false
right_false true b neither = absurd (cc)
right_false false b neither = neither

-- nothing has happened yet
pub HasLogged-nothing : HasLogged [] nothing
HasLogged-nothing = record { ended = refl; begun = refl; full = refl; parts = refl; before = refl; paused = refl; visited = refl }

-- an event that a log isn't told of changes nothing of it
pub HasLogged-other : (history : List Event) (event : Event) (log : Logged) → is_told event.entry ≡ false → HasLogged history log →
    HasLogged (history ++ event ∷ []) log
HasLogged-other history event log untold has =
    let begins = left_false (is_begin event.entry) (is_end event.entry || (is_open event.entry || is_marking event.entry)) untold in
    let others = right_false (is_begin event.entry) (is_end event.entry || (is_open event.entry || is_marking event.entry)) untold in
    let ends = left_false (is_end event.entry) (is_open event.entry || is_marking event.entry) others in
    let rest = right_false (is_end event.entry) (is_open event.entry || is_marking event.entry) others in
    let opens = left_false (is_open event.entry) (is_marking event.entry) rest in
    let marks = right_false (is_open event.entry) (is_marking event.entry) rest in
    record {
      ended = has.ended ∙ sym (ended-kept history event ends);
      begun = has.begun ∙ sym (begun-kept history event begins);
      full = has.full ∙ sym (is_full-kept history event begins);
      parts =
          let more = parts-push history event begins in
          let none = ap {B = ℕ} (λ (is : Bool). if is then 1 else 0) opens in
          let was = has.parts in omega (arith, more, none, was);
      before = has.before ∙ sym (born_before-kept history event begins);
      paused = has.paused ∙ sym (summed-kept paused_in history event begins (unpaused event.entry marks));
      visited = has.visited ∙ sym (summed-kept visited_in history event begins (unvisited event.entry marks));
    }

-- a part was opened
pub HasLogged-opened : (history : List Event) (event : Event) (number run : ℕ) (log : Logged) → event.entry ≡ Open number run → HasLogged history log →
    HasLogged (history ++ event ∷ []) (record log { parts = log.parts + 1 })
HasLogged-opened history event number run log is has =
    let begins = ap is_begin is in
    record {
      ended = has.ended ∙ sym (ended-kept history event (ap is_end is));
      begun = has.begun ∙ sym (begun-kept history event begins);
      full = has.full ∙ sym (is_full-kept history event begins);
      parts =
          let more = parts-push history event begins in
          let one = ap {B = ℕ} (λ (entry : Entry). if is_open entry then 1 else 0) is in
          let was = has.parts in omega (arith, more, one, was);
      before = has.before ∙ sym (born_before-kept history event begins);
      paused = has.paused ∙ sym (summed-kept paused_in history event begins (ap paused_in is));
      visited = has.visited ∙ sym (summed-kept visited_in history event begins (ap visited_in is));
    }

-- what an event that opens, begins and ends nothing leaves but for what was made black
parts-beside : (history : List Event) (event : Event) (log : Logged) → is_begin event.entry ≡ false → is_open event.entry ≡ false → HasLogged history log →
    log.parts ≡ parts_since_begin (history ++ event ∷ [])
parts-beside history event log begins opens has =
    let more = parts-push history event begins in
    let none = ap {B = ℕ} (λ (is : Bool). if is then 1 else 0) opens in
    let was = has.parts in omega (arith, more, none, was)

-- a pause made so many cells black
pub HasLogged-paused : (history : List Event) (event : Event) (visits : ℕ) (log : Logged) → event.entry ≡ Pause visits → HasLogged history log →
    HasLogged (history ++ event ∷ []) (record log { paused = log.paused + visits })
HasLogged-paused history event visits log is has =
    let begins = ap is_begin is in
    record {
      ended = has.ended ∙ sym (ended-kept history event (ap is_end is));
      begun = has.begun ∙ sym (begun-kept history event begins);
      full = has.full ∙ sym (is_full-kept history event begins);
      parts = parts-beside history event log begins (ap is_open is) has;
      before = has.before ∙ sym (born_before-kept history event begins);
      paused =
          let more = summed-push paused_in history event begins in
          let one = ap paused_in is in
          let was = has.paused in omega (arith, more, one, was);
      visited = has.visited ∙ sym (summed-kept visited_in history event begins (ap visited_in is));
    }

-- a visitor told that it made so many cells black
pub HasLogged-visited : (history : List Event) (event : Event) (who visits : ℕ) (log : Logged) → event.entry ≡ Visits who visits → HasLogged history log →
    HasLogged (history ++ event ∷ []) (record log { visited = log.visited + visits })
HasLogged-visited history event who visits log is has =
    let begins = ap is_begin is in
    record {
      ended = has.ended ∙ sym (ended-kept history event (ap is_end is));
      begun = has.begun ∙ sym (begun-kept history event begins);
      full = has.full ∙ sym (is_full-kept history event begins);
      parts = parts-beside history event log begins (ap is_open is) has;
      before = has.before ∙ sym (born_before-kept history event begins);
      paused = has.paused ∙ sym (summed-kept paused_in history event begins (ap paused_in is));
      visited =
          let more = summed-push visited_in history event begins in
          let one = ap visited_in is in
          let was = has.visited in omega (arith, more, one, was);
    }

-- a cycle began, once so many cells were born since the last end
pub HasLogged-begun : (history : List Event) (event : Event) (cycle : ℕ) (full : Bool) (born : ℕ) (log : Logged) → event.entry ≡ Begin cycle full →
    HasLogged history log → born ≡ born_since is_end history →
    HasLogged (history ++ event ∷ []) (record log { begun = log.begun + 1; full = full; parts = 0; before = born; paused = 0; visited = 0 })
HasLogged-begun history event cycle full born log is has all = record {
  ended = has.ended ∙ sym (ended-kept history event (ap is_end is));
  begun =
      let more = count-push (λ e. is_begin e.entry) history event in
      let one = ap {B = ℕ} (λ (entry : Entry). if is_begin entry then 1 else 0) is in
      let was = has.begun in omega (arith, more, one, was);
  full = sym (full_after-push false history event ∙ ap (full_with (is_full history)) is);
  parts = sym (ap (count_by (λ (e : Event). is_open e.entry)) (since-none is_begin history event (ap is_begin is)));
  before = all ∙ sym (born_before-begun history event (ap is_begin is) (ap is_end is) (ap is_birth is));
  paused = sym (summed-none paused_in history event (ap is_begin is));
  visited = sym (summed-none visited_in history event (ap is_begin is));
}

-- the cycle that began last ended, once so many cells were born in it
pub HasLogged-ended : (history : List Event) (event : Event) (freed : List ℕ) (born : ℕ) (log : Logged) → event.entry ≡ End log.begun freed →
    HasLogged history log → born ≡ born_since is_begin history →
    HasLogged (history ++ event ∷ []) (record log { ended = log.ended ++ told_by log born ∷ [] })
HasLogged-ended history event freed born log is has all =
    let begins = ap is_begin is in
    let told : told_by log born ≡ record {
      number = log.begun;
      full = is_full history;
      freezes = parts_since_begin history + 1;
      before = born_before history;
      marking = born_since is_begin history;
      paused = paused_since_begin history;
      visited = visited_since_begin history;
    } = (let a = has.full in let b = has.parts in let c = has.before in let d = has.paused in let e = has.visited in cc) in
    record {
      ended =
          ap (λ (before : List CycleStatistics). before ++ told_by log born ∷ []) has.ended
          ∙ ap (λ (one : CycleStatistics). statistics_in history ++ one ∷ []) told
          ∙ ap (λ (entry : Entry). statistics_in history ++ statistics_at history entry) (sym is)
          ∙ sym (statistics_in-push history event);
      begun = has.begun ∙ sym (begun-kept history event begins);
      full = has.full ∙ sym (is_full-kept history event begins);
      parts =
          let more = parts-push history event begins in
          let none = ap {B = ℕ} (λ (entry : Entry). if is_open entry then 1 else 0) is in
          let was = has.parts in omega (arith, more, none, was);
      before = has.before ∙ sym (born_before-kept history event begins);
      paused = has.paused ∙ sym (summed-kept paused_in history event begins (ap paused_in is));
      visited = has.visited ∙ sym (summed-kept visited_in history event begins (ap visited_in is));
    }

untold_in_part : (entry : Entry) → is_of_part entry ≡ true → is_told entry ≡ false
untold_in_part (Call who op reply) is = refl
untold_in_part (Begin cycle full) is = absurd (cc)
untold_in_part (Pause visits) is = absurd (cc)
untold_in_part (Visits who visits) is = absurd (cc)
untold_in_part (End cycle freed) is = absurd (cc)
untold_in_part (Taken block) is = refl
untold_in_part (Sweep block) is = refl
untold_in_part (Open number run) is = absurd (cc)

-- calls and sweeps of a part change nothing of a log
pub HasLogged-part : (history part : List Event) (log : Logged) → list_all (λ event. is_of_part event.entry) part ≡ true → HasLogged history log →
    HasLogged (history ++ part) log
HasLogged-part history [] log all has = subst (λ (h : List Event). HasLogged h log) (sym (append-nil history)) has
HasLogged-part history (event ∷ part) log all has =
    let (first, others) = and_parts (is_of_part event.entry) (list_all (λ e. is_of_part e.entry) part) all in
    subst (λ (h : List Event). HasLogged h log) (append_assoc history (event ∷ []) part)
    (HasLogged-part (history ++ event ∷ []) part log others (HasLogged-other history event log (untold_in_part event.entry first) has))
