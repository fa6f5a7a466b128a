-- What a count of a history's entries is behind a part, and behind a freeze that is told.
use Rattle.std.proofs.Common.{ℕ, ◌≡◌, ◌+◌, ◌∙◌, refl, sym, ap, add-zero, arith, Bool, true, false, List, [], ◌∷◌, ◌++◌, append_assoc, append-nil, Option, None, Some}
use Rattle.std.proofs.lemmas.Bool.{and_parts}
use Rattle.std.proofs.lemmas.List.Sums.{sum_by-append, sum_by-cons}
use Rattle.std.specs.List.{list_all}
use Rattle.std.specs.Prelude.{count_by, filter, if◌then◌else◌, map, not, sum_by}
use Rattle.tide_model.specs.declared.op.Op.{Op}
use Rattle.tide_model.specs.declared.op.Reply.{Reply}
use Rattle.tide_model.specs.declared.entry.Entry.{Entry}
use Rattle.tide_model.specs.declared.entry.Entry.TheVariants.{Begin, Call, End, Open, Pause, Sweep, Taken, Visits}
use Rattle.tide_model.specs.declared.entry.Event.{Event}
use Rattle.tide_model.specs.Cycle.{begin_count}
use Rattle.tide_model.specs.Freeze.{marks_of, visits_entries}
use Rattle.tide_model.specs.Since.{born_since, is_birth, is_end, is_of_part, is_sweep, since}
use Rattle.tide_model.proofs.SinceLaws.{count-push, since-push}
use Rattle.tide_statistics.specs.declared.told.BegunTold.{BegunTold}
use Rattle.tide_statistics.specs.declared.told.FreezeTold.{FreezeTold}
use Rattle.tide_statistics.specs.declared.told.PauseTold.{PauseTold}
use Rattle.tide_statistics.specs.Statistics.{paused_in, visited_in}
use Rattle.tide_statistics.specs.Sums.{all_born}
use Rattle.tide_statistics.specs.Told.{TellsFreeze, begun_told, on_told, pause_told, unfreed}

-- how many cells the pauses that a freeze tells made black, counted so
abbrev pub on_counted : (ℕ → ℕ) → Option PauseTold → ℕ
on_counted pause None = 0
on_counted pause (Some told) = pause told.visits

abbrev pub begun_counted : (ℕ → ℕ) → Option BegunTold → ℕ
begun_counted pause None = 0
begun_counted pause (Some told) = pause told.pause.visits

-- A count of entries that counts only what visitors and pauses tell, of each so many, and beside a freeze perhaps births.
pub record CountsBlack (count : Entry → ℕ) (visit pause : ℕ → ℕ) : Type 0 where
  pub begins : (cycle : ℕ) (full : Bool) → count (Begin cycle full) ≡ 0
  pub pauses : (visits : ℕ) → count (Pause visits) ≡ pause visits
  pub visits : (who visits : ℕ) → count (Visits who visits) ≡ visit visits
  pub ends : (cycle : ℕ) (freed : List ℕ) → count (End cycle freed) ≡ 0
  pub sweeps : (block : ℕ) → count (Sweep block) ≡ 0

module _ (count : Entry → ℕ) (visit pause : ℕ → ℕ) (counts : CountsBlack count visit pause) where
  -- the entries of some events are counted alike
  counted_entries : (events : List Event) → sum_by (λ event. count event.entry) events ≡ sum_by count (map (λ event. event.entry) events)
  counted_entries [] = refl
  counted_entries (event ∷ events) =
      sum_by-cons (λ e. count e.entry) event events
      ∙ ap (λ (n : ℕ). count event.entry + n) (counted_entries events)
      ∙ sym (sum_by-cons count event.entry (map (λ e. e.entry) events))

  -- sweeps count for nothing
  counted-unswept : (entries : List Entry) → sum_by count (filter (λ entry. not (is_sweep entry)) entries) ≡ sum_by count entries
  counted-unswept [] = refl
  counted-unswept (entry ∷ entries) = step entry (counted-unswept entries)
    where
      rest : List Entry
      rest = filter (λ e. not (is_sweep e)) entries

      same : (e : Entry) → sum_by count rest ≡ sum_by count entries → sum_by count (e ∷ rest) ≡ sum_by count (e ∷ entries)
      same e others = sum_by-cons count e rest ∙ ap (λ (n : ℕ). count e + n) others ∙ sym (sum_by-cons count e entries)

      step : (e : Entry) → sum_by count rest ≡ sum_by count entries →
          sum_by count (filter (λ x. not (is_sweep x)) (e ∷ entries)) ≡ sum_by count (e ∷ entries)
      step (Call who op reply) others = same (Call who op reply) others
      step (Begin cycle full) others = same (Begin cycle full) others
      step (Pause visits) others = same (Pause visits) others
      step (Visits who visits) others = same (Visits who visits) others
      step (End cycle freed) others = same (End cycle freed) others
      step (Taken block) others = same (Taken block) others
      step (Sweep block) others =
          let more = sum_by-cons count (Sweep block) entries in
          let none = counts.sweeps block in omega (arith, more, none, others)
      step (Open number run) others = same (Open number run) others

  -- so do the cells that an end freed
  unfreed_alike : (entry : Entry) → count (unfreed entry) ≡ count entry
  unfreed_alike (Call who op reply) = refl
  unfreed_alike (Begin cycle full) = refl
  unfreed_alike (Pause visits) = refl
  unfreed_alike (Visits who visits) = refl
  unfreed_alike (End cycle freed) = counts.ends cycle [] ∙ sym (counts.ends cycle freed)
  unfreed_alike (Taken block) = refl
  unfreed_alike (Sweep block) = refl
  unfreed_alike (Open number run) = refl

  counted-unfreed : (entries : List Entry) → sum_by count (map unfreed entries) ≡ sum_by count entries
  counted-unfreed [] = refl
  counted-unfreed (entry ∷ entries) =
      let more = sum_by-cons count (unfreed entry) (map unfreed entries) in
      let one = unfreed_alike entry in
      let rest = counted-unfreed entries in
      let all = sum_by-cons count entry entries in omega (arith, more, one, rest, all)

  counted-visits : (who : ℕ) (visits : List ℕ) → sum_by count (visits_entries who visits) ≡ sum_by visit visits
  counted-visits who [] = refl
  counted-visits who (v ∷ visits) =
      let more = sum_by-cons count (Visits who v) (visits_entries (who + 1) visits) in
      let one = counts.visits who v in
      let rest = counted-visits (who + 1) visits in
      let all = sum_by-cons visit v visits in omega (arith, more, one, rest, all)

  counted-pause : (cycle : ℕ) (told : PauseTold) → sum_by count (pause_told cycle told) ≡ pause told.visits
  counted-pause cycle told = step told.ended
    where
      step : (ended : Bool) → sum_by count (pause_told cycle (record { visits = told.visits; ended = ended })) ≡ pause told.visits
      step true =
          let one = counts.pauses told.visits in
          let none = counts.ends cycle [] in omega (arith, one, none)
      step false = let one = counts.pauses told.visits in omega (arith, one)

  counted-on : (begun : ℕ) (told : Option PauseTold) → sum_by count (on_told begun told) ≡ on_counted pause told
  counted-on begun None = refl
  counted-on begun (Some told) = counted-pause begun told

  counted-begun : (begun : ℕ) (told : Option BegunTold) → sum_by count (begun_told begun told) ≡ begun_counted pause told
  counted-begun begun None = refl
  counted-begun begun (Some told) =
      let more = sum_by-cons count (Begin (begun + 1) told.full) (pause_told (begun + 1) told.pause) in
      let none = counts.begins (begun + 1) told.full in
      let rest = counted-pause (begun + 1) told.pause in omega (arith, more, none, rest)

  -- what is counted over a freeze is what it tells
  pub counted-told : (here freeze : List Event) (visits : List ℕ) (told : FreezeTold) → TellsFreeze here freeze visits told →
      sum_by (λ event. count event.entry) (here ++ freeze)
      ≡ sum_by (λ event. count event.entry) here + (sum_by visit visits + (on_counted pause told.went_on + begun_counted pause told.begun))
  counted-told here freeze visits told tells =
      let begun = begin_count here in
      let both = sum_by-append (λ event. count event.entry) here freeze in
      let entries = counted_entries freeze in
      let unswept = counted-unswept (map (λ event. event.entry) freeze) in
      let unfreed = counted-unfreed (marks_of freeze) in
      let same = ap (sum_by count) tells in
      let parts = sum_by-append count (visits_entries 0 visits) (on_told begun told.went_on ++ begun_told begun told.begun) in
      let halves = sum_by-append count (on_told begun told.went_on) (begun_told begun told.begun) in
      let seen = counted-visits 0 visits in
      let on = counted-on begun told.went_on in
      let new = counted-begun begun told.begun in
      omega (arith, both, entries, unswept, unfreed, same, parts, halves, seen, on, new)

-- what counts for nothing
pub sum-none : (visits : List ℕ) → sum_by (λ v. 0) visits ≡ 0
sum-none [] = refl
sum-none (v ∷ visits) = sum-none visits

pub none_on : (told : Option PauseTold) → on_counted (λ v. 0) told ≡ 0
none_on None = refl
none_on (Some told) = refl

pub none_begun : (told : Option BegunTold) → begun_counted (λ v. 0) told ≡ 0
none_begun None = refl
none_begun (Some told) = refl

-- how many births an entry is
abbrev pub birth_in : Entry → ℕ
birth_in entry = if is_birth entry then 1 else 0

pub paused_black : CountsBlack paused_in (λ v. 0) (λ v. v)
paused_black = record {
  begins = λ cycle full. refl;
  pauses = λ visits. refl;
  visits = λ who visits. refl;
  ends = λ cycle freed. refl;
  sweeps = λ block. refl;
}

pub visited_black : CountsBlack visited_in (λ v. v) (λ v. 0)
visited_black = record {
  begins = λ cycle full. refl;
  pauses = λ visits. refl;
  visits = λ who visits. refl;
  ends = λ cycle freed. refl;
  sweeps = λ block. refl;
}

pub births_black : CountsBlack birth_in (λ v. 0) (λ v. 0)
births_black = record {
  begins = λ cycle full. refl;
  pauses = λ visits. refl;
  visits = λ who visits. refl;
  ends = λ cycle freed. refl;
  sweeps = λ block. refl;
}

-- Calls and sweeps of a part make nothing black.
pub unblack_in_part : (count : Entry → ℕ) → ((who : ℕ) (op : Op) (reply : Reply) → count (Call who op reply) ≡ 0) → ((block : ℕ) → count (Taken block) ≡ 0) →
    ((block : ℕ) → count (Sweep block) ≡ 0) → (entry : Entry) → is_of_part entry ≡ true → count entry ≡ 0
unblack_in_part count calls takings sweeps (Call who op reply) is = calls who op reply
unblack_in_part count calls takings sweeps (Begin cycle full) is = absurd (cc)
unblack_in_part count calls takings sweeps (Pause visits) is = absurd (cc)
unblack_in_part count calls takings sweeps (Visits who visits) is = absurd (cc)
unblack_in_part count calls takings sweeps (End cycle freed) is = absurd (cc)
unblack_in_part count calls takings sweeps (Taken block) is = takings block
unblack_in_part count calls takings sweeps (Sweep block) is = sweeps block
unblack_in_part count calls takings sweeps (Open number run) is = absurd (cc)

-- what counts no entry of a part is left by one
pub counted-part : (count : Entry → ℕ) → ((entry : Entry) → is_of_part entry ≡ true → count entry ≡ 0) → (part : List Event) →
    list_all (λ event. is_of_part event.entry) part ≡ true → sum_by (λ event. count event.entry) part ≡ 0
counted-part count none [] all = refl
counted-part count none (event ∷ part) all =
    let (first, others) = and_parts (is_of_part event.entry) (list_all (λ e. is_of_part e.entry) part) all in
    let more = sum_by-cons (λ e. count e.entry) event part in
    let one = none event.entry first in
    let rest = counted-part count none part others in omega (arith, more, one, rest)

-- an entry of a part ends no cycle
unended_in_part : (entry : Entry) → is_of_part entry ≡ true → is_end entry ≡ false
unended_in_part (Call who op reply) is = refl
unended_in_part (Begin cycle full) is = refl
unended_in_part (Pause visits) is = refl
unended_in_part (Visits who visits) is = refl
unended_in_part (End cycle freed) is = absurd (cc)
unended_in_part (Taken block) is = refl
unended_in_part (Sweep block) is = refl
unended_in_part (Open number run) is = refl

-- all births of a part came since the last end
pub born_since-part : (history part : List Event) → list_all (λ event. is_of_part event.entry) part ≡ true →
    born_since is_end (history ++ part) ≡ born_since is_end history + all_born part
born_since-part history [] all =
    ap (born_since is_end) (append-nil history) ∙ sym (add-zero (born_since is_end history))
born_since-part history (event ∷ part) all =
    let (first, others) = and_parts (is_of_part event.entry) (list_all (λ e. is_of_part e.entry) part) all in
    let same = ap (born_since is_end) (append_assoc history (event ∷ []) part) in
    let later = born_since-part (history ++ event ∷ []) part others in
    let pushed = ap {A = List Event} (count_by (λ e. is_birth e.entry)) (since-push is_end history event (unended_in_part event.entry first)) in
    let one = count-push (λ e. is_birth e.entry) (since is_end history) event in
    let all_of = sum_by-cons (λ (e : Event). birth_in e.entry) event part in
    omega (arith, same, later, pushed, one, all_of)
