-- The collector's steps keep the rule: it freezes, stores words, enters, opens, takes notes in and gives tickets out.
use Rattle.std.proofs.Common.{◌≡◌, ℕ, zero, suc, ◌+◌, ◌≤◌, ◌⊎◌, List, [], ◌∷◌, ◌++◌, length, sym, refl, ap, ◌∙◌, inl, inr, subst, arith, Bool, true, false, set, MatchBool, length-set, append-nil}
use Rattle.std.proofs.lemmas.Bool.{and_parts, cases_Bool, eq-eqb, ne_eqb}
use Rattle.tide_heap.proofs.tide_core.machine_laws.freezes.Progress.{progress}
use Rattle.tide_heap.proofs.tide_core.machine_laws.steps.Paying.{filter_was, in_filter}
use Rattle.tide_heap.proofs.tide_core.machine_laws.steps.StopPlaces.{stop_within}
use Rattle.tide_heap.specs.tide_core.machine.Kind.{index_of_stopped}
use Rattle.tide_heap.specs.tide_core.machine.points.Witness.{IsVisitor}
use Rattle.tide_heap.specs.tide_core.machine.Progress.{HasDone}
use Rattle.tide_heap.specs.Done.{HasDonePart}
use Rattle.std.proofs.lemmas.List.Elements.{filter-append, Contains-append_cases, Contains-append_right}
use Rattle.std.specs.List.{list_all}
use Rattle.std.specs.Prelude.{Contains, ◌<◌, ◌&&◌, filter, if◌then◌else◌, ◌==◌, not}
use Rattle.tide_heap.specs.tide_layout.Region.{word_count, place_in}
use Rattle.tide_heap.specs.tide_layout.declared.region.Region.TheVariants as region
use Rattle.tide_heap.specs.tide_core.wave.FrozenWave.{FrozenWave}
use Rattle.tide_heap.proofs.tide_core.machine_laws.freezes.Entering.{FrozenWith-of}
use Rattle.tide_heap.proofs.tide_core.machine_laws.freezes.Freezing.{FrozenMachine-running, parts_sweep}
use Rattle.tide_heap.proofs.tide_core.machine_laws.freezes.OpeningParts.{RunningWave-opened}
use Rattle.tide_heap.specs.tide_core.machine.Frozen.{FrozenWith, FrozenMachine, MayOpen}
use Rattle.tide_heap.specs.tide_core.machine.RunningWave.{RunningWave}
use Rattle.tide_heap.specs.tide_core.machine.World.{parties, total}
use Rattle.tide_heap.specs.tide_core.declared.machine.view.NotedCalls.{NotedCalls}
use Rattle.tide_heap.specs.tide_core.declared.machine.view.Role.TheVariants.{Collector, Note}
use Rattle.tide_heap.specs.tide_core.declared.machine.view.View.{View}
use Rattle.tide_heap.specs.tide_core.declared.machine.view.NotedVisits.{NotedVisits}
use Rattle.tide_heap.specs.tide_core.machine.points.Marks.{counted_in}
use Rattle.tide_heap.specs.tide_core.machine.points.Seen.{WhoLeftIsInactive}
use Rattle.tide_heap.specs.tide_core.machine.points.Sweeps.{SweptAreBelow, SweptAreTold, TakenAreClean}
use Rattle.tide_model.proofs.Histories.{IsLawful-push}
use Rattle.tide_model.proofs.SinceLaws.{count-push}
use Rattle.tide_model.specs.Cycle.{HasDead}
use Rattle.tide_model.specs.History.{is_call_of, is_open, plain, state_after}
use Rattle.tide_model.specs.Lawful.{IsLawful, Stands}
use Rattle.tide_model.specs.Layout.{Layout}
use Rattle.tide_model.specs.Prefix.{IsPrefix, prefix_refl, prefix_trans, prefix_push}
use Rattle.tide_model.specs.Refused.{ShapeLists}
use Rattle.tide_model.specs.declared.entry.Entry.TheVariants.{Open}
use Rattle.tide_model.specs.declared.entry.Event.{Event}
use Rattle.tide_heap.proofs.Beginnings.{longer_ok, same_lists}
use Rattle.tide_heap.proofs.Births.{all_pass, born_to-none, born_to-quiet, births_few, born_to_all, start-opened, start-push, told_all, told_more, told_none, total_same}
use Rattle.tide_heap.specs.Births.{births_in, born_to, told_births}
use Rattle.tide_model.specs.Since.{SweptWereTaken, TakenAreSwept, born_since, is_of_part, since}
use Rattle.tide_table.proofs.FrozenWords.{FrozenWith-read, FrozenWith-more}
use Rattle.tide_table.proofs.Heeding.{keeps_of, own, mode_of, ok_of, prefix_of, collector_step, continue_part}
use Rattle.tide_heap.proofs.Leaving.{inactive-push, active-push}
use Rattle.tide_heap.proofs.Members.{add_copy, few_parties, party_cases}
use Rattle.tide_table.proofs.Spans.{marks_read, span_of, span_entered}
use Rattle.tide_table.proofs.Tallies.{sum_one, total_few}
use Rattle.tide_heap.specs.Parties.{HasNoted, In, IsParty, longer, tally}
use Rattle.tide_heap.specs.Rule.{AgreesOnPart, KeepsNoted, MemberOk, NoteOk, IsFrozen, IsRunning, Tabled}
use Rattle.tide_heap.specs.Turns.{calls_of, ticket_of, noted, frozen_with, restored, entered_with, open_entry, opened}
use Rattle.tide_heap.proofs.tide_words.heap_laws.HeapLaws.{reads_write, Reads-heap_of}
use Rattle.tide_heap.specs.tide_words.forms.ColourWord.{marks_by}
use Rattle.tide_heap.specs.tide_words.heap.Heap.{Heap, SameIn, write, Reads, heap_of}
use Rattle.tide_heap.specs.tide_words.marking.Colours.{is_marking}
use lib.ListN.{get_elem?}
use mathlib.Core.Option.{some}

-- what stands in a list is its first element or stands after it
first_or_later : {X : Type 0} (x : X) (xs : List X) (y : X) → Contains (x ∷ xs) y → (x ≡ y) ⊎ Contains xs y
first_or_later {X} x xs y a = elim (Contains-append_cases (x ∷ []) xs y a) [ inl here ↦ inl (only here) | inr later ↦ inr later ]
  where
    only : Contains (x ∷ []) y → x ≡ y
    only (zero, below, same) = same
    only (suc k, below, same) = absurd (omega (arith, below))

module _ (layout : Layout) (shapes : ShapeLists) (words : List ℕ) (views : List View) (log : List Event) (me : ℕ)
    (v : View) (k : Tabled layout shapes words views log) (there : get_elem? views me ≡ some v)
    (is : v.role ≡ Collector) where
  kept : KeepsNoted v
  kept = keeps_of layout shapes words views log me v k there is

  ledger_of : tally v.period k.part v.notes ≡ v.visits_told
  ledger_of = subst (λ (x : View). tally x.period k.part x.notes ≡ x.visits_told)
      (sym (own layout shapes words views log me v k there is)) k.visits_told

  told_of : told_births v.period k.part v.notes ≡ v.births
  told_of = subst (λ (x : View). told_births x.period k.part x.notes ≡ x.births)
      (sym (own layout shapes words views log me v k there is)) k.told

  births_of : (i : ℕ) → births_in v.period (k.part i) ≡ born_to i log
  births_of i = subst (λ (x : View). births_in x.period (k.part i) ≡ born_to i log)
      (sym (own layout shapes words views log me v k there is)) (k.births i)

  start_of : v.start ++ since is_open log ≡ log
  start_of = subst (λ (x : View). x.start ++ since is_open log ≡ log)
      (sym (own layout shapes words views log me v k there is)) k.start

  running_mode : v.frozen ≡ false → IsRunning layout shapes words log v k.part
  running_mode e = subst (λ b. MatchBool b (IsFrozen layout shapes words log v k.part)
      (IsRunning layout shapes words log v k.part)) e (mode_of layout shapes words views log me v k there is)

  pub frozen_mode : v.frozen ≡ true → IsFrozen layout shapes words log v k.part
  frozen_mode e = subst (λ b. MatchBool b (IsFrozen layout shapes words log v k.part)
      (IsRunning layout shapes words log v k.part)) e (mode_of layout shapes words views log me v k there is)

  abbrev AllIn : Type 0
  AllIn = (i : ℕ) → IsParty layout i → In i v.notes ⊎ In i v.gone

  -- all in: nobody runs, and the collector has seen all
  all_parked : AllIn → (p : ℕ) → (k.part p).runs ≡ false
  all_parked all_in p = elim (party_cases layout p) [
    | inr stranger ↦ ap (λ (x : View). x.runs) (k.strangers p stranger)
    | inl party ↦ (let o = ok_of layout shapes words views log me v k there is p party in elim (all_in p party) [
      | inr gone ↦ (o.gone gone).1
      | inl is_in ↦ elim (cases_Bool (k.part p).runs) [
        | inl runs ↦ absurd (let later = o.runs runs in let now = (o.noted is_in).0 in let few = o.ticket in
            omega (arith, later, now, few))
        | inr rests ↦ rests
      ]
    ])
  ]

  all_seen : AllIn → log ≡ v.seen
  all_seen all_in = elim k.tip [
    | inl e ↦ e ∙ ap (λ (x : View). x.seen) (sym (own layout shapes words views log me v k there is))
    | inr h ↦ (let o = ok_of layout shapes words views log me v k there is h.0 h.1 in same_lists log v.seen
        (subst (λ (l : List Event). IsPrefix l v.seen) (sym h.2)
        (elim (all_in h.0 h.1) [ inl a ↦ (o.noted a).1 | inr a ↦ (o.gone a).2 ]))
        (prefix_of layout shapes words views log me v k there is))
  ]

  -- who isn't noted counts no visit
  none_else : AllIn → (p : ℕ) → (In p v.notes → ⊥) → counted_in v.period (k.part p) ≡ 0
  none_else all_in p not_in = by_test ((k.part p).begun == v.period)
    where
      no_visits : (k.part p).visits ≡ 0
      no_visits = elim (party_cases layout p) [
        | inr stranger ↦ ap (λ (x : View). x.visits) (k.strangers p stranger)
        | inl party ↦ (let o = ok_of layout shapes words views log me v k there is p party in elim (all_in p party) [
          | inl a ↦ absurd (not_in a)
          | inr a ↦ o.still (o.mutator (o.gone a).0)
        ])
      ]

      by_test : (b : Bool) → (if b then (k.part p).visits else 0) ≡ 0
      by_test true = no_visits
      by_test false = refl

  enough : AllIn → total (counted_in v.period) k.part ≤ v.visits_told
  enough all_in = (let most = total_few (λ p. counted_in v.period (k.part p)) v.notes (none_else all_in) parties in
      let t = ledger_of in omega (arith, most, t))

  -- who isn't noted counts no birth in the part
  none_born : AllIn → (p : ℕ) → (In p v.notes → ⊥) → births_in v.period (k.part p) ≡ 0
  none_born all_in p not_in = elim (party_cases layout p) [
    | inl party ↦ (let o = ok_of layout shapes words views log me v k there is p party in elim (all_in p party) [
      | inl a ↦ absurd (not_in a)
      | inr a ↦ elim (o.over a) [
        | inl is_in ↦ absurd (not_in is_in)
        | inr before ↦ ap {B = ℕ} (λ (b : Bool). if b then (k.part p).born else 0)
            (ne_eqb (k.part p).begun v.period (λ e. omega (arith, e, before)))
      ]
    ])
    | inr stranger ↦ unborn ((k.part p).begun == v.period) (ap (λ (x : View). x.born) (k.strangers p stranger))
  ]
    where
      unborn : (b : Bool) → (k.part p).born ≡ 0 → (if b then (k.part p).born else 0) ≡ 0
      unborn true none = none
      unborn false none = refl

  -- so the notes tell the births of the history since the part was opened
  births_told : AllIn → IsLawful layout shapes log → v.births ≡ born_since is_open log
  births_told all_in lawful = sym told_of ∙ told_all v.period k.part v.notes (none_born all_in)
      ∙ total_same (λ i. births_in v.period (k.part i)) (λ i. born_to i log) parties (λ i below. births_of i)
      ∙ born_to_all layout shapes k.limits log lawful

  -- who is active no more has left for good
  gone_told : AllIn → WhoLeftIsInactive k.part (state_after layout log) → (i : ℕ) → IsParty layout i →
      (state_after layout log).active i ≡ false → In i v.gone
  gone_told all_in left i party none = elim (all_in i party) [
    | inl a ↦ (ok_of layout shapes words views log me v k there is i party).leaves a (left i ∙ ap not none)
    | inr a ↦ a
  ]

  -- what a note told of the history is a beginning of it
  heard_told : (noted : NotedCalls) → IsParty layout noted.who → Contains v.noted_calls noted → IsPrefix noted.seen v.seen
  heard_told noted party a =
      let o = ok_of layout shapes words views log me v k there is noted.who party in
      let q = o.calls noted a refl in
      subst (λ (l : List Event). IsPrefix l v.seen) q.1
      (elim q.0 [ inl b ↦ (o.noted b).1 | inr b ↦ (o.gone b).2 ])

  -- of each participant a note told the calls
  all_noted : v.frozen ≡ false → AllIn → (i : ℕ) → IsParty layout i → HasNoted v i
  all_noted thawed all_in i party = elim (all_in i party) [
    | inl a ↦ kept.noted thawed i a
    | inr a ↦ (let (noted, has, is_who, left) = kept.gone i a in (noted, has, is_who))
  ]

  -- where each note says that its participant has done its part, one of the visitors made a cell black
  progress_told : AllIn → IsRunning layout shapes words log v k.part → v.marks ≡ true → 0 < layout.visitors →
      v.done ≡ true → 0 < v.visits_told
  progress_told all_in run marks visitors done =
      let one = progress layout shapes (record { heap = run.heap; part = k.part; log = log }) run.wave (all_parked all_in)
      (sym run.marks ∙ marks) visitors each in
      let p = one.0 in
      let visitor = one.1 in
      let counted : counted_in v.period (k.part p) ≡ (k.part p).visits =
      ap {B = ℕ} (λ (b : Bool). if b then (k.part p).visits else 0)
      (eq-eqb (k.part p).begun v.period ((member p visitor).began (noted p visitor) done)) in
      let some = sum_one (λ i. counted_in v.period (k.part i)) p v.notes (noted p visitor) in
      let more = one.2 in
      let told = ledger_of in
      omega (arith, counted, some, more, told)
    where
      party : (p : ℕ) → IsVisitor layout p → IsParty layout p
      party p visitor = inr visitor

      member : (p : ℕ) (visitor : IsVisitor layout p) → MemberOk layout v (k.part p) p
      member p visitor = ok_of layout shapes words views log me v k there is p (party p visitor)

      noted : (p : ℕ) → IsVisitor layout p → In p v.notes
      noted p visitor = elim (all_in p (party p visitor)) [
        | inl a ↦ a
        | inr a ↦ absurd (let below = (member p visitor).mutator ((member p visitor).gone a).0 in let m = k.limits.few_mutators in
            let from = visitor.0 in omega (arith, below, m, from))
      ]

      told : (p : ℕ) (visitor : IsVisitor layout p) → AgreesOnPart v (k.part p)
      told p visitor = (member p visitor).told (let o = member p visitor in let b = o.behind in
          let now = (o.noted (noted p visitor)).0 in let few = o.ticket in omega (arith, b, now, few))

      is_done : (p : ℕ) (visitor : IsVisitor layout p) → HasDonePart layout (k.part p) → HasDone layout (k.part p)
      is_done p visitor (inl below) = absurd (let from = visitor.0 in let who = run.wave.known.who p in
          omega (arith, below, from, who))
      is_done p visitor (inr (inl unmarked)) = absurd (let tells = (told p visitor).marks in
          let clash : false ≡ true = sym unmarked ∙ tells ∙ marks in cc)
      is_done p visitor (inr (inr has)) = has

      each : (p : ℕ) → IsVisitor layout p → ((k.part p).begun ≡ run.heap region.Period 0) × (0 < (k.part p).run)
          × HasDone layout (k.part p)
      each p visitor = (
        (member p visitor).began (noted p visitor) done ∙ sym run.period,
        (let some = run.some_run marks visitors in let tells = (told p visitor).run in omega (arith, some, tells)),
        is_done p visitor ((member p visitor).done (noted p visitor) done),
      )

  -- all have stopped: the collector has the words to itself, and they meet the wave at a freeze with the history that
  -- it has seen
  pub freeze_all : v.frozen ≡ false → AllIn → FrozenWith layout shapes (heap_of layout words) v.seen v.visits_told
      × (length words ≡ word_count layout)
      × Tabled layout shapes words (set views me (frozen_with words v)) log
      × (v.seen ≡ v.start ++ since is_open log)
      × (list_all (λ event. is_of_part event.entry) (since is_open log) ≡ true)
      × (v.births ≡ born_since is_open log) × (born_since is_open log ≤ 83886080)
      × ((i : ℕ) → IsParty layout i → (state_after layout v.seen).active i ≡ false → In i v.gone)
      × ((noted : NotedCalls) → IsParty layout noted.who → Contains v.noted_calls noted → IsPrefix noted.seen v.seen)
      × ((noted : NotedCalls) → IsParty layout noted.who → Contains v.noted_calls noted →
      filter (λ event. is_call_of noted.who event.entry) v.seen ≡ noted.mine)
      × (v.marks ≡ true → 0 < layout.visitors → v.done ≡ true → 0 < v.visits_told)
      × ((i : ℕ) → IsParty layout i → In i v.notes →
      heap_of layout words region.Stopped (index_of_stopped layout i) ≡ v.period)
      × (v.marks ≡ is_marking (heap_of layout words))
      × TakenAreSwept (since is_open log) × SweptWereTaken (since is_open log)
      × ((i : ℕ) → IsParty layout i → HasNoted v i)
  freeze_all thawed all_in =
      let run = running_mode thawed in
      let seen = all_seen all_in in
      let machine : FrozenMachine layout shapes (record { heap = run.heap; part = k.part; log = log })
      (total (counted_in (run.heap region.Period 0)) k.part) =
      FrozenMachine-running layout shapes (record { heap = run.heap; part = k.part; log = log }) run.wave
      (all_parked all_in) in
      let parts = parts_sweep layout shapes (record { heap = run.heap; part = k.part; log = log }) run.wave (all_parked all_in) in (
        FrozenWith-more layout shapes (heap_of layout words) v.seen (total (counted_in v.period) k.part) v.visits_told
            (enough all_in)
            (subst (λ (n : ℕ). FrozenWith layout shapes (heap_of layout words) v.seen (total (counted_in n) k.part))
            run.period
            (subst (λ (l : List Event). FrozenWith layout shapes (heap_of layout words) l
            (total (counted_in (run.heap region.Period 0)) k.part)) seen
            (FrozenWith-read layout shapes words run.heap log (total (counted_in (run.heap region.Period 0)) k.part)
            run.reads machine.wave))),
        run.reads.all_words,
        continue_part layout shapes words views log me v k there is (frozen_with words v) words log
            record {
              role = is;
              next = refl;
              period = refl;
              marks = refl;
              cycle = refl;
              mark_version = refl;
              run = refl;
              seen = prefix_refl v.seen;
              visits_told = ledger_of;
              told = told_of;
              start = refl;
              kept = λ i a. a;
              done = λ e. e;
              keeps = record { noted = λ thaws. absurd (cc); gone = kept.gone };
              out = λ j x at role seat none a. none a;
              notes = λ i l a. inl a;
              stays = λ i a. a;
              calls = λ i l noted a e. inl a;
              gone = λ i l a. inl a;
            }
            (prefix_refl log) (prefix_of layout shapes words views log me v k there is) k.retired (inl seen)
            (λ i. refl) start_of
            record {
              words_are = refl;
              long = run.reads.all_words;
              seen_all = seen;
              lawful = run.wave.lawful;
              counts = sym run.period ∙ run.wave.numbers.periods;
              span = span_of layout run.heap log
                  (λ marks. sym (marks_read layout shapes run.heap log machine.wave.marking.reads) ∙ marks) run.wave.span;
              known = run.wave.known;
              begun = λ p. (let b = run.wave.numbers.begun p in let now = run.period in omega (arith, b, now));
              left = run.wave.left;
              empty = run.wave.parked;
              stops = λ p party. run.reads.each region.Stopped (index_of_stopped layout p) (stop_within layout p party)
                  ∙ run.wave.stops p party;
              all_in = all_in;
            },
        sym seen ∙ sym start_of,
        all_pass (λ event. is_of_part event.entry) (since is_open log) run.wave.part_alone,
        births_told all_in run.wave.lawful,
        births_few layout shapes k.limits log run.wave.lawful run.wave.part_alone,
        λ i party left. gone_told all_in run.wave.left i party
            (subst (λ (l : List Event). (state_after layout l).active i ≡ false) (sym seen) left),
        heard_told,
        λ noted party a. (let q = (ok_of layout shapes words views log me v k there is noted.who party).calls noted a refl in
            ap (filter (λ event. is_call_of noted.who event.entry)) (sym seen) ∙ run.wave.known.own noted.who ∙ q.2),
        progress_told all_in run,
        λ i party a. run.reads.each region.Stopped (index_of_stopped layout i) (stop_within layout i party)
            ∙ run.wave.stops i party ∙ (ok_of layout shapes words views log me v k there is i party).halted a,
        run.marks ∙ sym (ap marks_by (run.reads.each region.Phase 0 (omega arith))),
        parts.0,
        parts.1,
        λ i party. all_noted thawed all_in i party,
      )

  -- a store of the collector while frozen
  pub frozen_store : (at x : ℕ) → v.frozen ≡ true → Tabled layout shapes (set words at x) (set views me (restored at x v)) log
  frozen_store at x shut =
      let now = frozen_mode shut in
      continue_part layout shapes words views log me v k there is (restored at x v) (set words at x) log
      record {
        role = is;
        next = refl;
        period = refl;
        marks = refl;
        cycle = refl;
        mark_version = refl;
        run = refl;
        seen = prefix_refl v.seen;
        visits_told = ledger_of;
        told = told_of;
        start = refl;
        kept = λ i a. a;
        done = λ e. e;
        keeps = record { noted = kept.noted; gone = kept.gone };
        out = λ j x at role seat none a. none a;
        notes = λ i l a. inl a;
        stays = λ i a. a;
        calls = λ i l noted a e. inl a;
        gone = λ i l a. inl a;
      }
      (prefix_refl log) (prefix_of layout shapes words views log me v k there is) k.retired (inl now.seen_all)
      (λ i. refl) start_of
      (subst (λ b. MatchBool b (IsFrozen layout shapes (set words at x) log (restored at x v) k.part)
      (IsRunning layout shapes (set words at x) log (restored at x v) k.part)) (sym shut)
      record {
        words_are = ap (λ ws. set ws at x) now.words_are;
        long = length-set words at x ∙ now.long;
        seen_all = now.seen_all;
        lawful = now.lawful;
        counts = now.counts;
        span = now.span;
        known = now.known;
        begun = now.begun;
        left = now.left;
        empty = now.empty;
        stops = now.stops;
        all_in = now.all_in;
      })

  -- an entry of the collector's own, which leaves some visits to be entered
  pub enter : (event : Event) (left : List NotedVisits) → v.frozen ≡ true → Stands layout shapes v.seen event →
      ((p : ℕ) → is_call_of p event.entry ≡ false) → is_open event.entry ≡ false →
      Tabled layout shapes words (set views me (record (entered_with event v) { visited = left })) (log ++ event ∷ [])
  enter event left shut stands no_call no_open =
      let now = frozen_mode shut in
      let w = record (entered_with event v) { visited = left } in
      let seen : log ++ event ∷ [] ≡ w.seen = ap (λ (l : List Event). l ++ event ∷ []) now.seen_all in
      continue_part layout shapes words views log me v k there is w words (log ++ event ∷ [])
      record {
        role = is;
        next = refl;
        period = refl;
        marks = refl;
        cycle = refl;
        mark_version = refl;
        run = refl;
        seen = prefix_push v.seen event;
        visits_told = ledger_of;
        told = told_of;
        start = refl;
        kept = λ i a. a;
        done = λ e. e;
        keeps = record { noted = kept.noted; gone = kept.gone };
        out = λ j x at role seat none a. none a;
        notes = λ i l a. inl a;
        stays = λ i a. a;
        calls = λ i l noted a e. inl a;
        gone = λ i l a. inl a;
      }
      (prefix_push log event)
      (subst (λ (l : List Event). IsPrefix l (log ++ event ∷ [])) seen (prefix_refl (log ++ event ∷ [])))
      (λ i left. inactive-push layout log event i (k.retired i left)) (inl seen)
      (λ i. born_to-quiet i log event no_open (no_call i)) (start-push v.start log event no_open start_of)
      (subst (λ b. MatchBool b (IsFrozen layout shapes words (log ++ event ∷ []) w k.part)
      (IsRunning layout shapes words (log ++ event ∷ []) w k.part)) (sym shut)
      record {
        words_are = now.words_are;
        long = now.long;
        seen_all = seen;
        lawful = IsLawful-push layout shapes log event now.lawful
            (subst (λ (l : List Event). Stands layout shapes l event) (sym now.seen_all) stands);
        counts = (let counted = count-push (λ (e : Event). is_open e.entry) log event in
            let none = ap {B = ℕ} (λ (b : Bool). if b then 1 else 0) no_open in
            let before = now.counts in
            omega (arith, counted, none, before));
        span = span_entered layout shapes log event.took now.span event.entry no_call
            (IsLawful-push layout shapes log event now.lawful
            (subst (λ (l : List Event). Stands layout shapes l event) (sym now.seen_all) stands));
        known = record {
          who = now.known.who;
          seen = λ p. prefix_trans (k.part p).seen log (log ++ event ∷ []) (now.known.seen p) (prefix_push log event);
          own = λ p. filter-append (λ (e : Event). is_call_of p e.entry) log (event ∷ [])
              ∙ ap (λ (b : Bool). filter (λ (e : Event). is_call_of p e.entry) log ++ (if b then event ∷ [] else []))
              (no_call p)
              ∙ append-nil (filter (λ (e : Event). is_call_of p e.entry) log) ∙ now.known.own p;
          told = now.known.told;
        };
        begun = now.begun;
        left = λ p. now.left p ∙ ap not (sym (active-push layout log event p (no_call p)));
        empty = now.empty;
        stops = now.stops;
        all_in = now.all_in;
      })

  -- the next part is opened where the words meet the wave at a freeze, with nothing left to enter
  pub open_next : (run : ℕ) → v.frozen ≡ true → FrozenWave layout shapes (heap_of layout v.words) v.seen →
      SweptAreBelow layout (heap_of layout v.words) → SweptAreTold layout (heap_of layout v.words) v.seen →
      TakenAreClean layout (heap_of layout v.words) (state_after layout v.seen) →
      SameIn layout region.Stopped (heap_of layout v.stood) (heap_of layout v.words) →
      MayOpen layout (heap_of layout v.words) run →
      Tabled layout shapes (set words (place_in layout region.Period 0) (v.period + 1)) (set views me (opened layout run v))
      (log ++ open_entry run v ∷ [])
  open_next run shut owed swept told clean same may =
      let now = frozen_mode shut in
      let w = opened layout run v in
      let event = open_entry run v in
      let all_in : AllIn = now.all_in in
      let heap : Heap = heap_of layout v.words in
      let seen : log ++ event ∷ [] ≡ w.seen = ap (λ (l : List Event). l ++ event ∷ []) now.seen_all in
      let reads : Reads layout words heap = subst (λ (ws : List ℕ). Reads layout ws heap) (sym now.words_are)
      (Reads-heap_of layout v.words (ap length (sym now.words_are) ∙ now.long)) in
      let met = subst (λ (l : List Event). FrozenWave layout shapes heap l) (sym now.seen_all) owed in
      let wave = RunningWave-opened layout shapes (record { heap = heap; part = k.part; log = log }) run record {
        wave = FrozenWith-of layout shapes heap log now.lawful
            (now.span heap (λ marks. marks_read layout shapes heap log met.marking.reads ∙ marks)) swept
            (λ block within taken has. clean block within taken
            (subst (λ (l : List Event). HasDead layout (state_after layout l) block) now.seen_all has))
            (subst (λ (l : List Event). SweptAreTold layout heap l) (sym now.seen_all) told) met;
        known = now.known;
        begun = λ p. (let b = now.begun p in let counts = now.counts in let period = met.period in
            omega (arith, b, counts, period));
        left = now.left;
        stopped = all_parked all_in;
        parked = now.empty;
        stops = λ p party. same (index_of_stopped layout p) (stop_within layout p party) ∙ now.stops p party;
      } may in
      collector_step layout shapes words views log me v k there is w
      (set words (place_in layout region.Period 0) (v.period + 1)) (log ++ event ∷ []) is (omega arith) refl
      (prefix_push log event)
      (λ j x at role l h. record {
        behind = h.behind;
        now = λ e. absurd (not_now x l h.behind e);
        one = λ e. absurd (not_now x l h.behind e);
        began = λ e. absurd (not_now x l h.behind e);
        done = λ e. absurd (not_now x l h.behind e);
        out = λ e a. absurd a;
      })
      (λ x h e. absurd (let a = h.behind in omega (arith, a, e)))
      (λ i l. let o = ok_of layout shapes words views log me v k there is i l in record {
        role = o.role;
        behind = o.behind;
        close = elim (all_in i l) [ inl a ↦ inr (let b = (o.noted a).0 in omega (arith, b)) | inr a ↦ inl a ];
        ticket = (let t = o.ticket in omega (arith, t));
        runs = o.runs;
        told = λ e. absurd (let t = o.ticket in omega (arith, t, e));
        still = o.still;
        mutator = o.mutator;
        earlier = o.earlier;
        heard = o.heard;
        ended = o.ended;
        halted = λ a. absurd a;
        calls = λ noted a e. (let kept = filter_was (λ (x : NotedCalls). x.left) v.noted_calls noted a in
            let q = o.calls noted kept.0 e in
            (inr (elim q.0 [ inl b ↦ o.leaves b (q.3 ∙ kept.1) | inr b ↦ b ]), q.1, q.2, q.3));
        noted = λ a. absurd a;
        gone = λ a. (let g = o.gone a in
            (g.0, g.1, prefix_trans (k.part i).seen v.seen w.seen g.2 (prefix_push v.seen event), g.3));
        over = λ a. inr (let b = now.begun i in omega (arith, b));
        leaves = λ a. absurd a;
        began = λ a. absurd a;
        done = λ a. absurd a;
      })
      (record {
        noted = λ thawed i a. absurd a;
        gone = λ i a. (let (noted, has, is_who, left) = kept.gone i a in
            (noted, in_filter (λ (x : NotedCalls). x.left) v.noted_calls noted left has, is_who, left));
      })
      (subst (λ (l : List Event). IsPrefix l (log ++ event ∷ [])) seen (prefix_refl (log ++ event ∷ [])))
      (λ i left. inactive-push layout log event i (k.retired i left)) (inl seen) refl
      (λ i. not_begun (k.part i) (now.begun i) ∙ sym (born_to-none i log event refl))
      (told_none (v.period + 1) k.part)
      (subst (λ (l : List Event). l ++ since is_open (log ++ event ∷ []) ≡ log ++ event ∷ []) seen (start-opened log event refl))
      record {
        heap = write heap region.Period 0 (v.period + 1);
        reads = reads_write layout words heap region.Period 0 (v.period + 1) reads (omega arith);
        wave = subst (λ (n : ℕ). RunningWave layout shapes (record {
          heap = write heap region.Period 0 (n + 1);
          part = k.part;
          log = log ++ plain (Open (n + 1) run) ∷ [];
        })) (sym now.counts) wave;
        period = refl;
        marks = refl;
        cycle = refl;
        based = refl;
        some_run = λ marks visitors. (may marks visitors).0;
      }
    where
      not_now : (x : View) → IsParty layout x.who → x.period ≤ (k.part x.who).period → x.period ≡ v.period + 1 → ⊥
      not_now x l behind e = (let o = ok_of layout shapes words views log me v k there is x.who l in
          let b = o.behind in let c = o.ticket in omega (arith, behind, b, c, e))

      not_begun : (x : View) → x.begun ≤ v.period → births_in (v.period + 1) x ≡ 0
      not_begun x few = ap {B = ℕ} (λ (b : Bool). if b then x.born else 0)
          (ne_eqb x.begun (v.period + 1) (λ e. omega (arith, e, few)))

  -- it takes in a note of the part that is open
  pub note_in : (u : View) (other : ℕ) → v.frozen ≡ false → IsParty layout u.who →
      NoteOk layout v (k.part u.who) (k.note_at u.who) other u → u.period ≡ v.period →
      ((x : View) → get_elem? views other ≡ some x → x.role ≡ Note → ⊥) →
      Tabled layout shapes words (set views me (noted v u)) log
  note_in u other thawed party note now_part spent =
      let run = running_mode thawed in
      let o = ok_of layout shapes words views log me v k there is u.who party in
      let same = note.now now_part in
      let period : (k.part u.who).period ≡ v.period = (let a = note.behind in let b = o.behind in let c = o.ticket in
      omega (arith, a, b, c, now_part)) in
      let heard : IsPrefix u.seen log = subst (λ (l : List Event). IsPrefix l log) same.0 (run.wave.known.seen u.who) in
      let long = longer_ok log v.seen u.seen (prefix_of layout shapes words views log me v k there is) heard in
      let all : IsPrefix (k.part u.who).seen (longer v.seen u.seen) =
      subst (λ (l : List Event). IsPrefix l (longer v.seen u.seen)) (sym same.0) long.other in
      let stopped : (k.part u.who).runs ≡ false = elim (cases_Bool (k.part u.who).runs) [
        | inl runs ↦ absurd (let later = o.runs runs in let few = o.ticket in omega (arith, later, few, period))
        | inr rests ↦ rests
      ] in
      continue_part layout shapes words views log me v k there is (noted v u) words log record {
        role = is;
        next = refl;
        period = refl;
        marks = refl;
        cycle = refl;
        mark_version = refl;
        run = refl;
        seen = long.one;
        visits_told = (let t = ledger_of in
            let one : counted_in v.period (k.part u.who) ≡ (if u.begun == v.period then u.visits else 0) =
            ap (λ (x : ℕ × ℕ). if x.0 == v.period then x.1 else 0) (λ i. (same.3 i, same.2 i)) in omega (arith, t, one));
        told = (let t = told_of in
            let more = told_more v.period k.part u.who v.notes (few_parties layout k.limits u.who party) (note.out now_part) in
            let one : births_in v.period (k.part u.who) ≡ (if u.begun == v.period then u.born else 0) =
            ap (λ (x : ℕ × ℕ). if x.0 == v.period then x.1 else 0) (λ i. (same.3 i, same.5 i)) in omega (arith, t, more, one));
        start = refl;
        kept = λ i a. inr a;
        done = λ e. (and_parts v.done u.done e).0;
        keeps = record { noted = λ runs i a. now_noted i a; gone = λ i a. now_gone u.left refl i a };
        out = λ j x at role seat none a. elim a [
          | inl e ↦ spent x (subst (λ (i : ℕ). get_elem? views i ≡ some x)
              (sym seat ∙ ap k.note_at e ∙ note.one now_part) at) role
          | inr b ↦ none b
        ];
        notes = λ i l a. elim a [
          | inl e ↦ inr (subst (λ (j : ℕ). ((k.part j).period ≡ v.period) × IsPrefix (k.part j).seen (longer v.seen u.seen)
              × ((k.part j).left ≡ true → In j (if u.left then u.who ∷ v.gone else v.gone))
              × ((v.done && u.done) ≡ true → ((k.part j).begun ≡ v.period) × HasDonePart layout (k.part j))
              × ((k.part j).stopped ≡ v.period))
              (sym e) (
                period,
                all,
                λ left. subst (λ (b : Bool). In u.who (if b then u.who ∷ v.gone else v.gone)) (sym left ∙ same.1) (inl refl),
                λ done. (note.began now_part, (note.done now_part).0 (and_parts v.done u.done done).1),
                o.ended stopped ∙ note.began now_part,
              ))
          | inr b ↦ inl b
        ];
        stays = λ i a. by_left u.left i a;
        calls = λ i l noted a e. elim (first_or_later (calls_of u) v.noted_calls noted a) [
          | inl told ↦ inr (subst (λ (x : ℕ × NotedCalls). (In x.0 (u.who ∷ v.notes)
              ⊎ In x.0 (if u.left then u.who ∷ v.gone else v.gone)) × ((k.part x.0).seen ≡ x.1.seen)
              × ((k.part x.0).mine ≡ x.1.mine) × ((k.part x.0).left ≡ x.1.left))
              (λ j. ((ap (λ (y : NotedCalls). y.who) told ∙ e) j, told j))
              (inl (inl refl), same.0, same.4, same.1))
          | inr b ↦ inl b
        ];
        gone = λ i l a. elim (gone_cases u.left refl i a) [
          | inl b ↦ inl b
          | inr b ↦ inr (subst (λ (j : ℕ). ((k.part j).left ≡ true) × ((k.part j).runs ≡ false)
              × IsPrefix (k.part j).seen (longer v.seen u.seen) × ((k.part j).ticket ≤ (k.part j).period)
              × In j (u.who ∷ v.notes)) (sym b.0)
              (same.1 ∙ b.1, stopped, all, (let c = o.ticket in omega (arith, c, period)), inl refl))
        ];
      } (prefix_refl log) long.whole k.retired
      (inr (
        refl,
        λ h. same_lists log (longer v.seen u.seen)
            (subst (λ (l : List Event). IsPrefix l (longer v.seen u.seen)) (sym h) long.one) long.whole,
      ))
      (λ i. refl) start_of
      (subst (λ b. MatchBool b (IsFrozen layout shapes words log (noted v u) k.part)
      (IsRunning layout shapes words log (noted v u) k.part)) (sym thawed)
      record {
        heap = run.heap;
        reads = run.reads;
        wave = run.wave;
        period = run.period;
        marks = run.marks;
        cycle = run.cycle;
        based = run.based;
        some_run = run.some_run;
      })
    where
      still_noted : (told : NotedCalls) → Contains v.noted_calls told → Contains (calls_of u ∷ v.noted_calls) told
      still_noted told a = Contains-append_right (calls_of u ∷ []) v.noted_calls told a

      just_noted : Contains (calls_of u ∷ v.noted_calls) (calls_of u)
      just_noted = (0, omega arith, refl)

      now_noted : (i : ℕ) → In i (u.who ∷ v.notes) → HasNoted (noted v u) i
      now_noted i (inl here) = (calls_of u, just_noted, sym here)
      now_noted i (inr before) = (let (told, has, is_who) = kept.noted thawed i before in (told, still_noted told has, is_who))

      still_gone : (i : ℕ) → In i v.gone → (told : NotedCalls) × Contains (calls_of u ∷ v.noted_calls) told
          × (told.who ≡ i) × (told.left ≡ true)
      still_gone i a = (let (told, has, is_who, left) = kept.gone i a in (told, still_noted told has, is_who, left))

      now_gone : (b : Bool) → u.left ≡ b → (i : ℕ) → In i (if b then u.who ∷ v.gone else v.gone) →
          (told : NotedCalls) × Contains (calls_of u ∷ v.noted_calls) told × (told.who ≡ i) × (told.left ≡ true)
      now_gone true left i (inl here) = (calls_of u, just_noted, sym here, left)
      now_gone true left i (inr before) = still_gone i before
      now_gone false left i a = still_gone i a

      by_left : (b : Bool) (i : ℕ) → In i v.gone → In i (if b then u.who ∷ v.gone else v.gone)
      by_left true i a = inr a
      by_left false i a = a

      gone_cases : (b : Bool) → u.left ≡ b → (i : ℕ) → In i (if b then u.who ∷ v.gone else v.gone) →
          In i v.gone ⊎ ((i ≡ u.who) × (u.left ≡ true))
      gone_cases true e i (inl h) = inr (h, e)
      gone_cases true e i (inr h) = inl h
      gone_cases false e i h = inl h

  -- its ticket
  pub ticket_split : Tabled layout shapes words (views ++ ticket_of v ∷ []) log
  ticket_split = add_copy layout shapes words views log (ticket_of v) k record {
    behind = (let e = ap (λ (x : View). x.period) (own layout shapes words views log me v k there is) in omega (arith, e));
    prefix = prefix_of layout shapes words views log me v k there is;
    told = λ _. record {
      marks = ap (λ (x : View). x.marks) (own layout shapes words views log me v k there is);
      cycle = ap (λ (x : View). x.cycle) (own layout shapes words views log me v k there is);
      mark_version = ap (λ (x : View). x.mark_version) (own layout shapes words views log me v k there is);
      run = ap (λ (x : View). x.run) (own layout shapes words views log me v k there is);
    };
  }
