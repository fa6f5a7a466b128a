-- Where nothing but marking and sweeping came since a cycle began, its end frees just what nothing retains.
use Rattle.std.specs.Prelude.{ℕ, suc, ◌≡◌, ◌<◌, ◌≤◌, ◌==◌, Bool, true, false, ◌↔◌, ◌&&◌, not, List, [], ◌∷◌, ◌++◌, length, take, drop, if◌then◌else◌}
use Rattle.std.proofs.Common.{arith, refl, ap, subst, sym, ◌∙◌, true≢false}
use Rattle.std.proofs.lemmas.Bool.{eqb-true, eqb-false}
use Rattle.std.proofs.lemmas.List.{length-append, map-append, take-append-drop}
use Rattle.tide_model.specs.declared.entry.Entry.{Entry}
use Rattle.tide_model.specs.declared.entry.Entry.TheVariants.{Call, Begin, Pause, Visits, End, Taken, Sweep, Open}
use Rattle.tide_model.specs.declared.entry.Event.{Event}
use Rattle.tide_model.specs.Cycle.{StandsEnd, cycle_span, span_of}
use Rattle.tide_model.specs.Each.{Each}
use Rattle.tide_model.specs.Graph.{Graph, IsRoot, in_register, claimed, in_handle, IsLink, in_slot, in_property, IsTriple, AreGroupMates, IsRetained, IsWithin, graph_of, no_cell, retained_more}
use Rattle.tide_model.specs.History.{after_entry, after_sweep, is_begin, moment_after_last, state_after, state_at}
use Rattle.tide_model.specs.Lawful.{IsLawful, Stands, StandsEntry}
use Rattle.tide_model.specs.Layout.{Layout, block_of_cell}
use Rattle.tide_model.specs.Numbers.{is_among}
use Rattle.tide_model.specs.Old.{IsSpared, full_after, full_with, is_old}
use Rattle.tide_model.specs.Pace.{Pace}
use Rattle.tide_model.specs.Periods.{IsLegal}
use Rattle.tide_model.specs.References.{IsLive}
use Rattle.tide_model.specs.Laws.{FreesTheUnretained}
use Rattle.tide_model.specs.Refused.{ShapeLists}
use Rattle.tide_model.specs.State.{State, live}
use Rattle.tide_model.proofs.Cycles.{take-all}
use Rattle.tide_model.proofs.Histories.{IsLawful-elim, IsLawful-prefix, moment_after_last-push, state_after-push, take-append-short}
use Rattle.tide_model.proofs.ReferencesInCycles.{swept_cell-live}
use Rattle.tide_model.proofs.Retained.{IsWithin-refl, IsWithin-trans}
use Rattle.tide_model.proofs.QuietEnds.{RestsQuietly, entries_of, periods_are_quiet, quiet_after, quiet_after-append}

-- what stands in a span up to now, where each older moment's graph is within the present one
span_within : (layout : Layout) (history : List Event) (event : Event) (from : ℕ) →
    IsWithin (span_of layout history from (length history)) (graph_of (state_after layout (history ++ event ∷ []))) →
    IsWithin (span_of layout (history ++ event ∷ []) from (length (history ++ event ∷ [])))
    (graph_of (state_after layout (history ++ event ∷ [])))
span_within layout history event from older = record {
  roots = λ cell now.
      at_moment (λ s. IsRoot s cell) (λ m early late is. older.roots cell (m, early, late, is)) now.0 now.1 now.2 now.3;
  links = λ source cell now.
      at_moment (λ s. IsLink s source cell) (λ m early late is. older.links source cell (m, early, late, is))
      now.0 now.1 now.2 now.3;
  triples = λ table key cell now.
      at_moment (λ s. IsTriple s table key cell) (λ m early late is. older.triples table key cell (m, early, late, is))
      now.0 now.1 now.2 now.3;
  group_mates = λ one other now.
      at_moment (λ s. AreGroupMates s one other) (λ m early late is. older.group_mates one other (m, early, late, is))
      now.0 now.1 now.2 now.3;
}
  where
    longer : List Event
    longer = history ++ event ∷ []

    at_moment : (Holds : State → Type 0) →
        ((m : ℕ) → from ≤ m → m ≤ length history → Holds (state_at layout history m) →
        Holds (state_after layout longer)) →
        (m : ℕ) → from ≤ m → m ≤ length longer → Holds (state_at layout longer m) → Holds (state_after layout longer)
    at_moment Holds old m early late is = step (m == length longer) refl
      where
        step : (last : Bool) → (m == length longer) ≡ last → Holds (state_after layout longer)
        step true e =
            subst (λ (h : List Event). Holds (state_after layout h))
            (ap (λ (k : ℕ). take k longer) (eqb-true m (length longer) e) ∙ take-all longer) is
        step false e =
            let apart = eqb-false m (length longer) e in
            let size = length-append history (event ∷ []) in
            let sooner : m ≤ length history = omega (arith, late, apart, size) in
            old m early sooner (subst (λ (h : List Event). Holds (state_after layout h))
            (take-append-short history (event ∷ []) m sooner) is)

-- a sweep takes nothing from the graph
sweep_within : (layout : Layout) (state : State) (block : ℕ) →
    IsWithin (graph_of state) (graph_of (after_sweep layout state block))
sweep_within layout state block = record {
  roots = λ cell root. elim root [
    | in_register who register is_active is ↦ in_register who register is_active is
    | claimed who is ↦ claimed who is
    | in_handle handle is ↦ in_handle handle is
  ];
  links = λ source cell link. elim link [
    | in_slot slot alive is ↦
        in_slot slot (lives source alive) (ap (λ c. c.slots slot) (same source alive) ∙ is)
    | in_property place alive below is ↦
        in_property place (lives source alive)
        (subst (λ c. place < length c.keys) (sym (same source alive)) below)
        (ap (λ c. c.properties place) (same source alive) ∙ is)
  ];
  triples = λ table key cell triple. record {
    is_live = lives table triple.is_live;
    has_pair = ap (λ c. c.pairs key) (same table triple.is_live) ∙ triple.has_pair;
  };
  group_mates = λ one other group_mate. record {
    one_is_live = lives one group_mate.one_is_live;
    other_is_live = lives other group_mate.other_is_live;
    same_group =
        ap (λ c. c.group) (same one group_mate.one_is_live) ∙ group_mate.same_group
        ∙ sym (ap (λ c. c.group) (same other group_mate.other_is_live));
    in_a_group = λ none. group_mate.in_a_group (sym (ap (λ c. c.group) (same one group_mate.one_is_live)) ∙ none);
  };
}
  where
    same : (cell : ℕ) → (state.cells cell).status ≡ live →
        (after_sweep layout state block).cells cell ≡ state.cells cell
    same cell alive = swept_cell-live (block_of_cell cell == block) (state.cells cell) alive

    lives : (cell : ℕ) → (state.cells cell).status ≡ live →
        ((after_sweep layout state block).cells cell).status ≡ live
    lives cell alive = ap (λ c. c.status) (same cell alive) ∙ alive

-- nor does an event that only marks or sweeps
quiet_within : (layout : Layout) (history : List Event) (event : Event) (quiet : Bool) →
    quiet_after quiet (event.entry ∷ []) ≡ true → is_begin event.entry ≡ false →
    (quiet ≡ true)
    × IsWithin (graph_of (state_after layout history)) (graph_of (state_after layout (history ++ event ∷ [])))
quiet_within layout history event quiet passes begins_none =
    let (was, within) = by_entry event.entry passes begins_none in (
      was,
      subst (λ (s : State). IsWithin (graph_of (state_after layout history)) (graph_of s))
          (sym (state_after-push layout history event)) within,
    )
  where
    now : State
    now = state_after layout history

    by_entry : (entry : Entry) → quiet_after quiet (entry ∷ []) ≡ true → is_begin entry ≡ false →
        (quiet ≡ true) × IsWithin (graph_of now) (graph_of (after_entry layout now entry event.took))
    by_entry (Call who op reply) was none = absurd (cc)
    by_entry (Begin cycle full) was none = absurd (cc)
    by_entry (Pause visits) was none = (was, IsWithin-refl (graph_of now))
    by_entry (Visits who visits) was none = (was, IsWithin-refl (graph_of now))
    by_entry (End cycle freed) was none = absurd (cc)
    by_entry (Taken block) was none = (was, IsWithin-refl (graph_of now))
    by_entry (Sweep block) was none = (was, sweep_within layout now block)
    by_entry (Open number run) was none = absurd (cc)

-- where nothing but marking and sweeping came since a cycle began, its span is the present graph
quiet_span : (layout : Layout) (shapes : ShapeLists) (history : List Event) → IsLawful layout shapes history →
    quiet_after false (entries_of history) ≡ true →
    IsWithin (cycle_span layout history) (graph_of (state_after layout history))
quiet_span layout shapes =
    IsLawful-elim layout shapes
    (λ history. quiet_after false (entries_of history) ≡ true →
    IsWithin (cycle_span layout history) (graph_of (state_after layout history)))
    (λ quiet. absurd (true≢false (sym quiet))) push
  where
    begins : Event → Bool
    begins event = is_begin event.entry

    push : (before : List Event) (event : Event) →
        (quiet_after false (entries_of before) ≡ true →
        IsWithin (cycle_span layout before) (graph_of (state_after layout before))) →
        Stands layout shapes before event →
        quiet_after false (entries_of (before ++ event ∷ [])) ≡ true →
        IsWithin (cycle_span layout (before ++ event ∷ [])) (graph_of (state_after layout (before ++ event ∷ [])))
    push before event earlier stands quiet = step (is_begin event.entry) refl
      where
        longer : List Event
        longer = before ++ event ∷ []

        now : Graph
        now = graph_of (state_after layout longer)

        last : quiet_after (quiet_after false (entries_of before)) (event.entry ∷ []) ≡ true
        last =
            sym (quiet_after-append false (entries_of before) (event.entry ∷ []))
            ∙ ap (quiet_after false) (sym (map-append (λ e. e.entry) before (event ∷ []))) ∙ quiet

        at : (passes : Bool) → is_begin event.entry ≡ passes →
            (if passes then suc (length before) else moment_after_last begins before) ≡ moment_after_last begins longer
        at passes is =
            sym (moment_after_last-push begins before event
            ∙ ap (λ b. if b then suc (length before) else moment_after_last begins before) is)

        from : (moment : ℕ) → moment ≡ moment_after_last begins longer →
            IsWithin (span_of layout before moment (length before)) now → IsWithin (cycle_span layout longer) now
        from moment same older =
            subst (λ (m : ℕ). IsWithin (span_of layout longer m (length longer)) now) same
            (span_within layout before event moment older)

        none_older : IsWithin (span_of layout before (suc (length before)) (length before)) now
        none_older = record {
          roots = λ cell found. absurd (let early = found.1 in let late = found.2 in omega (arith, early, late));
          links = λ source cell found. absurd (let early = found.1 in let late = found.2 in omega (arith, early, late));
          triples = λ table key cell found.
              absurd (let early = found.1 in let late = found.2 in omega (arith, early, late));
          group_mates = λ one other found. absurd (let early = found.1 in let late = found.2 in omega (arith, early, late));
        }

        step : (passes : Bool) → is_begin event.entry ≡ passes → IsWithin (cycle_span layout longer) now
        step true is = from (suc (length before)) (at true is) none_older
        step false is =
            let (was, within) = quiet_within layout before event (quiet_after false (entries_of before)) last is in
            let old = graph_of (state_after layout before) in
            let older = IsWithin-trans (cycle_span layout before) old now (earlier was) within in
            from (moment_after_last begins before) (at false is) older

-- and that cycle is a full one
quiet_is_full : (quiet full : Bool) (events : List Event) → (quiet ≡ true → full ≡ true) →
    quiet_after quiet (entries_of events) ≡ true → full_after full events ≡ true
quiet_is_full quiet full [] so passes = so passes
quiet_is_full quiet full (event ∷ events) so passes =
    let (next, is_so, rest) = by_entry event.entry passes in
    quiet_is_full next (full_with full event.entry) events is_so rest
  where
    Next : Entry → Type 0
    Next entry = (next : Bool) × (next ≡ true → full_with full entry ≡ true) × (quiet_after next (entries_of events) ≡ true)

    by_entry : (entry : Entry) → quiet_after quiet (entry ∷ entries_of events) ≡ true → Next entry
    by_entry (Begin cycle own) rest = (own, λ is. is, rest)
    by_entry (Pause visits) rest = (quiet, so, rest)
    by_entry (Visits who visits) rest = (quiet, so, rest)
    by_entry (Taken block) rest = (quiet, so, rest)
    by_entry (Sweep block) rest = (quiet, so, rest)
    by_entry (Call who op reply) rest = (false, λ is. absurd (true≢false (sym is)), rest)
    by_entry (End cycle freed) rest = (false, λ is. absurd (true≢false (sym is)), rest)
    by_entry (Open number run) rest = (false, λ is. absurd (true≢false (sym is)), rest)

-- so an end there frees just what nothing retains
pub exact_end : (layout : Layout) (shapes : ShapeLists) (before : List Event) (cycle : ℕ) (freed : List ℕ) →
    IsLawful layout shapes before → quiet_after false (entries_of before) ≡ true → StandsEnd layout before cycle freed →
    (cell : ℕ) → (is_among freed cell ≡ true)
    ↔ (IsLive (state_after layout before) cell × (IsRetained (graph_of (state_after layout before)) no_cell cell → ⊥))
exact_end layout shapes before cycle freed lawful quiet stands cell = (
  λ among. (stands.were_live cell among, λ kept. stands.frees cell among (more cell kept)),
  λ is. by_cases (is_among freed cell) refl is.0 is.1,
)
  where
    now : State
    now = state_after layout before

    -- the roots retain no less where more cells do besides
    more : (c : ℕ) → IsRetained (graph_of now) no_cell c → IsRetained (graph_of now) (IsSpared layout before) c
    more = retained_more (graph_of now) (graph_of now) no_cell (IsSpared layout before) (IsWithin-refl (graph_of now)) (λ c none. absurd none)

    -- a full cycle spares none
    none_spared : (c : ℕ) → IsSpared layout before c → IsRetained (graph_of now) no_cell c
    none_spared c spared =
        absurd (true≢false (sym spared
        ∙ ap (λ b. not b && is_old layout before c) (quiet_is_full false false before (λ is. absurd (true≢false (sym is))) quiet)))

    by_cases : (among : Bool) → is_among freed cell ≡ among → IsLive now cell →
        (IsRetained (graph_of now) no_cell cell → ⊥) → among ≡ true
    by_cases true is alive unretained = refl
    by_cases false is alive unretained =
        let kept = stands.keeps cell alive (λ among. true≢false (sym among ∙ is)) in
        absurd (unretained (retained_more (cycle_span layout before) (graph_of now) (IsSpared layout before) no_cell
        (quiet_span layout shapes before lawful quiet) none_spared cell kept))

pub cycles_are_exact : (pace : Pace) (layout : Layout) (shapes : ShapeLists) (history : List Event) →
    IsLegal pace layout shapes history → pace.trigger ≡ 0 → Each (FreesTheUnretained layout) history
cycles_are_exact pace layout shapes history legal never place event is cycle freed end =
    exact_end layout shapes (take place history) cycle freed
    (IsLawful-prefix layout shapes (take place history) history
    (record { rest = drop place history; joins = take-append-drop place history }) legal.lawful)
    (quiet.ends place event is cycle freed end)
    (subst (λ (entry : Entry). StandsEntry layout shapes (take place history) entry event.took) end
    (legal.lawful place event is)).1
  where
    quiet : RestsQuietly layout history
    quiet = periods_are_quiet pace layout never history legal.scheduled.periods
