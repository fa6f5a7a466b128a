-- A whole cycle stands after any call, ends in time, and leaves all swept.
use Rattle.std.proofs.Common.{ℕ, zero, suc, ◌≡◌, ◌+◌, ◌≤◌, ◌<◌, refl, sym, ◌∙◌, ap, subst, arith, Bool, true, false, List, [], ◌∷◌, ◌++◌, append_assoc, append-nil, add-zero, length, drop, true≢false}
use Rattle.std.proofs.lemmas.List.{map-append}
use Rattle.std.specs.List.{list_all}
use Rattle.std.specs.Prelude.{map, not, ◌||◌, ◌↔◌, if◌then◌else◌, count_by, sum_by, ◌&&◌}
use Rattle.std.proofs.lemmas.Bool.{and_from}
use Rattle.std.proofs.lemmas.List.Folds.{list_all-append}
use Rattle.tide_model.proofs.OldLaws.{full_after-push}
use Rattle.tide_model.specs.Old.{IsSpared, is_full, is_old}
use Rattle.tide_model.specs.declared.entry.Entry.TheVariants.{Begin, Pause, End, Sweep}
use Rattle.tide_model.specs.declared.entry.Event.{Event}
use Rattle.tide_model.specs.Layout.{Layout, cell_count}
use Rattle.tide_model.specs.Lawful.{IsLawful, Stands}
use Rattle.tide_model.specs.Numbers.{is_among, numbers_where}
use Rattle.tide_model.specs.Periods.{EndsInTime, open_count}
use Rattle.tide_model.specs.Refused.{ShapeLists}
use Rattle.tide_model.specs.Each.{Each}
use Rattle.tide_model.specs.Since.{born_since, is_birth, is_end, is_taken, since, visits_in, visits_since}
use Rattle.tide_model.specs.State.{State, CellState, Status, Phase, idle, free, live, spent, dead, is_live, is_dead, marking, blank_cell}
use Rattle.tide_model.specs.Graph.{graph_of, IsRetained, is_further, no_cell, retained_more, IsClosed}
use Rattle.tide_model.specs.History.{plain, state_from, state_after, after_event, after_end, swept_all, swept_cell, swept_status, is_this_array, is_array_of, unless_spent, is_begin, is_open}
use Rattle.tide_model.specs.Cycle.{HasDead, dead_cell, dead_array, StandsEnd, begin_count, cycle_span, live_count, IsSwept, StaysLive}
use Rattle.tide_model.proofs.NumberLaws.{below_and_passes, passing_is_among, count_where-same}
use Rattle.tide_model.proofs.Histories.{IsLawful-push, push_cases, state_from-append, state_after-push, moment_after_last-push}
use Rattle.tide_model.proofs.LawfulReferences.{RefsAreLive-lawful}
use Rattle.tide_model.proofs.Retained.{IsClosed-kept, IsWithin-refl}
use Rattle.tide_model.proofs.Spans.{graph_in_cycle_span}
use Rattle.tide_model.proofs.Cycles.{state_from-sweeps, phase_within}
use Rattle.tide_model.proofs.ReferencesInCycles.{state_from-swept_in_layout}
use Rattle.tide_layout.specs.Region.{block_count}
use Rattle.tide_plain.specs.collect.Collecting.{IsFreed, IsDeadWithin}
use Rattle.tide_periods.proofs.RecordedLaws.{TookNone-push}
use Rattle.tide_report.specs.Ends.{TellsEnds}
use Rattle.tide_report.specs.Reports.{Reported, with_line}
use Rattle.tide_report.proofs.EndLaws.{TellsEnds-end, TellsEnds-other, TellsEnds-part, TellsEnds-room}
use Rattle.tide_periods.specs.Store.{Setting, blocks_in}
use Rattle.tide_periods.specs.Recorded.{IsSettled, RanCycle, Recorded, StandsIdle, TookNone}
use Rattle.tide_model.proofs.SinceLaws.{count-push}

-- what the end of a cycle leaves doesn't depend on the phase
pub after_end-phase : (state : State) (phase : Phase) (freed : List ℕ) → after_end (record state { phase = phase }) freed ≡ after_end state freed
after_end-phase state phase freed = λ i. record (after_end state freed) {
  arrays = λ array. if same freed array i then dead else unless_spent (state.arrays array);
}
  where
    same : (cells : List ℕ) (array : ℕ) → is_array_of (record state { phase = phase }) cells array ≡ is_array_of state cells array
    same [] array = refl
    same (cell ∷ cells) array = ap (λ (b : Bool). is_this_array (state.cells cell).array array || b) (same cells array)

-- a collection's facts: what was freed, which blocks were swept, and how many cells are kept
pub record IsCollected (layout : Layout) (state : State) (freed : List ℕ) (is_swept : ℕ → Bool) (kept : ℕ) : Type 0 where
  pub is_freed : IsFreed state no_cell freed
  pub within : IsDeadWithin layout (after_end state freed)
  pub swept : (block : ℕ) → block < block_count layout → (is_swept block ≡ true) ↔ HasDead layout (after_end state freed) block
  pub is_kept : kept ≡ live_count layout (swept_all (after_end state freed))

-- the blocks that were swept
abbrev pub swept_blocks : Layout → (ℕ → Bool) → List ℕ
swept_blocks layout is_swept = numbers_where is_swept (block_count layout)

not_among_itself : (test : ℕ → Bool) (n : ℕ) → is_among (numbers_where test n) n ≡ false
not_among_itself test n = step (is_among (numbers_where test n) n) refl
  where
    step : (b : Bool) → is_among (numbers_where test n) n ≡ b → b ≡ false
    step true is = absurd (let l = (below_and_passes test n n is).0 in omega (arith, l))
    step false is = refl

-- a block with something dead is one of the layout
HasDead-below : (layout : Layout) (state : State) (block : ℕ) → HasDead layout state block → block < block_count layout
HasDead-below layout state block (dead_cell cell below at is) = omega arith
HasDead-below layout state block (dead_array array below at is) = omega arith

-- a block has its dead cells and arrays until it is swept
HasDead-unswept : (layout : Layout) (state : State) (blocks : List ℕ) (block : ℕ) → is_among blocks block ≡ false → HasDead layout state block →
    HasDead layout (state_from layout state (map (λ b. plain (Sweep b)) blocks)) block
HasDead-unswept layout state blocks block unswept (dead_cell cell below at is) =
    dead_cell cell below at
    (ap (λ (s : State). (s.cells cell).status) (state_from-sweeps layout state blocks)
    ∙ ap (λ (b : Bool). (swept_cell b (state.cells cell)).status) (ap (is_among blocks) at ∙ unswept)
    ∙ is)
HasDead-unswept layout state blocks block unswept (dead_array array below at is) =
    dead_array array below at
    (ap (λ (s : State). s.arrays array) (state_from-sweeps layout state blocks)
    ∙ ap (λ (b : Bool). swept_status b (state.arrays array)) (ap (is_among blocks) at ∙ unswept)
    ∙ is)

-- sweeping frees what is dead, and changes no live cell
live_swept : (cell : CellState) → is_live (swept_cell true cell).status ≡ is_live cell.status
live_swept cell = step cell.status refl
  where
    step : (status : Status) → cell.status ≡ status → is_live (if is_dead status then blank_cell free else cell).status ≡ is_live status
    step free is = ap is_live is
    step live is = ap is_live is
    step spent is = ap is_live is
    step dead is = refl

kept_after_end : (layout : Layout) (state : State) (freed : List ℕ) (is_swept : ℕ → Bool) (kept : ℕ) → IsCollected layout state freed is_swept kept →
    kept ≡ live_count layout (after_end state freed)
kept_after_end layout state freed is_swept kept collected =
    collected.is_kept
    ∙ count_where-same (λ cell. is_live ((swept_all (after_end state freed)).cells cell).status) (λ cell. is_live ((after_end state freed).cells cell).status)
    (cell_count layout) (λ cell below. live_swept ((after_end state freed).cells cell))

-- the end of a full cycle may stand
StandsEnd-freed : (layout : Layout) (shapes : ShapeLists) (state : State) (freed : List ℕ) (history : List Event) (cycle : ℕ) →
    IsLawful layout shapes history → is_full history ≡ true → IsFreed state no_cell freed →
    state_after layout history ≡ record state { phase = marking cycle } → StandsEnd layout history cycle freed
StandsEnd-freed layout shapes state freed history cycle lawful full is_freed leaves = record {
  marks = ap (λ (s : State). s.phase) leaves;
  rising = is_freed.rising;
  were_live = λ cell among. ap (λ (s : State). (s.cells cell).status) leaves ∙ is_freed.were_live cell among;
  frees = λ cell among kept. frees cell among
      (retained_more (graph_of now) (graph_of now) (IsSpared layout history) no_cell (IsWithin-refl (graph_of now))
      (λ c spared. absurd (none_spared c spared)) cell kept);
  keeps = λ cell alive unfreed.
      retained_more (graph_of now) (cycle_span layout history) no_cell (IsSpared layout history) (graph_in_cycle_span layout history)
      (λ c none. absurd none) cell (keeps cell alive unfreed);
  closed = record {
    roots = closed.roots;
    further_cells = λ cell spared. absurd (none_spared cell spared);
    links = closed.links;
    pairs = closed.pairs;
    group_mates = closed.group_mates;
  };
}
  where
    now : State
    now = state_after layout history

    marks : State
    marks = record state { phase = marking cycle }

    none_spared : (cell : ℕ) → IsSpared layout history cell → ⊥
    none_spared cell spared = true≢false (sym spared ∙ ap (λ (b : Bool). not b && is_old layout history cell) full)

    frees : (cell : ℕ) → is_among freed cell ≡ true → IsRetained (graph_of now) no_cell cell → ⊥
    frees cell among kept = is_freed.frees cell among
        (retained_more (graph_of marks) (graph_of state) no_cell no_cell (phase_within state (marking cycle)) is_further cell
        (subst (λ (s : State). IsRetained (graph_of s) no_cell cell) leaves kept))

    keeps : (cell : ℕ) → (now.cells cell).status ≡ live → (is_among freed cell ≡ true → ⊥) → IsRetained (graph_of now) no_cell cell
    keeps cell alive unfreed =
        let kept = is_freed.keeps cell (sym (ap (λ (s : State). (s.cells cell).status) leaves) ∙ alive) unfreed in
        subst (λ (s : State). IsRetained (graph_of s) no_cell cell) (sym leaves)
        (retained_more (graph_of state) (graph_of marks) no_cell no_cell (phase_within marks state.phase) is_further cell kept)

    closed : IsClosed (graph_of now) no_cell (StaysLive now freed)
    closed = IsClosed-kept now freed (RefsAreLive-lawful layout shapes history lawful) frees keeps

-- a block with something dead is one of those that were swept
dead_is_swept : (layout : Layout) (state : State) (freed : List ℕ) (is_swept : ℕ → Bool) (kept block : ℕ) → IsCollected layout state freed is_swept kept →
    HasDead layout (after_end state freed) block → is_among (swept_blocks layout is_swept) block ≡ true
dead_is_swept layout state freed is_swept kept block collected has =
    let below = HasDead-below layout (after_end state freed) block has in
    passing_is_among is_swept (block_count layout) block below ((collected.swept block below).1 has)

-- a history is lawful, its ends are in time, and it leaves this state
record IsSoFar (layout : Layout) (shapes : ShapeLists) (history : List Event) (state : State) (begins opens : ℕ) : Type 0 where
  lawful : IsLawful layout shapes history
  ends : Each (EndsInTime layout) history
  leaves : state_after layout history ≡ state
  begun : begin_count history ≡ begins
  opened : open_count history ≡ opens

IsSoFar-push : (layout : Layout) (shapes : ShapeLists) (history : List Event) (state next : State) (begins begins' opens opens' : ℕ) (event : Event) → IsSoFar layout shapes history state begins opens →
    Stands layout shapes history event → EndsInTime layout history event → after_event layout state event ≡ next → begins + (if is_begin event.entry then 1 else 0) ≡ begins' →
    opens + (if is_open event.entry then 1 else 0) ≡ opens' → IsSoFar layout shapes (history ++ event ∷ []) next begins' opens'
IsSoFar-push layout shapes history state next begins begins' opens opens' event so stands ends leaves count count' = record {
  lawful = IsLawful-push layout shapes history event so.lawful stands;
  ends = push_cases (EndsInTime layout) history event so.ends ends;
  leaves = state_after-push layout history event ∙ ap (λ (s : State). after_event layout s event) so.leaves ∙ leaves;
  begun = count-push (λ e. is_begin e.entry) history event ∙ ap (λ (n : ℕ). n + (if is_begin event.entry then 1 else 0)) so.begun ∙ count;
  opened = count-push (λ e. is_open e.entry) history event ∙ ap (λ (n : ℕ). n + (if is_open event.entry then 1 else 0)) so.opened ∙ count';
}

-- what a freeze's pause said since the cycle began
since_begin : (history : List Event) (cycle visits : ℕ) → since is_begin ((history ++ plain (Begin cycle true) ∷ []) ++ plain (Pause visits) ∷ []) ≡ plain (Pause visits) ∷ []
since_begin history cycle visits =
    ap (λ (m : ℕ). drop m ((history ++ plain (Begin cycle true) ∷ []) ++ plain (Pause visits) ∷ []))
    (moment_after_last-push (λ e. is_begin e.entry) (history ++ plain (Begin cycle true) ∷ []) (plain (Pause visits))
    ∙ moment_after_last-push (λ e. is_begin e.entry) history (plain (Begin cycle true)))
    ∙ past history
  where
    past : (h : List Event) → drop (suc (length h)) ((h ++ plain (Begin cycle true) ∷ []) ++ plain (Pause visits) ∷ []) ≡ plain (Pause visits) ∷ []
    past [] = refl
    past (e ∷ h) = past h

-- the sweeps of the blocks below some number
IsSoFar-sweeps : (layout : Layout) (shapes : ShapeLists) (state : State) (is_swept : ℕ → Bool) (history : List Event) (begins opens : ℕ) →
    ((block : ℕ) → block < block_count layout → is_swept block ≡ true → HasDead layout state block) → IsSoFar layout shapes history state begins opens →
    (count : ℕ) → count ≤ block_count layout →
    IsSoFar layout shapes (history ++ map (λ b. plain (Sweep b)) (numbers_where is_swept count)) (state_from layout state (map (λ b. plain (Sweep b)) (numbers_where is_swept count))) begins opens
IsSoFar-sweeps layout shapes state is_swept history begins opens has so zero within = subst (λ (h : List Event). IsSoFar layout shapes h state begins opens) (sym (append-nil history)) so
IsSoFar-sweeps layout shapes state is_swept history begins opens has so (suc count) within =
    step (is_swept count) refl (IsSoFar-sweeps layout shapes state is_swept history begins opens has so count (omega arith))
  where
    step : (passes : Bool) → is_swept count ≡ passes →
        IsSoFar layout shapes (history ++ map (λ b. plain (Sweep b)) (numbers_where is_swept count)) (state_from layout state (map (λ b. plain (Sweep b)) (numbers_where is_swept count))) begins opens →
        IsSoFar layout shapes (history ++ map (λ b. plain (Sweep b)) (numbers_where is_swept count ++ (if passes then count ∷ [] else [])))
        (state_from layout state (map (λ b. plain (Sweep b)) (numbers_where is_swept count ++ (if passes then count ∷ [] else [])))) begins opens
    step true is before =
        let old = numbers_where is_swept count in
        let stands : HasDead layout (state_after layout (history ++ map (λ b. plain (Sweep b)) old)) count =
        subst (λ (s : State). HasDead layout s count) (sym before.leaves) (HasDead-unswept layout state old count (not_among_itself is_swept count) (has count (omega arith) is)) in
        let joined : map (λ b. plain (Sweep b)) (old ++ count ∷ []) ≡ map (λ b. plain (Sweep b)) old ++ plain (Sweep count) ∷ [] = map-append (λ b. plain (Sweep b)) old (count ∷ []) in
        let pushed = IsSoFar-push layout shapes (history ++ map (λ b. plain (Sweep b)) old) (state_from layout state (map (λ b. plain (Sweep b)) old))
        (state_from layout state (map (λ b. plain (Sweep b)) (old ++ count ∷ []))) begins begins opens opens (plain (Sweep count)) before (refl, stands)
        (record { kept = λ cycle freed e. absurd (cc) })
        (sym (state_from-append layout state (map (λ b. plain (Sweep b)) old) (plain (Sweep count) ∷ [])) ∙ ap (state_from layout state) (sym joined))
        (add-zero begins) (add-zero opens) in
        subst (λ (h : List Event). IsSoFar layout shapes h (state_from layout state (map (λ b. plain (Sweep b)) (old ++ count ∷ []))) begins opens)
        (append_assoc history (map (λ b. plain (Sweep b)) old) (plain (Sweep count) ∷ []) ∙ ap (λ (more : List Event). history ++ more) (sym joined)) pushed
    step false is before =
        subst (λ (bs : List ℕ). IsSoFar layout shapes (history ++ map (λ b. plain (Sweep b)) bs) (state_from layout state (map (λ b. plain (Sweep b)) bs)) begins opens)
        (sym (append-nil (numbers_where is_swept count))) before

-- nothing is dead where all was swept
swept_has_none : (layout : Layout) (state : State) (block : ℕ) → HasDead layout (swept_all state) block → ⊥
swept_has_none layout state block (dead_cell cell within at is) = step (is_dead (state.cells cell).status) refl is
  where
    is_dead_dead : (s : Status) → s ≡ dead → is_dead s ≡ true
    is_dead_dead s e = ap is_dead e

    step : (b : Bool) → is_dead (state.cells cell).status ≡ b → (if b then blank_cell free else state.cells cell).status ≡ dead → ⊥
    step true e d = absurd (cc)
    step false e d = (let clash : true ≡ false = sym (is_dead_dead (state.cells cell).status d) ∙ e in absurd (cc))
swept_has_none layout state block (dead_array array within at is) = by (state.arrays array) is
  where
    by : (s : Status) → swept_status true s ≡ dead → ⊥
    by free d = absurd (cc)
    by live d = absurd (cc)
    by spent d = absurd (cc)
    by dead d = absurd (cc)

-- a history with a whole cycle behind it: its beginning, its pause, its end and its sweeps
abbrev pub with_cycle : List Event → ℕ → List ℕ → ℕ → List ℕ → List Event
with_cycle history cycle freed kept blocks =
    (((history ++ plain (Begin cycle true) ∷ []) ++ plain (Pause kept) ∷ []) ++ plain (End cycle freed) ∷ [])
    ++ map (λ block. plain (Sweep block)) blocks

sweeps_end_none : (blocks : List ℕ) → list_all (λ event. not (is_end event.entry)) (map (λ block. plain (Sweep block)) blocks) ≡ true
sweeps_end_none [] = refl
sweeps_end_none (block ∷ blocks) = sweeps_end_none blocks

sweeps_take_none : (blocks : List ℕ) → TookNone (map (λ block. plain (Sweep block)) blocks)
sweeps_take_none [] = refl
sweeps_take_none (block ∷ blocks) = sweeps_take_none blocks

-- a report with one line more tells the end of that cycle too
TellsEnds-cycle : (layout : Layout) (history : List Event) (cycle : ℕ) (freed : List ℕ) (kept : ℕ) (blocks : List ℕ) (report report_now : Reported) →
    report_now.cycles ≡ (with_line report cycle kept freed).cycles → report_now.ids ≡ report.ids ++ freed → TellsEnds layout history report →
    kept ≡ live_count layout (state_after layout (((history ++ plain (Begin cycle true) ∷ []) ++ plain (Pause kept) ∷ []) ++ plain (End cycle freed) ∷ [])) →
    TellsEnds layout (with_cycle history cycle freed kept blocks) report_now
TellsEnds-cycle layout history cycle freed kept blocks report report_now lines ids tells is =
    let began = history ++ plain (Begin cycle true) ∷ [] in
    let paused = began ++ plain (Pause kept) ∷ [] in
    let ended = paused ++ plain (End cycle freed) ∷ [] in
    TellsEnds-part layout ended (map (λ block. plain (Sweep block)) blocks) report_now (sweeps_end_none blocks)
    (TellsEnds-room layout ended (with_line report cycle kept freed) report_now lines ids
    (TellsEnds-end layout paused cycle kept freed report is
    (TellsEnds-other layout began (Pause kept) report refl
    (TellsEnds-other layout history (Begin cycle true) report refl tells))))

-- a whole cycle was run and recorded
pub RanCycle-did : (old new : Recorded) (report report_now : Reported) (freed : List ℕ) (kept : ℕ) (is_swept : ℕ → Bool) → IsSettled old →
    StandsIdle old.setting.layout old.state old.history report → IsCollected old.setting.layout old.state freed is_swept kept →
    new.state ≡ swept_all (after_end old.state freed) → new.setting ≡ old.setting → new.cycles ≡ old.cycles + 1 → new.parts ≡ old.parts → new.blocks ≡ old.blocks →
    new.history ≡ with_cycle old.history (old.cycles + 1) freed kept (swept_blocks old.setting.layout is_swept) →
    report_now.cycles ≡ (with_line report (old.cycles + 1) kept freed).cycles → report_now.ids ≡ report.ids ++ freed →
    RanCycle old new × StandsIdle new.setting.layout new.state new.history report_now
RanCycle-did old new report report_now freed kept is_swept recorded stands collected state same cycles parts blocks history lines ids = (
  record {
    settled = record {
      lawful = subst (λ (s : Setting). IsLawful s.layout s.shapes new.history) (sym same) (subst (IsLawful layout shapes) (sym history) last.lawful);
      ends = subst (λ (s : Setting). Each (EndsInTime s.layout) new.history) (sym same) (subst (Each (EndsInTime layout)) (sym history) last.ends);
      leaves = ap (λ (s : Setting). state_after s.layout new.history) same ∙ leaves;
      begun = ap begin_count history ∙ last.begun ∙ sym cycles;
      opens = ap open_count history ∙ last.opened ∙ sym parts;
      few = λ who. subst (λ (s : State). length (s.claims who) ≤ 8) (sym state) (recorded.few who);
      blocks = blocks ∙ recorded.blocks ∙ ap blocks_in (sym same);
    };
    same = same;
    cycles = cycles;
    parts = parts;
    visits = kept;
    freed = freed;
    blocks = swept_blocks layout is_swept;
    history = history
        ∙ ap (λ (front : List Event). front ++ sweeps)
        (append_assoc h1 (plain (Pause kept) ∷ []) (plain (End number freed) ∷ []) ∙ append_assoc old.history (plain (Begin number true) ∷ []) (plain (Pause kept) ∷ plain (End number freed) ∷ []))
        ∙ append_assoc old.history (plain (Begin number true) ∷ plain (Pause kept) ∷ plain (End number freed) ∷ []) sweeps
        ∙ ap (λ (n : ℕ). old.history ++ ((plain (Begin (n + 1) true) ∷ plain (Pause kept) ∷ plain (End (n + 1) freed) ∷ []) ++ sweeps)) (sym recorded.begun);
    active = ap (λ (s : State). s.active) state;
    claims = ap (λ (s : State). s.claims) state;
    rests = rests;
    clean = subst (λ (s : Setting). IsSwept s.layout new.history) (sym same)
        (λ block has. clean block (subst (λ (s : State). HasDead layout s block) leaves has));
  },
  record {
    rests = rests;
    clean = subst (λ (s : Setting). (block : ℕ) → HasDead s.layout new.state block → ⊥) (sym same) clean;
    untaken = subst TookNone (sym history) untaken;
    told = told stands.told;
  },
)
  where
    layout : Layout
    layout = old.setting.layout

    shapes : ShapeLists
    shapes = old.setting.shapes

    sweeps : List Event
    sweeps = map (λ b. plain (Sweep b)) (swept_blocks layout is_swept)

    number : ℕ
    number = old.cycles + 1

    marks : State
    marks = record old.state { phase = marking number }

    h1 : List Event
    h1 = old.history ++ plain (Begin number true) ∷ []

    h2 : List Event
    h2 = h1 ++ plain (Pause kept) ∷ []

    began : IsSoFar layout shapes h1 marks number old.parts
    began = IsSoFar-push layout shapes old.history old.state marks old.cycles number old.parts old.parts (plain (Begin number true))
        (record { lawful = recorded.lawful; ends = recorded.ends; leaves = recorded.leaves; begun = recorded.begun; opened = recorded.opens }) (
          refl,
          record {
            is_idle = ap (λ (s : State). s.phase) recorded.leaves ∙ stands.rests;
            is_swept = λ block has. stands.clean block (subst (λ (s : State). HasDead layout s block) recorded.leaves has);
            is_next = ap (λ (n : ℕ). n + 1) (sym recorded.begun);
          },
        )
        (record { kept = λ cycle f e. absurd (cc) }) refl refl (add-zero old.parts)

    paused : IsSoFar layout shapes h2 marks number old.parts
    paused = IsSoFar-push layout shapes h1 marks marks number number old.parts old.parts (plain (Pause kept)) began refl
        (record { kept = λ cycle f e. absurd (cc) }) refl (add-zero number) (add-zero old.parts)

    is_full_cycle : is_full h2 ≡ true
    is_full_cycle = full_after-push false h1 (plain (Pause kept)) ∙ full_after-push false old.history (plain (Begin number true))

    said : visits_since is_begin h2 + born_since is_begin h2 ≡ kept
    said = ap (λ (es : List Event). sum_by (λ event. visits_in event.entry) es + count_by (λ event. is_birth event.entry) es) (since_begin old.history number kept) ∙ omega arith

    leaves_end : after_end marks freed ≡ after_end old.state freed
    leaves_end = after_end-phase old.state (marking number) freed

    count : live_count layout (state_after layout (h2 ++ plain (End number freed) ∷ [])) ≡ kept
    count = ap (live_count layout) (state_after-push layout h2 (plain (End number freed)) ∙ ap (λ (s : State). after_end s freed) paused.leaves ∙ leaves_end)
        ∙ sym (kept_after_end layout old.state freed is_swept kept collected)

    in_time : EndsInTime layout h2 (plain (End number freed))
    in_time = record { kept = λ cycle f e. omega (arith, count, said) }

    ended : IsSoFar layout shapes (h2 ++ plain (End number freed) ∷ []) (after_end old.state freed) number old.parts
    ended = IsSoFar-push layout shapes h2 marks (after_end old.state freed) number number old.parts old.parts (plain (End number freed)) paused
        (refl, StandsEnd-freed layout shapes old.state freed h2 number paused.lawful is_full_cycle collected.is_freed paused.leaves) in_time leaves_end (add-zero number) (add-zero old.parts)

    last : IsSoFar layout shapes ((h2 ++ plain (End number freed) ∷ []) ++ map (λ b. plain (Sweep b)) (swept_blocks layout is_swept))
        (state_from layout (after_end old.state freed) (map (λ b. plain (Sweep b)) (swept_blocks layout is_swept))) number old.parts
    last = IsSoFar-sweeps layout shapes (after_end old.state freed) is_swept (h2 ++ plain (End number freed) ∷ []) number old.parts
        (λ block below is. (collected.swept block below).0 is) ended (block_count layout) (omega arith)

    all_swept : state_from layout (after_end old.state freed) (map (λ b. plain (Sweep b)) (swept_blocks layout is_swept)) ≡ swept_all (after_end old.state freed)
    all_swept = state_from-swept_in_layout layout (after_end old.state freed) (swept_blocks layout is_swept) collected.within.cells collected.within.arrays
        (λ block has. dead_is_swept layout old.state freed is_swept kept block collected has)

    untaken : TookNone (with_cycle old.history number freed kept (swept_blocks layout is_swept))
    untaken =
        let ended = h2 ++ plain (End number freed) ∷ [] in
        list_all-append (λ (e : Event). not (is_taken e.entry)) ended sweeps
        ∙ and_from (list_all (λ (e : Event). not (is_taken e.entry)) ended) (list_all (λ (e : Event). not (is_taken e.entry)) sweeps)
        (TookNone-push h2 (plain (End number freed)) refl (TookNone-push h1 (plain (Pause kept)) refl
        (TookNone-push old.history (plain (Begin number true)) refl stands.untaken)))
        (sweeps_take_none (swept_blocks layout is_swept))

    rests : new.state.phase ≡ idle
    rests = ap (λ (s : State). s.phase) state

    clean : (block : ℕ) → HasDead layout new.state block → ⊥
    clean block has = swept_has_none layout (after_end old.state freed) block (subst (λ (s : State). HasDead layout s block) state has)

    leaves : state_after layout new.history ≡ new.state
    leaves = ap (state_after layout) history ∙ last.leaves ∙ all_swept ∙ sym state

    told : TellsEnds layout old.history report → TellsEnds new.setting.layout new.history report_now
    told tells = subst (λ (s : Setting). TellsEnds s.layout new.history report_now) (sym same) (subst (λ (h : List Event). TellsEnds layout h report_now) (sym history)
        (TellsEnds-cycle layout old.history number freed kept (swept_blocks layout is_swept) report report_now lines ids tells (sym count)))
