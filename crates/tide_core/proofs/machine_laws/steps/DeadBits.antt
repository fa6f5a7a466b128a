-- What a word of dead bits says of its block, whoever sweeps it: where it is 0 nothing is dead, and else a cycle began.
use Rattle.std.proofs.Common.{ℕ, ◌≡◌, ◌≢◌, ◌+◌, ◌^◌, ◌<◌, ◌⊎◌, refl, sym, ◌∙◌, ap, subst, arith, Bool, true, false, List, [], ◌∷◌, ◌++◌, inl, inr, Some}
use Rattle.std.proofs.lemmas.Bool.{cases_lt}
use Rattle.std.specs.Prelude.{if◌then◌else◌}
use Rattle.tide_words.specs.tide_layout.Region.{block_count}
use Rattle.tide_words.specs.tide_layout.declared.region.Region.TheVariants as region
use Rattle.tide_core.proofs.machine_laws.steps.Unsettled.{own_is_not_dead, unsettled_word}
use Rattle.tide_core.specs.machine.Owed.{Unsettles}
use Rattle.tide_core.specs.declared.machine.view.View.{View}
use Rattle.tide_core.specs.machine.points.SettledWords.{RunningWordsRead}
use Rattle.tide_core.specs.machine.points.Sweeps.{SweepsAreNamed}
use Rattle.tide_model.proofs.SinceLaws.{count-push}
use Rattle.tide_model.proofs.DeadLaws.{HasDead-push}
use Rattle.tide_model.proofs.Histories.{IsLawful-elim, state_after-push}
use Rattle.tide_model.proofs.PhaseLaws.{phase_after-call}
use Rattle.tide_model.specs.Cycle.{HasDead, IsSwept, begin_count, dead_array, dead_cell}
use Rattle.tide_model.specs.Freeze.{is_marking_phase, marks_after}
use Rattle.tide_model.specs.History.{after_entry, is_begin, state_after}
use Rattle.tide_model.specs.Lawful.{IsLawful, Stands, StandsEntry}
use Rattle.tide_model.specs.Layout.{Layout}
use Rattle.tide_model.specs.Refused.{ShapeLists}
use Rattle.tide_model.specs.Since.{is_end}
use Rattle.tide_model.specs.State.{State, empty_state}
use Rattle.tide_model.specs.declared.entry.Entry.{Entry}
use Rattle.tide_model.specs.declared.entry.Entry.TheVariants.{Call, Begin, Pause, Visits, End, Taken, Sweep, Open}
use Rattle.tide_model.specs.declared.entry.Event.{Event}
use Rattle.tide_sweep.proofs.DeadLaws.{dead_word_is_set, has_dead_by_word}
use Rattle.tide_words.specs.heap.Heap.{Heap}
use Rattle.tide_words.specs.marking.Colours.{running_cycle}

-- a cycle began before one marks, and before anything is dead
record CycleHasBegun (layout : Layout) (log : List Event) : Type 0 where
  pub marks : marks_after layout log ≡ true → 0 < begin_count log
  pub dead : (block : ℕ) → HasDead layout (state_after layout log) block → 0 < begin_count log

has_begun : (layout : Layout) (shapes : ShapeLists) (log : List Event) → IsLawful layout shapes log → CycleHasBegun layout log
has_begun layout shapes =
    IsLawful-elim layout shapes (CycleHasBegun layout) (record { marks = λ is. absurd (cc); dead = none_first }) push
  where
    none_first : (block : ℕ) → HasDead layout empty_state block → 0 < begin_count []
    none_first block (dead_cell cell within at is) = absurd (cc)
    none_first block (dead_array array within at is) = absurd (cc)

    push : (before : List Event) (event : Event) → CycleHasBegun layout before → Stands layout shapes before event →
        CycleHasBegun layout (before ++ event ∷ [])
    push before event was stands = by_entry event.entry refl stands
      where
        counted : begin_count (before ++ event ∷ []) ≡ begin_count before + (if is_begin event.entry then 1 else 0)
        counted = count-push (λ e. is_begin e.entry) before event

        grown : 0 < begin_count before → 0 < begin_count (before ++ event ∷ [])
        grown some = omega (arith, some, counted)

        -- an entry that neither begins nor ends a cycle
        still : is_end event.entry ≡ false →
            is_marking_phase (after_entry layout (state_after layout before) event.entry event.took).phase
            ≡ marks_after layout before → CycleHasBegun layout (before ++ event ∷ [])
        still no_end same = record {
          marks = λ marks. grown (was.marks (sym same ∙ ap (λ (s : State). is_marking_phase s.phase)
              (sym (state_after-push layout before event)) ∙ marks));
          dead = λ block has. grown (was.dead block (HasDead-push layout before event block no_end has));
        }

        same_as : (entry : Entry) → event.entry ≡ entry →
            is_marking_phase (after_entry layout (state_after layout before) event.entry event.took).phase
            ≡ is_marking_phase (after_entry layout (state_after layout before) entry event.took).phase
        same_as entry is =
            ap (λ (e : Entry). is_marking_phase (after_entry layout (state_after layout before) e event.took).phase) is

        by_entry : (entry : Entry) → event.entry ≡ entry → StandsEntry layout shapes before entry event.took →
            CycleHasBegun layout (before ++ event ∷ [])
        by_entry (Call who op reply) is call = still (ap is_end is) (same_as (Call who op reply) is
            ∙ ap is_marking_phase (phase_after-call (state_after layout before) who op reply event.took))
        by_entry (Begin cycle full) is begin =
            let one = ap {B = ℕ} (λ (e : Entry). if is_begin e then 1 else 0) is in
            let some : 0 < begin_count (before ++ event ∷ []) = omega (arith, counted, one) in
            record { marks = λ _. some; dead = λ block _. some }
        by_entry (Pause visits) is pause = still (ap is_end is) (same_as (Pause visits) is)
        by_entry (Visits who visits) is told = still (ap is_end is) (same_as (Visits who visits) is)
        by_entry (End cycle freed) is end =
            let some = grown (was.marks (ap is_marking_phase end.1.marks)) in
            record { marks = λ _. some; dead = λ block _. some }
        by_entry (Taken block) is take = still (ap is_end is) (same_as (Taken block) is)
        by_entry (Sweep block) is sweep = still (ap is_end is) (same_as (Sweep block) is)
        by_entry (Open number run) is opens = still (ap is_end is) (same_as (Open number run) is)

-- so nothing is dead before the first cycle
pub swept_at_first : (layout : Layout) (shapes : ShapeLists) (log : List Event) → IsLawful layout shapes log →
    begin_count log ≡ 0 → IsSwept layout log
swept_at_first layout shapes log lawful none block has =
    let begun = (has_begun layout shapes log lawful).dead block has in omega (arith, begun, none)

module _ (layout : Layout) (shapes : ShapeLists) (heap : Heap) (part : ℕ → View) (state : State)
    (words : RunningWordsRead layout shapes heap part state) (named : SweepsAreNamed layout heap part state) (block : ℕ)
  where
    -- where no sweep has the word differ, it is what the store has there
    dead_word_settled : ((p word : ℕ) → Unsettles (part p) region.Dead block word → ⊥) →
        heap region.Dead block ≡ words.settled region.Dead block
    dead_word_settled = words.same region.Dead block refl
        (λ p word owes. own_is_not_dead layout state p region.Dead block (words.owns p region.Dead block word owes) refl)

    -- where it is 0 nothing is dead: a sweep that has it differ has given the block's bits
    pub clear_has_none : heap region.Dead block ≡ 0 → HasDead layout state block → ⊥
    clear_has_none clear has = dead_word_is_set layout shapes words.settled state words.reads block has
        (sym (dead_word_settled nobody) ∙ clear)
      where
        nobody : (p word : ℕ) → Unsettles (part p) region.Dead block word → ⊥
        nobody p word un =
            let (s, is, how) = unsettled_word layout shapes heap part state words named p region.Dead block word un in
            elim how [
              | inl waits ↦ waits.1
              | inr gave ↦ dead_word_is_set layout shapes words.settled state words.reads block has
                  (ap (words.settled region.Dead) (sym gave.2) ∙ words.given p s is gave.0)
            ]

    -- where it isn't a cycle began: something is dead, or a sweep of what was has given the block's bits
    pub set_has_begun : (log : List Event) → IsLawful layout shapes log → state ≡ state_after layout log →
        running_cycle heap ≡ begin_count log → block < block_count layout → 0 < heap region.Dead block →
        heap region.Dead block < 2 ^ 64 → 0 < running_cycle heap
    set_has_begun log lawful is cycles within some fits = elim (cases_lt 0 (running_cycle heap)) [
      | inl begun ↦ begun
      | inr none ↦
          let same = dead_word_settled (λ p word un. (let begun = begun_by p word un in omega (arith, begun, none))) in
          let has = has_dead_by_word layout shapes words.settled state words.reads block within (omega (arith, same, fits))
          (λ clear. omega (arith, same, some, clear)) in
          let began = (has_begun layout shapes log lawful).dead block (subst (λ (s : State). HasDead layout s block) is has) in
          omega (arith, cycles, began)
    ]
      where
        begun_by : (p word : ℕ) → Unsettles (part p) region.Dead block word → 0 < running_cycle heap
        begun_by p word un =
            let (s, is_its, how) = unsettled_word layout shapes heap part state words named p region.Dead block word un in
            elim how [
              | inl waits ↦ absurd waits.1
              | inr gave ↦ named.begun p block (record { sweeping = s; is = is_its; of_block = gave.2 })
            ]
