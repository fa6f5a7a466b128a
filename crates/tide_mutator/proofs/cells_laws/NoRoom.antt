-- Why a call may be refused for want of room once each block of its class was searched in vain.
use Rattle.std.proofs.Common.{ℕ, zero, suc, ◌≡◌, ◌+◌, ◌≤◌, ◌<◌, ◌⊎◌, ◌∙◌, refl, sym, ap, subst, arith, Bool, true, false, List, inl, inr, length, take, None}
use Rattle.std.proofs.lemmas.Bool.{cases_Bool, cases_lt}
use Rattle.std.specs.Int.{bit_at}
use Rattle.tide_heap.specs.tide_layout.declared.region.Region.TheVariants as region
use Rattle.tide_mutator.proofs.cells_laws.FreeInParts.{IsCleanBlock, IsHeldAt, clean_between, full_of_held, held_between, held_once_clean}
use Rattle.tide_mutator.specs.cells.Searching.{ClassIsSearched, IsLost, IsSearched, IsSearchedTwice}
use Rattle.tide_heap.proofs.tide_core.machine_laws.steps.MarkingParts.{part_is_swept}
use Rattle.tide_heap.proofs.tide_core.machine_laws.steps.Moments.{marks_in, moment_of}
use Rattle.tide_heap.specs.tide_core.machine.Moment.{Moment}
use Rattle.tide_heap.specs.tide_core.machine.RunningWave.{RunningWave}
use Rattle.tide_heap.specs.tide_core.machine.World.{World}
use Rattle.tide_heap.specs.tide_core.declared.machine.view.View.{View}
use Rattle.tide_model.specs.Freeze.{marks_after}
use Rattle.tide_model.specs.History.{is_open, moment_after_last, state_at}
use Rattle.tide_model.specs.Layout.{IsBlockOf, Layout}
use Rattle.tide_model.specs.Refused.{ShapeLists}
use Rattle.tide_model.specs.Room.{DeadIsTaken, IsFullBlock, StandsFull, StandsRefused, window_start}
use Rattle.tide_model.specs.declared.entry.Event.{Event}
use Rattle.tide_heap.specs.tide_sweep.Clearing.{IsCleared}

module _ (layout : Layout) (shapes : ShapeLists) (w : World) (v : View) (wave : RunningWave layout shapes w)
    (is : w.part v.who ≡ v) (runs : v.runs ≡ true) (none : v.sweeping ≡ None) where
  abbrev log : List Event
  log = w.log

  abbrev opened : ℕ
  opened = moment_after_last (λ event. is_open event.entry) log

  m : Moment layout shapes v log region.Call v.who (w.heap region.Call v.who)
  m = moment_of layout shapes w v region.Call v.who wave is

  -- a moment of the call, and of the part
  record IsOfCall (moment : ℕ) : Type 0 where
    pub of_window : window_start v.who log ≤ moment
    pub of_part : opened ≤ moment
    pub there : moment ≤ length log

  module _ (block : ℕ) where
    of_call : (k : ℕ) (lost : IsLost v block k) → IsOfCall lost.moment
    of_call k lost =
        let (from, past, shown) = m.full block lost.moment lost.word lost.saw in
        record { of_window = from; of_part = omega (arith, from); there = past }

    -- a bit that was seen clear is of nothing free then
    held_then : (k : ℕ) (lost : IsLost v block k) → IsHeldAt layout (state_at layout log lost.moment) block k
    held_then k lost =
        let (from, past, shown) = m.full block lost.moment lost.word lost.saw in
        record {
          cells = λ cell within at bit. shown.cells cell within at (ap (bit_at lost.word) bit ∙ lost.clear);
          arrays = λ array within at bit. shown.arrays array within at (ap (bit_at lost.word) bit ∙ lost.clear);
        }

    -- at a moment of the call the block was full, and had nothing dead that wasn't taken
    abbrev WasFull : Type 0
    WasFull = (moment : ℕ) × (window_start v.who log ≤ moment) × (moment ≤ length log)
        × IsFullBlock layout (state_at layout log moment) block × DeadIsTaken layout (take moment log) block

    -- while a cycle marks, nothing is dead in the part
    full_where_marking : v.marks ≡ true → ((k : ℕ) → k < 64 → IsLost v block k) → WasFull
    full_where_marking marks all =
        let first = of_call 0 (all 0 (omega arith)) in
        let start = first.of_window in
        let part = first.of_part in
        let there = first.there in (
          length log,
          omega (arith, start, there),
          omega arith,
          full_of_held layout (state_at layout log (length log)) block (λ k few.
              let lost = all k few in
              let at = of_call k lost in
              held_once_clean layout log opened wave.part_alone lost.moment (length log) at.of_part at.there (omega arith)
              block k (clean lost.moment at.of_part) (held_then k lost)),
          λ has. absurd (clean (length log) (omega (arith, part, there)) has),
        )
      where
        marks_then : marks_after layout log ≡ true
        marks_then = marks_in layout shapes w.heap w.log wave
            ∙ sym (wave.numbers.told v.who (ap (λ (x : View). x.runs) is ∙ runs)).0 ∙ ap (λ (x : View). x.marks) is ∙ marks

        clean : (moment : ℕ) → opened ≤ moment → IsCleanBlock layout (state_at layout log moment) block
        clean moment from = part_is_swept layout shapes log wave.lawful wave.part_alone marks_then moment from block

    -- the block is cleared since it was swept between both searches
    cleared_then : (t : IsSearchedTwice v block) → IsCleared layout log (record { block = block; moment = t.since; took = t.took })
    cleared_then t = m.cleared (record { block = block; moment = t.since; took = t.took }) t.cleared

    -- where none does, it was full when the block was cleared, or nothing was dead there any more
    full_once_cleared : IsSearchedTwice v block → WasFull
    full_once_cleared t = elim (each 64 (omega arith)) [
      | inl held ↦
          let first = t.earlier 0 (omega arith) in
          let start = (of_call 0 first.0).of_window in
          let before = first.1 in (
            t.since,
            omega (arith, start, before),
            (cleared_then t).within,
            full_of_held layout (state_at layout log t.since) block held,
            (cleared_then t).taken t.since (omega arith) (cleared_then t).within,
          )
      | inr clean ↦
          let first = of_call 0 (t.later 0 (omega arith)).0 in
          let start = first.of_window in
          let there = first.there in
          let within = (cleared_then t).within in (
            length log,
            omega (arith, start, there),
            omega arith,
            full_of_held layout (state_at layout log (length log)) block (λ k few.
                let (lost, after) = t.later k few in
                let at = of_call k lost in
                held_once_clean layout log opened wave.part_alone lost.moment (length log) at.of_part at.there (omega arith)
                block k
                (clean_between layout log opened wave.part_alone t.since lost.moment since_in_part after at.there block k clean)
                (held_then k lost)),
            (cleared_then t).taken (length log) within (omega arith),
          )
    ]
      where
        since_in_part : opened ≤ t.since
        since_in_part =
            let (lost, before) = t.earlier 0 (omega arith) in
            let part = (of_call 0 lost).of_part in omega (arith, part, before)

        each : (n : ℕ) → n ≤ 64 → ((k : ℕ) → k < n → IsHeldAt layout (state_at layout log t.since) block k)
            ⊎ IsCleanBlock layout (state_at layout log t.since) block
        each zero few = inl (λ k below. absurd (omega (arith, below)))
        each (suc n) few = elim (each n (omega (arith, few))) [
          | inr clean ↦ inr clean
          | inl so_far ↦
              let (lost, before) = t.earlier n (omega (arith, few)) in
              let at = of_call n lost in
              elim (held_between layout log opened wave.part_alone lost.moment t.since at.of_part before
              (cleared_then t).within block n (held_then n lost)) [
                | inr clean ↦ inr clean
                | inl held ↦ inl (λ k below. elim (cases_lt k n) [
                  | inl less ↦ so_far k less
                  | inr most ↦ subst (IsHeldAt layout (state_at layout log t.since) block) (omega (arith, below, most)) held
                ])
              ]
        ]

    was_full : IsSearched v block → WasFull
    was_full (all, twice) = elim (cases_Bool v.marks) [
      | inl marks ↦ full_where_marking marks all
      | inr rests ↦ full_once_cleared (twice rests)
    ]

  pub refused_then : (class : ℕ) → ClassIsSearched layout v class → StandsRefused layout log v.who class
  refused_then class searched = record {
    full = λ block of. was_full block (searched block of);
    alone = m.alone none;
  }
