-- While the heap is frozen, what stood in the cycle that marks stays live, whatever becomes of the words.
use Rattle.std.proofs.Common.{ℕ, ◌≡◌, ◌∙◌, refl, sym, ap, subst, Bool, true, false, List, [], ◌∷◌, ◌++◌, Option}
use Rattle.std.specs.Prelude.{if◌then◌else◌, ◌==◌}
use Rattle.tide_heap.proofs.tide_core.machine_laws.freezes.Entering.{span-push, span-begun}
use Rattle.tide_heap.specs.tide_core.machine.points.Marks.{SpanIsLive}
use Rattle.tide_model.proofs.Histories.{state_after-push}
use Rattle.tide_model.proofs.LawfulReferences.{RefsAreLive-lawful}
use Rattle.tide_model.proofs.ReferencesInCycles.{swept_cell-live}
use Rattle.tide_model.specs.Freeze.{is_marking_phase, marks_after}
use Rattle.tide_model.specs.History.{is_call_of, state_after}
use Rattle.tide_model.specs.Lawful.{IsLawful}
use Rattle.tide_model.specs.Layout.{Layout, block_of_cell}
use Rattle.tide_model.specs.References.{IsLive}
use Rattle.tide_model.specs.Refused.{ShapeLists}
use Rattle.tide_model.specs.State.{CellState, State, idle, marking}
use Rattle.tide_model.specs.declared.entry.Entry.{Entry}
use Rattle.tide_model.specs.declared.entry.Entry.TheVariants.{Call, Begin, Pause, Visits, End, Taken, Sweep, Open}
use Rattle.tide_model.specs.declared.entry.Event.{Event}
use Rattle.tide_heap.specs.Rule.{SpanStays}
use Rattle.tide_heap.specs.tide_words.forms.ColourWord.{cycle_of}
use Rattle.tide_heap.specs.tide_words.heap.Heap.{Heap}
use Rattle.tide_heap.specs.tide_words.heap.Reading.{ReadsAs}
use Rattle.tide_heap.specs.tide_words.marking.Colours.{is_marking}
use Rattle.tide_heap.specs.tide_layout.declared.region.Region.TheVariants as region

-- words that read as the state tell whether a cycle marks
pub marks_read : (layout : Layout) (shapes : ShapeLists) (heap : Heap) (log : List Event) →
    ReadsAs layout shapes heap (state_after layout log) → marks_after layout log ≡ is_marking heap
marks_read layout shapes heap log reads =
    ap is_marking_phase (sym reads.roots.phase) ∙ by_test (is_marking heap) (cycle_of (heap region.Phase 0))
  where
    by_test : (marks : Bool) (cycle : ℕ) → is_marking_phase (if marks then marking cycle else idle) ≡ marks
    by_test true cycle = refl
    by_test false cycle = refl

-- a live span of words that mark where the history says so
pub span_of : (layout : Layout) (heap : Heap) (log : List Event) → (marks_after layout log ≡ true → is_marking heap ≡ true) →
    SpanIsLive layout heap log → SpanStays layout log
span_of layout heap log marked span other says = record {
  roots = λ marks. span.roots (marked (says marks));
  links = λ marks. span.links (marked (says marks));
  triples = λ marks. span.triples (marked (says marks));
  group_mates = λ marks. span.group_mates (marked (says marks));
}

-- where no cycle marks, nothing is said
pub span_none : (layout : Layout) (log : List Event) → marks_after layout log ≡ false → SpanStays layout log
span_none layout log none heap says = record {
  roots = λ marks. absurd (let is = says marks in cc);
  links = λ marks. absurd (let is = says marks in cc);
  triples = λ marks. absurd (let is = says marks in cc);
  group_mates = λ marks. absurd (let is = says marks in cc);
}

-- an entry of a freeze keeps it
module _ (layout : Layout) (shapes : ShapeLists) (log : List Event) (took : Option ℕ)
    (span : SpanStays layout log) where
  abbrev later : Entry → List Event
  later entry = log ++ record { entry = entry; took = took } ∷ []

  -- one that leaves the phase, and no live cell dies
  goes_on : (entry : Entry) → Rattle.tide_model.specs.History.is_begin entry ≡ false → IsLawful layout shapes (later entry) →
      marks_after layout (later entry) ≡ marks_after layout log →
      ((cell : ℕ) → IsLive (state_after layout log) cell → IsLive (state_after layout (later entry)) cell) →
      SpanStays layout (later entry)
  goes_on entry no_begin lawful same stays heap says =
      span-push layout heap heap log (record { entry = entry; took = took }) no_begin (λ marks. marks)
      (RefsAreLive-lawful layout shapes (later entry) lawful) stays (span heap (λ marks. sym same ∙ says marks))

  state_same : (entry : Entry) (s : State) →
      state_after layout (later entry) ≡ s → s ≡ state_after layout log →
      (cell : ℕ) → IsLive (state_after layout log) cell → IsLive (state_after layout (later entry)) cell
  state_same entry s after is cell alive = subst (λ (x : State). IsLive x cell) (sym (after ∙ is)) alive

  pub span_entered : (entry : Entry) → ((p : ℕ) → is_call_of p entry ≡ false) → IsLawful layout shapes (later entry) →
      SpanStays layout (later entry)
  span_entered (Call who op reply) no_call lawful =
      absurd (let none = no_call who in let some = Rattle.std.proofs.lemmas.Bool.eq-eqb who who refl in cc)
  span_entered (Begin cycle full) no_call lawful = λ heap says.
      span-begun layout heap log (record { entry = Begin cycle full; took = took }) refl
      (RefsAreLive-lawful layout shapes (later (Begin cycle full)) lawful)
  span_entered (Pause visits) no_call lawful =
      let after = state_after-push layout log (record { entry = Pause visits; took = took }) in
      goes_on (Pause visits) refl lawful (ap (λ (s : State). is_marking_phase s.phase) after)
      (state_same (Pause visits) (state_after layout log) after refl)
  span_entered (Visits who visits) no_call lawful =
      let after = state_after-push layout log (record { entry = Visits who visits; took = took }) in
      goes_on (Visits who visits) refl lawful (ap (λ (s : State). is_marking_phase s.phase) after)
      (state_same (Visits who visits) (state_after layout log) after refl)
  span_entered (End cycle freed) no_call lawful =
      span_none layout (later (End cycle freed)) (ap (λ (s : State). is_marking_phase s.phase)
      (state_after-push layout log (record { entry = End cycle freed; took = took })))
  span_entered (Taken block) no_call lawful =
      let after = state_after-push layout log (record { entry = Taken block; took = took }) in
      goes_on (Taken block) refl lawful (ap (λ (s : State). is_marking_phase s.phase) after)
      (state_same (Taken block) (state_after layout log) after refl)
  span_entered (Sweep block) no_call lawful =
      let after = state_after-push layout log (record { entry = Sweep block; took = took }) in
      goes_on (Sweep block) refl lawful (ap (λ (s : State). is_marking_phase s.phase) after)
      (λ cell alive. subst (λ (s : State). IsLive s cell) (sym after)
      (ap (λ (held : CellState). held.status)
      (swept_cell-live (block_of_cell cell == block) ((state_after layout log).cells cell) alive) ∙ alive))
  span_entered (Open number run) no_call lawful =
      let after = state_after-push layout log (record { entry = Open number run; took = took }) in
      goes_on (Open number run) refl lawful (ap (λ (s : State). is_marking_phase s.phase) after)
      (state_same (Open number run) (state_after layout log) after refl)
