-- What a machine that has the running wave tells a step.
use Rattle.std.proofs.Common.{ℕ, ◌≡◌, ◌<◌, ◌⊎◌, refl, sym, ◌∙◌, ap, subst, arith, Bool, true, false, inl, inr, List, None, Some}
use Rattle.std.proofs.lemmas.Bool.{cases_Bool, cases_eq}
use Rattle.std.specs.Prelude.{◌^◌, Contains, not, if◌then◌else◌}
use Rattle.tide_words.specs.tide_layout.Region.{tag}
use Rattle.tide_words.specs.tide_layout.declared.region.Region.{Region}
use Rattle.tide_words.specs.tide_layout.declared.region.Region.TheVariants as region
use Rattle.tide_core.proofs.machine_laws.steps.DeadBits.{clear_has_none, set_has_begun}
use Rattle.tide_core.proofs.machine_laws.steps.Frames.{total_below-one}
use Rattle.tide_core.proofs.machine_laws.steps.Unsettled.{dead_settled, of_dead, own_is_not_dead, settled_region, unsettled_word}
use Rattle.tide_core.specs.machine.Kind.{index_of_stopped}
use Rattle.tide_core.specs.machine.Moment.{Moment, StepsAreTold, WorksOn}
use Rattle.tide_core.specs.machine.Owed.{IsOwnWord, Owes, Knows, Unsettles, own_register, own_structure, own_array, own_pair, own_element}
use Rattle.tide_core.specs.declared.machine.view.Saw.{Saw}
use Rattle.tide_core.specs.declared.machine.view.Sweeping.{Sweeping}
use Rattle.tide_core.specs.machine.kinds.Sweep.{IsSweeping}
use Rattle.tide_core.specs.machine.points.Sweeps.{IsTaken}
use Rattle.tide_core.specs.machine.RunningWave.{RunningWave}
use Rattle.tide_core.specs.machine.World.{World, IsParty, holds, parties}
use Rattle.tide_core.specs.declared.machine.view.View.{View}
use Rattle.tide_model.proofs.DeadLaws.{marking_is_swept}
use Rattle.tide_model.specs.Freeze.{is_marking_phase, marks_after}
use Rattle.tide_model.specs.History.{state_after}
use Rattle.tide_model.specs.Room.{IsAlone}
use Rattle.tide_model.specs.State.{idle, marking}
use Rattle.tide_words.specs.forms.ColourWord.{cycle_of}
use Rattle.tide_words.specs.heap.Heap.{Heap}
use Rattle.tide_words.specs.marking.Colours.{is_marking, running_cycle}
use Rattle.tide_model.specs.Layout.{Layout}
use Rattle.tide_model.specs.Prefix.{IsPrefix}
use Rattle.tide_model.specs.Refused.{ShapeLists}
use Rattle.tide_model.specs.declared.entry.Event.{Event}
use Rattle.tide_sweep.specs.Zeroed.{IsDeadWord}

-- what the words say of what a participant works with
pub works_of : (layout : Layout) (shapes : ShapeLists) (w : World) (me : ℕ) → RunningWave layout shapes w →
    WorksOn layout (w.part me) w.heap (state_after layout w.log)
works_of layout shapes w me wave = record {
  phase = λ runs. (let told = wave.numbers.told me runs in (told.0, told.1, told.3));
  part = λ runs. sym (wave.numbers.told me runs).2;
  calls = λ mutator. ap (w.heap region.Call) (wave.known.who me)
      ∙ wave.calls me (subst (λ (p : ℕ). p < layout.mutators) (wave.known.who me) mutator);
  stop = λ party. ap (λ (p : ℕ). w.heap region.Stopped (index_of_stopped layout p)) (wave.known.who me)
      ∙ wave.stops me (subst (IsParty layout) (wave.known.who me) party);
  hands = wave.hands.cells me;
  greys = λ inside cell within.
      let once = wave.held.held cell within in
      let one = total_below-one (λ p. holds cell (w.part p)) me parties
      (let who = wave.known.who me in omega (arith, inside, who)) in
      omega (arith, once, one);
  idle = λ rests. (wave.rests.held rests me, wave.rests.scans rests me);
  scan = wave.scans.knows me;
  target = wave.targets.right me;
  arrays = wave.arrays;
}

-- the words of the phase say whether a cycle marks
pub marks_in : (layout : Layout) (shapes : ShapeLists) (heap : Heap) (log : List Event) → {part : ℕ → View} →
    RunningWave layout shapes (record { heap = heap; part = part; log = log }) → marks_after layout log ≡ is_marking heap
marks_in layout shapes heap log {part} wave =
    ap is_marking_phase (sym wave.words.reads.roots.phase) ∙ by_word (is_marking wave.words.settled) (cycle_of (wave.words.settled region.Phase 0))
    ∙ ap (λ (p : ℕ). is_marking (λ at index. p)) (sym same)
  where
    by_word : (marks : Bool) (cycle : ℕ) → is_marking_phase (if marks then marking cycle else idle) ≡ marks
    by_word true cycle = refl
    by_word false cycle = refl

    same : heap region.Phase 0 ≡ wave.words.settled region.Phase 0
    same = wave.words.same region.Phase 0 refl (λ p word owes. unowed p region.Phase 0 (wave.words.owns p region.Phase 0 word owes) refl)
        (settled_region layout shapes heap part (state_after layout log) wave.words wave.sweeps.named region.Phase refl (λ t. omega (arith, t)) 0)
      where
        unowed : (p : ℕ) (at : Region) (index : ℕ) → IsOwnWord layout (state_after layout log) p at index → tag at ≡ tag region.Phase → ⊥
        unowed p _ _ (own_register r a b) e = omega (arith, e)
        unowed p _ _ (own_structure c at) e = omega (arith, e)
        unowed p _ _ (own_array c at) e = omega (arith, e)
        unowed p _ _ (own_pair t k at one has) e = omega (arith, e)
        unowed p _ _ (own_element c a k at is has) e = omega (arith, e)

-- of a view that is its participant's
abbrev pub moment_of : (layout : Layout) (shapes : ShapeLists) (w : World) (v : View) (at : Region) (index : ℕ) →
    RunningWave layout shapes w → w.part v.who ≡ v → Moment layout shapes v w.log at index (w.heap at index)
moment_of layout shapes w v at index wave is = record {
  before = subst (λ (x : View). IsPrefix x.seen w.log) is (wave.known.seen v.who);
  lawful = wave.lawful;
  part_alone = wave.part_alone;
  own = wave.known.own v.who ∙ ap (λ (x : View). x.mine) is;
  left = sym (ap (λ (x : View). x.left) is) ∙ wave.left v.who;
  few = λ runs. subst (λ (cycle : ℕ). cycle < 2 ^ 62)
      (sym (wave.numbers.told v.who (ap (λ (x : View). x.runs) is ∙ runs)).1 ∙ ap (λ (x : View). x.cycle) is)
      wave.few_cycles;
  refs = wave.refs;
  settled = wave.words.settled;
  reads = wave.words.reads;
  known = λ r i word knows. wave.words.known v.who r i word (subst (λ (x : View). Knows x r i word) (sym is) knows);
  found = λ read not_dead none mine. sym (wave.words.same at index read (λ p word owes.
      let own = wave.words.owns p at index word owes in
      none p word own (subst (λ (x : View). Owes x at index word) (ap w.part (mine p own) ∙ is) owes))
      (λ p word un. not_dead (of_dead layout shapes w.heap w.part (state_after layout w.log) wave.words wave.sweeps.named p at
      index word un)));
  words = w.heap;
  is_word = refl;
  works = subst (λ (x : View). WorksOn layout x w.heap (state_after layout w.log)) is
      (works_of layout shapes w v.who wave);
  full = λ block moment word at. wave.kept.full v.who block moment word
      (subst (λ (x : View). Contains x.full (record { block = block; moment = moment; word = word })) (sym is) at);
  clean = λ runs marks. marking_is_swept layout shapes w.log wave.lawful
      (marks_told true ((sym (wave.numbers.told v.who (ap (λ (x : View). x.runs) is ∙ runs)).0)
      ∙ ap (λ (x : View). x.marks) is ∙ marks));
  cleared = λ one at. wave.sweeps.cleared v.who one (subst (λ (x : View). Contains x.cleared one) (sym is) at);
  saw = λ saw at. let was = wave.sweeps.named.saw v.who saw (ap (λ (x : View). x.saw) is ∙ at) in (was.within, saw_told saw was.dead);
  swept = λ saw word at has. (wave.sweeps.named.saw v.who saw (ap (λ (x : View). x.saw) is ∙ at)).swept word has;
  told = wave.sweeps.told;
  sweeping = λ s at ungiven. dead_settled layout shapes w.heap w.part (state_after layout w.log) wave.words wave.sweeps.named
      v.who s (ap (λ (x : View). x.sweeping) is ∙ at) ungiven;
  none_dead = λ here clear. clear_has_none layout shapes w.heap w.part (state_after layout w.log) wave.words
      wave.sweeps.named index (ap (λ (r : Region). w.heap r index) (sym here) ∙ clear);
  begun = λ here within some fits.
      let there : w.heap at index ≡ w.heap region.Dead index = ap (λ (r : Region). w.heap r index) here in
      set_has_begun layout shapes w.heap w.part (state_after layout w.log) wave.words wave.sweeps.named index w.log wave.lawful
      refl wave.numbers.cycles within (omega (arith, there, some)) (omega (arith, there, fits));
  below = wave.swept.last;
  alone = λ none alone block. elim (wave.sweeps.taken block) [
    | inl swept ↦ swept
    | inr sweeps ↦ absurd (nobody_else none alone block sweeps)
  ];
}
  where
    marks_told : (b : Bool) → is_marking w.heap ≡ b → marks_after layout w.log ≡ b
    marks_told b e = marks_in layout shapes w.heap w.log wave ∙ e

    -- no other mutator sweeps where none is active
    nobody_else : v.sweeping ≡ None → IsAlone layout (state_after layout w.log) v.who → (block : ℕ) →
        (p : ℕ) × IsSweeping (w.part p) block → ⊥
    nobody_else none alone block (p, s) =
        let one = wave.sweeps.named.active p block (record { sweeping = s.sweeping; is = s.is; of_block = s.of_block }) in
        let active : (state_after layout w.log).active p ≡ true =
        stays ((state_after layout w.log).active p) (w.part p).left (wave.left p) one.1 in
        let who = alone p one.0 active in
        let same : Some s.sweeping ≡ None = sym s.is ∙ ap (λ (q : ℕ). (w.part q).sweeping) who ∙ ap (λ (x : View). x.sweeping) is ∙ none in
        absurd (cc)
      where
        stays : (b c : Bool) → c ≡ not b → c ≡ false → b ≡ true
        stays true c e f = refl
        stays false c e f = absurd (cc)

    -- dead bits that were seen are the store's, or the block was taken
    saw_told : (saw : Saw) → (w.heap region.Dead saw.block ≡ saw.word) ⊎ IsTaken w.heap saw.block →
        (wave.words.settled region.Dead saw.block ≡ saw.word) ⊎ IsTaken w.heap saw.block
    saw_told saw (inr taken) = inr taken
    saw_told saw (inl word) = elim (cases_Bool (is_marking w.heap)) [
      | inl marks ↦ inl (settled (λ taken. let idle = taken.0 in absurd (cc)))
      | inr rests ↦ elim (cases_eq (w.heap region.Swept saw.block) (running_cycle w.heap)) [
        | inl last ↦ inr (rests, last)
        | inr apart ↦ inl (settled (λ taken. apart taken.1))
      ]
    ]
      where
        settled : (IsTaken w.heap saw.block → ⊥) → wave.words.settled region.Dead saw.block ≡ saw.word
        settled untaken = sym (wave.words.same region.Dead saw.block refl (λ p word owes.
            own_is_not_dead layout (state_after layout w.log) p region.Dead saw.block
            (wave.words.owns p region.Dead saw.block word owes) refl)
            (λ p word un. nobody p word un)) ∙ word
          where
            nobody : (p other : ℕ) → Unsettles (w.part p) region.Dead saw.block other → ⊥
            nobody p other un =
                let (s, is, how) = unsettled_word layout shapes w.heap w.part (state_after layout w.log) wave.words
                wave.sweeps.named p region.Dead saw.block other un in
                of_case s is how
              where
                of_case : (s : Sweeping) → (w.part p).sweeping ≡ Some s →
                    ((s.given ≡ false) × IsDeadWord layout s.block s.dead region.Dead saw.block × (w.heap region.Dead saw.block ≡ 0))
                    ⊎ ((s.given ≡ true) × (region.Dead ≡ region.Dead) × (s.block ≡ saw.block)) → ⊥
                of_case s is (inl (waits, none, clear)) = none
                of_case s is (inr (gave, same, block)) =
                    untaken (wave.sweeps.named.taken p saw.block (record { sweeping = s; is = is; of_block = block }))

-- and so of each participant
pub steps_are_told : StepsAreTold
steps_are_told layout shapes w me at index wave =
    moment_of layout shapes w (w.part me) at index wave (ap w.part (wave.known.who me))
