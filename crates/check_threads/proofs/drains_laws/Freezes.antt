-- What entries leave of the collector's view at a freeze, and what the next opening asks of it.
use Rattle.std.proofs.Common.{ℕ, ◌≡◌, ◌+◌, ◌<◌, refl, sym, ◌∙◌, ap, subst, arith, Bool, true, false, List, [], ◌∷◌, ◌++◌, length}
use Rattle.check_threads.specs.drains.Freezes.{IsAtFreeze}
use Rattle.tide_heap.proofs.tide_core.wave_laws.EntryLaws.{StandsBegin-next}
use Rattle.tide_heap.specs.tide_core.wave.Entered.{with_begin, CycleHasBegun, HasPaused}
use Rattle.tide_heap.specs.tide_core.wave.StaysBlack.{StaysBlack}
use Rattle.tide_heap.proofs.tide_freeze.FrozenLaws.{MayEnter-by, newly_counted}
use Rattle.tide_heap.specs.tide_freeze.Entering.{MayEnter, TellsVisits, with_entry}
use Rattle.tide_heap.specs.Turns.{Freezes}
use Rattle.tide_heap.specs.tide_layout.Region.{word_count}
use Rattle.tide_heap.specs.tide_layout.declared.region.Region.TheVariants.{Stopped}
use Rattle.tide_heap.proofs.tide_core.machine_laws.freezes.Entering.{FrozenWave-of, FrozenWith-entered}
use Rattle.tide_heap.proofs.tide_core.machine_laws.steps.DeadBits.{swept_at_first}
use Rattle.tide_heap.specs.tide_core.machine.Frozen.{FrozenWith}
use Rattle.tide_heap.specs.tide_core.machine.Schedule.{begins, pauses}
use Rattle.tide_heap.specs.tide_core.declared.machine.view.View.{View}
use Rattle.tide_model.specs.Cycle.{IsSwept, begin_count}
use Rattle.tide_model.specs.History.{plain}
use Rattle.tide_model.specs.Layout.{Layout, cell_count}
use Rattle.tide_model.specs.Refused.{ShapeLists}
use Rattle.tide_model.specs.declared.entry.Entry.TheVariants.{Begin, Pause}
use Rattle.tide_model.specs.declared.entry.Event.{Event}
use Rattle.tide_table.specs.Blacks.{was_black_in}
use Rattle.tide_table.specs.Shown.{bare}
use Rattle.tide_table.specs.VisitsTold.{unentered}
use Rattle.tide_heap.specs.tide_words.heap.Heap.{SameIn, heap_of}
use Rattle.tide_heap.specs.tide_words.marking.Colours.{is_black, is_marking, running_cycle}

-- where the notes told of no visit, none is left to enter
pub nothing_told : (layout : Layout) (shapes : ShapeLists) (v w : View) → Freezes layout shapes v w →
    unentered v.visited ≡ v.visits_told → v.visits_told ≡ 0 → IsAtFreeze layout shapes w
nothing_told layout shapes v w freezes counted none =
    subst (IsAtFreeze layout shapes) (sym freezes.view) record {
      frozen = refl;
      blacks = refl;
      long = freezes.long;
      wave = subst (FrozenWith layout shapes (heap_of layout freezes.words) v.seen) none freezes.wave;
      entered = counted ∙ none;
      stopped = λ index below. refl;
    }

-- below, v is the collector's view before a pause, u after it, and x once the pause is entered
module _ (layout : Layout) (shapes : ShapeLists) (v : View) (freeze : IsAtFreeze layout shapes v) (words : List ℕ) (count : ℕ)
    (marks : is_marking (heap_of layout v.words) ≡ true)
    (paused : HasPaused layout (heap_of layout v.words) (heap_of layout words) count) where
  then : FrozenWith layout shapes (heap_of layout words) (v.seen ++ plain (Pause count) ∷ []) 0
  then = FrozenWith-entered layout shapes (heap_of layout v.words) (heap_of layout words) v.seen
      (v.seen ++ plain (Pause count) ∷ []) 0 0 freeze.wave (pauses (heap_of layout words) count marks paused)

  pub may_enter : MayEnter layout shapes (heap_of layout words) v.seen (Pause count)
  may_enter = MayEnter-by layout shapes (heap_of layout words) v.seen (Pause count) refl
      (FrozenWave-of layout shapes (heap_of layout words) (v.seen ++ plain (Pause count) ∷ []) then)

  pub tells : TellsVisits layout (was_black_in layout v) (heap_of layout words) count
  tells = subst (λ (were : ℕ → Bool). TellsVisits layout were (heap_of layout words) count) (sym freeze.blacks)
      (let counted = newly_counted (is_black (heap_of layout v.words)) (is_black (heap_of layout words)) (cell_count layout)
      paused.stays_black in
      let blackened = paused.blackened in
      omega (arith, counted, blackened))

  pub keeps_black : StaysBlack layout (was_black_in layout v) (heap_of layout words)
  keeps_black = subst (λ (were : ℕ → Bool). StaysBlack layout were (heap_of layout words)) (sym freeze.blacks)
      paused.stays_black

  pub paused_there : (x : View) → length words ≡ word_count layout → bare x ≡ bare v → x.words ≡ words →
      x.seen ≡ with_entry v.seen (Pause count) → was_black_in layout x ≡ is_black (heap_of layout x.words) →
      SameIn layout Stopped (heap_of layout v.words) (heap_of layout words) → IsAtFreeze layout shapes x
  paused_there x long same words_are seen blacks left = record {
    frozen = ap (λ (y : View). y.frozen) same ∙ freeze.frozen;
    blacks = blacks;
    long = ap {A = List ℕ} length words_are ∙ long;
    wave = subst (λ (ws : List ℕ). FrozenWith layout shapes (heap_of layout ws) x.seen 0) (sym words_are)
        (subst (λ (h : List Event). FrozenWith layout shapes (heap_of layout words) h 0) (sym seen) then);
    entered = ap (λ (y : View). unentered y.visited) same ∙ freeze.entered;
    stopped = subst (λ (ws : List ℕ). SameIn layout Stopped (heap_of layout x.stood) (heap_of layout ws)) (sym words_are)
        (subst (λ (st : List ℕ). SameIn layout Stopped (heap_of layout st) (heap_of layout words))
        (sym (ap (λ (y : View). y.stood) same))
        (λ index below. left index below ∙ freeze.stopped index below));
  }

-- below, v is the collector's view before the first cycle began, and x once that is entered
module _ (layout : Layout) (shapes : ShapeLists) (v : View) (freeze : IsAtFreeze layout shapes v) (words : List ℕ)
    (idle : is_marking (heap_of layout v.words) ≡ false) (first : running_cycle (heap_of layout v.words) ≡ 0)
    (begun : CycleHasBegun layout true (heap_of layout v.words) (heap_of layout words)) where
  clean : IsSwept layout v.seen
  clean = swept_at_first layout shapes v.seen freeze.wave.lawful (sym freeze.wave.cycle ∙ first)

  after : FrozenWith layout shapes (heap_of layout words) (with_begin v.seen true) 0
  after = FrozenWith-entered layout shapes (heap_of layout v.words) (heap_of layout words) v.seen
      (with_begin v.seen true) 0 0 freeze.wave (begins true (heap_of layout words) idle clean begun)

  pub may_begin : MayEnter layout shapes (heap_of layout words) v.seen (Begin (begin_count v.seen + 1) true)
  may_begin = MayEnter-by layout shapes (heap_of layout words) v.seen (Begin (begin_count v.seen + 1) true) (
    refl,
    StandsBegin-next layout shapes (heap_of layout v.words) v.seen
        (FrozenWave-of layout shapes (heap_of layout v.words) v.seen freeze.wave) idle clean,
  )
      (FrozenWave-of layout shapes (heap_of layout words) (with_begin v.seen true) after)

  pub begun_there : (x : View) → length words ≡ word_count layout → bare x ≡ bare v → x.words ≡ words →
      x.seen ≡ with_begin v.seen true → was_black_in layout x ≡ is_black (heap_of layout x.words) →
      SameIn layout Stopped (heap_of layout v.words) (heap_of layout words) → IsAtFreeze layout shapes x
  begun_there x long same words_are seen blacks left = record {
    frozen = ap (λ (y : View). y.frozen) same ∙ freeze.frozen;
    blacks = blacks;
    long = ap {A = List ℕ} length words_are ∙ long;
    wave = subst (λ (ws : List ℕ). FrozenWith layout shapes (heap_of layout ws) x.seen 0) (sym words_are)
        (subst (λ (h : List Event). FrozenWith layout shapes (heap_of layout words) h 0) (sym seen) after);
    entered = ap (λ (y : View). unentered y.visited) same ∙ freeze.entered;
    stopped = subst (λ (ws : List ℕ). SameIn layout Stopped (heap_of layout x.stood) (heap_of layout ws)) (sym words_are)
        (subst (λ (st : List ℕ). SameIn layout Stopped (heap_of layout st) (heap_of layout words))
        (sym (ap (λ (y : View). y.stood) same))
        (λ index below. left index below ∙ freeze.stopped index below));
  }

-- a view whose parts are those of another
pub view_same : (v u : View) → bare u ≡ bare v → u.seen ≡ v.seen → u.words ≡ v.words → u.words_at_entry ≡ v.words_at_entry → u ≡ v
view_same v u same seen words words_at_entry = λ i. record (same i) { seen = seen i; words = words i; words_at_entry = words_at_entry i }
