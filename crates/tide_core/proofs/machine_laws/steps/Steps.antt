-- A step that makes no entry keeps the wave. What it shows of words and scans is said of each other view apart.
use Rattle.std.proofs.Common.{ℕ, ◌≡◌, ◌≢◌, ◌+◌, ◌<◌, ◌≤◌, ◌⊎◌, refl, sym, ◌∙◌, ap, subst, arith, true, false, List, [], inl, inr, Option, Some, None, length, true≢false}
use Rattle.std.proofs.lemmas.Bool.{cases_Bool}
use Rattle.std.specs.Prelude.{Contains, filter, if◌then◌else◌, not}
use Rattle.tide_words.specs.tide_layout.declared.region.Region.{Region}
use Rattle.tide_core.proofs.machine_laws.steps.Frames.{each_put, put_here, put_else, total_below-put, known_view, held_view}
use Rattle.tide_core.specs.machine.Looked.{FreeIsShown}
use Rattle.tide_core.specs.machine.Duties.{GrowsAndOwes, OwesColour, AwaitsLoad}
use Rattle.tide_core.specs.machine.Owed.{owed_word, IsOwnWord}
use Rattle.tide_core.specs.machine.RunningWave.{RunningWave}
use Rattle.tide_core.specs.machine.Scanning.{IsTrue, Place, property}
use Rattle.tide_core.specs.machine.Words.{count_of}
use Rattle.tide_core.specs.machine.World.{total, holds, parties}
use Rattle.tide_core.specs.declared.machine.view.FullBlock.{FullBlock}
use Rattle.tide_core.specs.declared.machine.view.Scan.{Scan}
use Rattle.tide_core.specs.declared.machine.view.Target.{Target}
use Rattle.tide_core.specs.declared.machine.view.View.{View}
use Rattle.tide_core.specs.machine.points.Arrays.{ArraysStand}
use Rattle.tide_core.specs.machine.points.Births.{RunningBornIsMarked, AwaitsColour}
use Rattle.tide_core.specs.machine.points.Growths.{GrowthKnows}
use Rattle.tide_core.specs.machine.points.Links.{IsExcused, Excuses, ScanExcuses, LinkAt}
use Rattle.tide_core.specs.machine.points.Marks.{counted_in}
use Rattle.tide_core.specs.wave.FrozenWave.{blackened_count}
use Rattle.tide_core.specs.machine.points.Scans.{IsAtHand, ScanKnows}
use Rattle.tide_core.specs.machine.points.Seen.{CallsAreTold}
use Rattle.tide_core.specs.machine.points.SettledWords.{RunningWordsRead}
use Rattle.tide_core.specs.machine.points.Stops.{StopsAreTold}
use Rattle.tide_core.specs.machine.points.Sweeps.{SweptAreBelow, SweepsAreRight}
use Rattle.tide_core.specs.machine.points.Witness.{GreyIsLeft}
use Rattle.tide_model.proofs.ReferenceLaws.{put_at_elim}
use Rattle.tide_model.specs.Cycle.{cycle_span}
use Rattle.tide_model.specs.Graph.{IsRetained}
use Rattle.tide_model.specs.History.{state_after, is_call_of, state_at}
use Rattle.tide_model.specs.Layout.{Layout, cell_count}
use Rattle.tide_model.specs.Numbers.{put_at}
use Rattle.tide_model.specs.Prefix.{IsPrefix}
use Rattle.tide_model.specs.References.{IsLive}
use Rattle.tide_model.specs.Refused.{ShapeLists}
use Rattle.tide_model.specs.Room.{window_start}
use Rattle.tide_model.specs.State.{live, spent}
use Rattle.tide_model.specs.declared.entry.Event.{Event}
use Rattle.tide_words.proofs.heap_laws.Frames.{is_read}
use Rattle.tide_words.proofs.heap_laws.ReadingLaws.{live_within}
use Rattle.tide_words.specs.heap.Heap.{Heap}
use Rattle.tide_words.specs.marking.Colours.{is_marking, running_cycle, is_grey, IsBlack, IsMarked, IsStamped}
use Rattle.tide_words.specs.marking.Marked.{is_marked, base_cycle}
use Rattle.tide_words.specs.marking.Marking.{bits_of, NoLaterColours}
use Rattle.tide_model.specs.Old.{IsSpared}
use Rattle.tide_core.proofs.machine_laws.steps.SameColours.{is_black-same}
use Rattle.tide_core.proofs.machine_laws.steps.Barriers.{still_owes, awaits_owes}
use Rattle.tide_words.specs.forms.ColourWord.{colour_cycle}
use Rattle.tide_words.specs.tide_layout.declared.region.Region.TheVariants as region
use Rattle.tide_core.specs.declared.machine.view.Duty.TheVariants as duty
use Rattle.tide_core.specs.declared.machine.view.Growth.TheVariants as growth

abbrev found : ℕ → ℕ → ℕ → FullBlock
found block moment word = record { block = block; moment = moment; word = word }

module _ (layout : Layout) (shapes : ShapeLists) (old : Heap) (part : ℕ → View) (log : List Event) (me : ℕ)
    (wave : RunningWave layout shapes (record { heap = old; part = part; log = log })) where
  -- what such a step has to show, of the words and of the stepping view
  pub record ShowsStep (new : Heap) (w : View) : Type 0 where
    pub inside : me < parties
    pub phase : new region.Phase 0 ≡ old region.Phase 0
    pub base : new region.Base 0 ≡ old region.Base 0
    pub period : new region.Period 0 ≡ old region.Period 0
    pub words : RunningWordsRead layout shapes new (put_at part me w) (state_after layout log)
    -- what the view keeps
    pub who : w.who ≡ (part me).who
    pub seen : (w.seen ≡ (part me).seen) ⊎
        (IsPrefix w.seen log × (filter (λ event. is_call_of me event.entry) w.seen ≡ (part me).mine))
    pub mine : w.mine ≡ (part me).mine
    pub knows : (at : Region) (index word : ℕ) → Contains w.known (owed_word at index word) → (is_read at ≡ true) ×
        IsOwnWord layout (state_after layout log) me at index × (new at index ≡ word)
    pub knows_still : (p : ℕ) (at : Region) (index word : ℕ) → p ≢ me →
        Contains (part p).known (owed_word at index word) → new at index ≡ word
    pub finds : (block moment word : ℕ) → Contains w.full (found block moment word) → (window_start me log ≤ moment) ×
        (moment ≤ length log) × FreeIsShown layout (state_at layout log moment) block word
    pub told : w.runs ≡ true → (w.marks ≡ is_marking old) × (w.cycle ≡ running_cycle old) ×
        (w.begun ≡ old region.Period 0) × (w.mark_version ≡ base_cycle old)
    pub begins : w.begun ≤ old region.Period 0
    pub left : w.left ≡ (part me).left
    pub calls : CallsAreTold layout new (put_at part me w)
    pub stops : StopsAreTold layout new (put_at part me w)
    pub empties : w.runs ≡ false → (w.held ≡ []) × (w.scan ≡ None) × (w.owed ≡ []) × (w.duty ≡ duty.Nothing) ×
        (w.growth ≡ growth.Nothing)
        × (w.known ≡ []) × (w.full ≡ []) × (w.calls ≡ length w.mine) × (w.sweeping ≡ None)
        × (w.saw ≡ None) × (w.cleared ≡ [])
    -- colours and holders
    pub colours : NoLaterColours layout new
    pub balance : (cell : ℕ) → cell < cell_count layout →
        bits_of old cell + holds cell (part me) ≤ (if is_grey old cell then 1 else 0) →
        bits_of new cell + holds cell w + (if is_grey old cell then 1 else 0) ≡ bits_of old cell + holds cell
        (part me) + (if is_grey new cell then 1 else 0)
    pub rests : is_marking old ≡ false → (w.held ≡ []) × (w.scan ≡ None)
    -- the scan and what it holds
    pub at_hand : (cell : ℕ) → IsAtHand w cell → IsLive (state_after layout log) cell
    pub arrays : (array : ℕ) (scan : Scan) → w.scan ≡ Some scan → scan.array ≡ Some (array + 1) →
        ((state_after layout log).arrays array ≡ live) ⊎ ((state_after layout log).arrays array ≡ spent)
    pub scanned : (scan : Scan) → w.scan ≡ Some scan → IsStamped new scan.cell ×
        ScanKnows layout new (state_after layout log) scan
        × ((cell : ℕ) → Contains scan.buffer cell → IsTrue scan (new region.Structure scan.cell) →
        (cycle_span layout log).link scan.cell cell)
    -- what is left for the visitors, arrays, and sweeps
    pub waits : GreyIsLeft layout new (put_at part me w)
    pub stands : ArraysStand layout new (state_after layout log)
    pub swept : SweptAreBelow layout new
    pub sweeps : SweepsAreRight layout new (put_at part me w) log
    -- growths
    pub growth : GrowthKnows new (state_after layout log) me w w.growth
    pub growths : (p : ℕ) → p ≢ me → GrowthKnows new (state_after layout log) p (part p) (part p).growth
    -- the scans of others
    pub scans : (p : ℕ) (scan : Scan) → p ≢ me → (part p).scan ≡ Some scan →
        ScanKnows layout new (state_after layout log) scan
    pub truer : (p : ℕ) (scan : Scan) → p ≢ me → (part p).scan ≡ Some scan →
        IsTrue scan (new region.Structure scan.cell) → IsTrue scan (old region.Structure scan.cell)
    -- black, marked, born
    -- a black cell is a new one, or its word is as it was
    pub black : (source : ℕ) (place : Place) (cell : ℕ) →
        LinkAt (state_after layout log) source place cell → IsBlack new source → is_marked new cell ≡ false →
        Excuses new source place cell w ⊎ ((new region.Colour source ≡ old region.Colour source) × (is_marked old cell ≡ false) ×
        (Excuses old source place cell (part me) → Excuses new source place cell w ⊎
        ((p : ℕ) × (p ≢ me) × AwaitsLoad (part p).duty source)))
    pub beyond : is_marking old ≡ true → (source n cell : ℕ) →
        LinkAt (state_after layout log) source (property n) cell → count_of (new region.Structure source) ≤ n →
        GrowsAndOwes w source ⊎ ((p : ℕ) × (p ≢ me) × GrowsAndOwes (part p) source)
    pub stays : (cell : ℕ) → IsMarked old cell → IsMarked new cell
    -- while a cycle marks, a colour word that changes, changes to that of a cell marked in it
    pub recoloured : is_marking old ≡ true → (cell : ℕ) →
        (new region.Colour cell ≡ old region.Colour cell) ⊎ IsStamped new cell
    pub aims : (scan : Scan) (target : Target) → w.scan ≡ Some scan → scan.target ≡ Some target →
        (target.cell < cell_count layout) × ((old region.Colour target.cell ≡ target.word) ⊎ IsMarked old target.cell)
    -- between cycles none is marked that wasn't
    pub marked : (cell : ℕ) → cell < cell_count layout → IsMarked new cell → IsMarked old cell
        ⊎ ((is_marking old ≡ true) × IsRetained (cycle_span layout log) (IsSpared layout log) cell ×
        ((p : ℕ) → p ≢ me → OwesColour (part p).duty cell → ⊥))
    pub born : is_marking old ≡ true → (cell : ℕ) → OwesColour (part me).duty cell → OwesColour w.duty cell ⊎
        IsMarked new cell
    pub owes : (cell : ℕ) → OwesColour w.duty cell → OwesColour (part me).duty cell × (is_marked new cell ≡ false)
    pub counted : is_marking old ≡ true → blackened_count layout new log + counted_in (old region.Period 0) (part me)
        ≤ blackened_count layout old log + counted_in (old region.Period 0) w

  module _ (new : Heap) (w : View) (s : ShowsStep new w) where
    marking : is_marking new ≡ is_marking old
    marking = ap (λ (word : ℕ). is_marking (λ at index. word)) s.phase

    base : base_cycle new ≡ base_cycle old
    base = s.base

    running : running_cycle new ≡ running_cycle old
    running = ap (λ (word : ℕ). running_cycle (λ at index. word)) s.phase

    -- what another view's scan answers for, it answers for still
    other_excuses : (p source : ℕ) (place : Place) (cell : ℕ) → p ≢ me →
        new region.Colour source ≡ old region.Colour source → Excuses old source place cell (part p) →
        Excuses new source place cell (part p)
    other_excuses p source place cell apart colour (inl owes) = inl (still_owes old new (part p).duty source colour owes)
    other_excuses p source place cell apart colour (inr answers) = inr (of_scan (part p).scan refl answers)
      where
        of_scan : (scan : Option Scan) → (part p).scan ≡ scan → ScanExcuses old source place cell scan →
            ScanExcuses new source place cell scan
        of_scan None is e = e
        of_scan (Some scan) is e = (
          e.0,
          λ holds.
              e.1 (subst (λ (c : ℕ). IsTrue scan (old region.Structure c)) e.0
              (s.truer p scan apart is (subst (λ (c : ℕ). IsTrue scan (new region.Structure c)) (sym e.0) holds))),
        )

    excused : (source : ℕ) (place : Place) (cell : ℕ) → Excuses new source place cell w →
        IsExcused new (put_at part me w) source place cell
    excused source place cell e = record {
      by = me;
      excuse =
          subst (Excuses new source place cell) (sym (put_here part me w)) e;
    }

    black_after : (source : ℕ) (place : Place) (cell : ℕ) →
        LinkAt (state_after layout log) source place cell → IsBlack new source → is_marked new cell ≡ false →
        IsExcused new (put_at part me w) source place cell
    black_after source place cell link black white =
        elim (s.black source place cell link black white) [
          | inl mine ↦ excused source place cell mine
          | inr before ↦ other before (wave.black.excused source place cell link
              (sym (is_black-same old new source base before.0) ∙ black) before.1)
        ]
      where
        turned : Excuses new source place cell w ⊎ ((p : ℕ) × (p ≢ me) × AwaitsLoad (part p).duty source) →
            IsExcused new (put_at part me w) source place cell
        turned (inl e) = excused source place cell e
        turned (inr (p, apart, owes)) =
            record {
              by = p;
              excuse = subst (Excuses new source place cell) (sym (put_else part me p w apart))
                  (inl (awaits_owes new (part p).duty source owes));
            }

        other : (new region.Colour source ≡ old region.Colour source) × (is_marked old cell ≡ false) ×
            (Excuses old source place cell (part me) → Excuses new source place cell w ⊎
            ((p : ℕ) × (p ≢ me) × AwaitsLoad (part p).duty source)) → IsExcused old part source place cell →
            IsExcused new (put_at part me w) source place cell
        other before ex = elim (Rattle.std.proofs.lemmas.Bool.cases_eq ex.by me) [
          | inl same ↦ turned (before.2 (subst (λ (p : ℕ). Excuses old source place cell (part p)) same ex.excuse))
          | inr apart ↦ record {
            by = ex.by;
            excuse =
                subst (Excuses new source place cell) (sym (put_else part me ex.by w apart))
                (other_excuses ex.by source place cell apart before.0 ex.excuse);
          }
        ]

    pub any_step : RunningWave layout shapes (record { heap = new; part = put_at part me w; log = log })
    any_step = record {
      lawful = wave.lawful;
      part_alone = wave.part_alone;
      calls = s.calls;
      stops = s.stops;
      few_cycles = (let few = wave.few_cycles in omega (arith, few, running));
      known = known_view log part me w s.who s.seen s.mine wave.known;
      numbers = record {
        cycles = running ∙ wave.numbers.cycles;
        periods = s.period ∙ wave.numbers.periods;
        told = each_put (λ p u. u.runs ≡ true → (u.marks ≡ is_marking new) × (u.cycle ≡ running_cycle new) ×
            (u.begun ≡ new region.Period 0) × (u.mark_version ≡ base_cycle new)) part me w
            (λ is. let t = s.told is in (t.0 ∙ sym marking, t.1 ∙ sym running, t.2 ∙ sym s.period, t.3 ∙ sym base))
            (λ p is. let t = wave.numbers.told p is in
            (t.0 ∙ sym marking, t.1 ∙ sym running, t.2 ∙ sym s.period, t.3 ∙ sym base));
        begun = each_put (λ p u. u.begun ≤ new region.Period 0) part me w
            (let b = s.begins in let e = s.period in omega (arith, b, e))
            (λ p. let b = wave.numbers.begun p in let e = s.period in omega (arith, b, e));
      };
      words = s.words;
      refs = wave.refs;
      colours = s.colours;
      hands = record {
        cells = each_put (λ p u. (cell : ℕ) → IsAtHand u cell → IsLive (state_after layout log) cell) part me w
            s.at_hand wave.hands.cells;
        arrays = each_put (λ p u. (array : ℕ) (scan : Scan) → u.scan ≡ Some scan → scan.array ≡ Some (array + 1) →
            ((state_after layout log).arrays array ≡ live) ⊎ ((state_after layout log).arrays array ≡ spent)) part me w
            s.arrays wave.hands.arrays;
      };
      kept = record {
        reads = each_put (λ p u. (at : Region) (index word : ℕ) → Contains u.known (owed_word at index word) →
            is_read at ≡ true) part me w (λ at index word is. (s.knows at index word is).0) wave.kept.reads;
        owns = each_put (λ p u. (at : Region) (index word : ℕ) → Contains u.known (owed_word at index word) →
            IsOwnWord layout (state_after layout log) p at index) part me w
            (λ at index word is. (s.knows at index word is).1) wave.kept.owns;
        known = put_at_elim (λ p u. (at : Region) (index word : ℕ) → Contains u.known (owed_word at index word) →
            new at index ≡ word) part me w
            (λ at index word is. (s.knows at index word is).2) (λ p apart at index word is.
            s.knows_still p at index word apart is);
        full = each_put (λ p u. (block moment word : ℕ) → Contains u.full (found block moment word) →
            (window_start p log ≤ moment) × (moment ≤ length log) ×
            FreeIsShown layout (state_at layout log moment) block word) part me w
            s.finds wave.kept.full;
      };
      held = held_view layout old new part me w s.inside s.balance wave.held;
      rests = record {
        held = λ idle. each_put (λ p u. u.held ≡ []) part me w (s.rests (sym marking ∙ idle)).0
            (wave.rests.held (sym marking ∙ idle));
        scans = λ idle. each_put (λ p u. u.scan ≡ None) part me w (s.rests (sym marking ∙ idle)).1
            (wave.rests.scans (sym marking ∙ idle));
      };
      black = record { excused = black_after };
      retained = record {
        marked = λ marks cell within is. elim (s.marked cell within is) [
          | inl before ↦ wave.retained.marked (sym marking ∙ marks) cell within before
          | inr now ↦ now.1
        ];
        scanned = each_put (λ p u. (scan : Scan) → u.scan ≡ Some scan → IsStamped new scan.cell) part me w
            (λ scan is. (s.scanned scan is).0) (λ p scan is.
            stamped (marks_by p scan is) scan.cell (wave.retained.scanned p scan is));
        buffered = λ p cell scan is. put_at_elim (λ p u. (cell : ℕ) (scan : Scan) → u.scan ≡ Some scan →
            Contains scan.buffer cell → IsTrue scan (new region.Structure scan.cell) →
            (cycle_span layout log).link scan.cell cell) part me w
            (λ cell scan is at holds. (s.scanned scan is).2 cell at holds)
            (λ p apart cell scan is at holds. wave.retained.buffered p cell scan is at (s.truer p scan apart is holds))
            p cell scan is;
      };
      span = record {
        roots = λ marks. wave.span.roots (sym marking ∙ marks);
        links = λ marks. wave.span.links (sym marking ∙ marks);
        triples = λ marks. wave.span.triples (sym marking ∙ marks);
        group_mates = λ marks. wave.span.group_mates (sym marking ∙ marks);
      };
      old = record {
        old = λ when cell within is. s.stays cell (wave.old.old (λ marks. when (marking ∙ marks)) cell within is);
        rests = λ idle cell within is. elim (s.marked cell within is) [
          | inl before ↦ wave.old.rests (sym marking ∙ idle) cell within before
          | inr now ↦ (let marks = now.0 in absurd (true≢false (sym marks ∙ sym marking ∙ idle)))
        ];
        base = base ∙ wave.old.base;
      };
      born = born_after;
      counted = record {
        counted = λ marks.
            let before = wave.counted.counted (sym marking ∙ marks) in
            let sums = total_below-put (counted_in (old region.Period 0)) part me w parties s.inside in
            let same = ap (λ (n : ℕ). total (counted_in n) (put_at part me w)) s.period in
            let now = s.counted (sym marking ∙ marks) in
            omega (arith, before, sums, now, same);
      };
      scans = record {
        knows = put_at_elim (λ p u. (scan : Scan) → u.scan ≡ Some scan →
            ScanKnows layout new (state_after layout log) scan) part me w
            (λ scan is. (s.scanned scan is).1) (λ p apart scan is. s.scans p scan apart is);
      };
      waits = s.waits;
      arrays = s.stands;
      bare = wave.bare;
      swept = s.swept;
      sweeps = s.sweeps;
      left = each_put (λ p u. u.left ≡ not ((state_after layout log).active p)) part me w (s.left ∙ wave.left me)
          wave.left;
      grows = record {
        beyond = λ marks source n cell link past. elim (s.beyond (sym marking ∙ marks) source n cell link past) [
          | inl mine ↦ (me, subst (λ (u : View). GrowsAndOwes u source) (sym (put_here part me w)) mine)
          | inr other ↦ (
            other.0,
            subst (λ (u : View). GrowsAndOwes u source) (sym (put_else part me other.0 w other.1))
                other.2,
          )
        ];
      };
      growths = record {
        knows = put_at_elim (λ p u. GrowthKnows new (state_after layout log) p u u.growth) part me w
            s.growth s.growths;
      };
      targets = record {
        right = each_put (λ p u. (scan : Scan) (target : Target) → u.scan ≡ Some scan → scan.target ≡ Some target →
            (target.cell < cell_count layout) ×
            ((new region.Colour target.cell ≡ target.word) ⊎ IsMarked new target.cell)) part me w
            (λ scan target is aims. still_right (marks_of_mine scan is) target (s.aims scan target is aims))
            (λ p scan target is aims. still_right (marks_by p scan is) target
            (wave.targets.right p scan target is aims));
      };
      parked = record {
        held = each_put (λ p u. u.runs ≡ false → u.held ≡ []) part me w (λ is. (s.empties is).0) wave.parked.held;
        scan = each_put (λ p u. u.runs ≡ false → u.scan ≡ None) part me w (λ is. (s.empties is).1) wave.parked.scan;
        owed = each_put (λ p u. u.runs ≡ false → u.owed ≡ []) part me w (λ is. (s.empties is).2) wave.parked.owed;
        duty = each_put (λ p u. u.runs ≡ false → u.duty ≡ duty.Nothing) part me w (λ is.
            (s.empties is).3) wave.parked.duty;
        growth = each_put (λ p u. u.runs ≡ false → u.growth ≡ growth.Nothing) part me w (λ is.
            (s.empties is).4) wave.parked.growth;
        known = each_put (λ p u. u.runs ≡ false → u.known ≡ []) part me w (λ is. (s.empties is).5) wave.parked.known;
        full = each_put (λ p u. u.runs ≡ false → u.full ≡ []) part me w (λ is. (s.empties is).6) wave.parked.full;
        calls = each_put (λ p u. u.runs ≡ false → u.calls ≡ length u.mine) part me w (λ is.
            (s.empties is).7) wave.parked.calls;
        sweeping = each_put (λ p u. u.runs ≡ false → u.sweeping ≡ None) part me w (λ is.
            (s.empties is).8) wave.parked.sweeping;
        saw = each_put (λ p u. u.runs ≡ false → u.saw ≡ None) part me w (λ is. (s.empties is).9) wave.parked.saw;
        cleared = each_put (λ p u. u.runs ≡ false → u.cleared ≡ []) part me w (λ is. (s.empties is).10) wave.parked.cleared;
      };
    }
      where
        -- a cycle marks while somebody scans
        marks_by : (p : ℕ) (scan : Scan) → (part p).scan ≡ Some scan → is_marking old ≡ true
        marks_by p scan is = elim (cases_Bool (is_marking old)) [
          | inl marks ↦ marks
          | inr idle ↦
              (let none = wave.rests.scans idle p in absurd (cc))
        ]

        marks_of_mine : (scan : Scan) → w.scan ≡ Some scan → is_marking old ≡ true
        marks_of_mine scan is = elim (cases_Bool (is_marking old)) [
          | inl marks ↦ marks
          | inr idle ↦
              (let none = (s.rests idle).1 in absurd (cc))
        ]

        -- what was marked in the cycle is so still
        stamped : is_marking old ≡ true → (cell : ℕ) → IsStamped old cell → IsStamped new cell
        stamped marks cell was = elim (s.recoloured marks cell) [
          | inl same ↦ (s.stays cell was.0, ap colour_cycle same ∙ was.1 ∙ sym running)
          | inr now ↦ now
        ]

        still_right : is_marking old ≡ true → (target : Target) → (target.cell < cell_count layout) ×
            ((old region.Colour target.cell ≡ target.word) ⊎ IsMarked old target.cell) →
            (target.cell < cell_count layout) ×
            ((new region.Colour target.cell ≡ target.word) ⊎ IsMarked new target.cell)
        still_right marks target (within, inr is) = (within, inr (s.stays target.cell is))
        still_right marks target (within, inl is) =
            (within, elim (s.recoloured marks target.cell) [ inl same ↦ inl (same ∙ is) | inr now ↦ inr now.0 ])

        born_after : RunningBornIsMarked layout new (put_at part me w) log
        born_after = record {
          born = λ marks cell within since. elim (wave.born.born (sym marking ∙ marks) cell within since) [
            | inl is ↦ inl (s.stays cell is)
            | inr owes ↦ carried (sym marking ∙ marks) cell owes.0 owes.1
          ];
          owed = λ marks. put_at_elim (λ p u. (cell : ℕ) → OwesColour u.duty cell → AwaitsColour layout new log p cell)
              part me w
              (λ cell owes. let before = wave.born.owed (sym marking ∙ marks) me cell (s.owes cell owes).0 in
              awaits me cell before (s.owes cell owes).1)
              (λ p other cell owes. let before = wave.born.owed (sym marking ∙ marks) p cell owes in
              awaits p cell before (white p cell other owes before.alive before.white));
          alive = each_put (λ p u. (cell : ℕ) → OwesColour u.duty cell → IsLive (state_after layout log) cell) part me w
              (λ cell owes. wave.born.alive me cell (s.owes cell owes).0) wave.born.alive;
          white = put_at_elim (λ p u. (cell : ℕ) → OwesColour u.duty cell → is_marked new cell ≡ false) part me w
              (λ cell owes. (s.owes cell owes).1)
              (λ p other cell owes. white p cell other owes (wave.born.alive p cell owes) (wave.born.white p cell owes));
          owner = wave.born.owner;
          once = each_put (λ p u. (cell : ℕ) → OwesColour u.duty cell → wave.born.owner cell ≡ p) part me w
              (λ cell owes. wave.born.once me cell (s.owes cell owes).0) wave.born.once;
        }
          where
            awaits : (p cell : ℕ) → AwaitsColour layout old log p cell → is_marked new cell ≡ false →
                AwaitsColour layout new log p cell
            awaits p cell a isnt = record {
              is_new = a.is_new;
              alive = a.alive;
              white = isnt;
              kept = a.kept;
              alone =
                  a.alone;
              hidden = a.hidden;
            }

            white : (p cell : ℕ) → p ≢ me → OwesColour (part p).duty cell →
                IsLive (state_after layout log) cell → is_marked old cell ≡ false → is_marked new cell ≡ false
            white p cell other owes alive was = elim (cases_Bool (is_marked new cell)) [
              | inl is ↦ elim (s.marked cell
                  (live_within layout shapes wave.words.settled (state_after layout log) cell wave.words.reads alive)
                  is) [
                    | inl before ↦ absurd (cc)
                    | inr now ↦ absurd (now.2 p other owes)
                  ]
              | inr isnt ↦ isnt
            ]

            carried : is_marking old ≡ true → (cell p : ℕ) → OwesColour (part p).duty cell → IsMarked new cell ⊎
                ((p : ℕ) × OwesColour (put_at part me w p).duty cell)
            carried marks cell p owes = elim (Rattle.std.proofs.lemmas.Bool.cases_eq p me) [
              | inl same ↦ elim (s.born marks cell (subst (λ (p : ℕ). OwesColour (part p).duty cell) same owes)) [
                | inl still ↦ inr (me, subst (λ (u : View). OwesColour u.duty cell) (sym (put_here part me w)) still)
                | inr is ↦ inl is
              ]
              | inr apart ↦ inr (
                p,
                subst (λ (u : View). OwesColour u.duty cell) (sym (put_else part me p w apart))
                    owes,
              )
            ]
