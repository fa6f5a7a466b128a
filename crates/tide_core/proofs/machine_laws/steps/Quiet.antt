-- A step that makes no entry and changes no word that the reading looks at keeps the wave.
use Rattle.std.proofs.Common.{ℕ, ◌≡◌, ◌≢◌, ◌+◌, ◌<◌, ◌≤◌, ◌⊎◌, refl, sym, ◌∙◌, ap, subst, arith, Bool, true, false, List, [], inl, inr, Option, Some, None}
use Rattle.std.specs.Prelude.{Contains, if◌then◌else◌}
use Rattle.tide_words.specs.tide_layout.declared.region.Region.{Region}
use Rattle.tide_core.proofs.machine_laws.steps.ArraysKept.{arrays_kept}
use Rattle.tide_core.proofs.machine_laws.steps.Frames.{each_put}
use Rattle.tide_core.proofs.machine_laws.steps.GrowthsKept.{growth_kept}
use Rattle.tide_core.proofs.machine_laws.steps.ScansKept.{scan_kept}
use Rattle.tide_core.proofs.machine_laws.steps.Steps.{any_step}
use Rattle.tide_core.proofs.machine_laws.steps.Unsettled.{given_put, unsettled_read, unsettles_put}
use Rattle.tide_core.proofs.machine_laws.steps.SweepsKept.{swept_kept, sweeps_kept}
use Rattle.tide_core.specs.machine.Duties.{GrowsAndOwes, OwesColour, AwaitsLoad, StillOwes}
use Rattle.tide_core.specs.machine.Owed.{owed_word, Owes, IsOwnWord}
use Rattle.tide_core.specs.machine.RunningWave.{RunningWave}
use Rattle.tide_core.specs.machine.Scanning.{IsTrue, Place}
use Rattle.tide_core.specs.machine.Words.{count_of}
use Rattle.tide_core.specs.machine.World.{holds, parties}
use Rattle.tide_core.specs.declared.machine.view.FullBlock.{FullBlock}
use Rattle.tide_core.specs.declared.machine.view.Owed.{Owed}
use Rattle.tide_core.specs.declared.machine.view.Scan.{Scan}
use Rattle.tide_core.specs.declared.machine.view.Target.{Target}
use Rattle.tide_core.specs.declared.machine.view.View.{View}
use Rattle.tide_core.specs.machine.points.Growths.{GrowthKnows}
use Rattle.tide_core.specs.machine.points.Links.{Excuses, ScanExcuses, LinkAt}
use Rattle.tide_core.specs.machine.points.Marks.{counted_in}
use Rattle.tide_core.specs.wave.FrozenWave.{blackened_count}
use Rattle.tide_core.specs.machine.points.Scans.{IsAtHand, ScanKnows}
use Rattle.tide_core.specs.machine.points.Seen.{CallsAreTold}
use Rattle.tide_core.specs.machine.points.SettledWords.{RunningWordsRead}
use Rattle.tide_core.specs.machine.points.Stops.{StopsAreTold}
use Rattle.tide_core.specs.machine.points.Witness.{GreyIsLeft}
use Rattle.tide_model.proofs.ReferenceLaws.{put_at_elim}
use Rattle.tide_model.specs.Cycle.{cycle_span}
use Rattle.tide_model.specs.Graph.{IsRetained}
use Rattle.tide_model.specs.History.{state_after}
use Rattle.tide_model.specs.Layout.{Layout, cell_count}
use Rattle.tide_model.specs.Numbers.{put_at}
use Rattle.tide_model.specs.References.{IsLive}
use Rattle.tide_model.specs.Refused.{ShapeLists}
use Rattle.tide_model.specs.State.{live, spent}
use Rattle.tide_model.specs.declared.entry.Event.{Event}
use Rattle.tide_words.proofs.heap_laws.Frames.{is_read}
use Rattle.tide_words.specs.heap.Heap.{Heap}
use Rattle.tide_words.specs.marking.Colours.{is_marking, is_grey, IsBlack, IsMarked, IsStamped}
use Rattle.tide_words.specs.marking.Marked.{is_marked}
use Rattle.tide_words.specs.marking.Marking.{bits_of, NoLaterColours}
use Rattle.tide_model.specs.Old.{IsSpared}
use Rattle.tide_words.specs.tide_layout.declared.region.Region.TheVariants as region

-- the view answers for the link after the step: it owes the barrier still, or its scan answers for it, as before
abbrev pub Answers : Heap → Heap → ℕ → Place → ℕ → View → Type 0
Answers old new source place cell u = StillOwes new u.duty source ⊎ ScanExcuses old source place cell u.scan

abbrev found : ℕ → ℕ → ℕ → FullBlock
found block moment word = record { block = block; moment = moment; word = word }

module _ (layout : Layout) (shapes : ShapeLists) (old : Heap) (part : ℕ → View) (log : List Event) (me : ℕ)
    (wave : RunningWave layout shapes (record { heap = old; part = part; log = log })) where
  -- what such a step has to show, of the words and of the stepping view
  pub record Shows (new : Heap) (w : View) : Type 0 where
    pub inside : me < parties
    -- the words that are read
    pub words : (at : Region) (index : ℕ) → is_read at ≡ true → new at index ≡ old at index
    -- what the view keeps
    pub who : w.who ≡ (part me).who
    pub seen : w.seen ≡ (part me).seen
    pub mine : w.mine ≡ (part me).mine
    pub owed : w.owed ≡ (part me).owed
    pub known : w.known ≡ (part me).known
    pub full : w.full ≡ (part me).full
    pub growth : w.growth ≡ (part me).growth
    pub marks : w.marks ≡ (part me).marks
    pub cycle : w.cycle ≡ (part me).cycle
    pub mark_version : w.mark_version ≡ (part me).mark_version
    pub begun : w.begun ≡ (part me).begun
    pub left : w.left ≡ (part me).left
    pub sweeping : w.sweeping ≡ (part me).sweeping
    pub saw : w.saw ≡ (part me).saw
    pub cleared : w.cleared ≡ (part me).cleared
    pub ran : (part me).runs ≡ true
    pub runs : w.runs ≡ true
    pub period : new region.Period 0 ≡ old region.Period 0
    pub swept : (block : ℕ) → new region.Swept block ≡ old region.Swept block
    pub waits : GreyIsLeft layout new (put_at part me w)
    pub calls : CallsAreTold layout new (put_at part me w)
    pub stops : StopsAreTold layout new (put_at part me w)
    -- colours and holders
    pub colours : NoLaterColours layout new
    pub balance : (cell : ℕ) → cell < cell_count layout →
        bits_of old cell + holds cell (part me) ≤ (if is_grey old cell then 1 else 0) →
        bits_of new cell + holds cell w + (if is_grey old cell then 1 else 0) ≡ bits_of old cell + holds cell
        (part me) + (if is_grey new cell then 1 else 0)
    pub rests : is_marking old ≡ false → (w.held ≡ []) × (w.scan ≡ None)
    -- the scan and what it holds
    pub at_hand : (cell : ℕ) → IsAtHand w cell → IsLive (state_after layout log) cell
    pub arrays : (array : ℕ) (scan : Scan) → w.scan ≡ Some scan → scan.array ≡ Some (array + 1) →
        ((state_after layout log).arrays array ≡ live) ⊎ ((state_after layout log).arrays array ≡ spent)
    pub scanned : (scan : Scan) → w.scan ≡ Some scan → IsStamped new scan.cell ×
        ScanKnows layout old (state_after layout log) scan
        × ((cell : ℕ) → Contains scan.buffer cell → IsTrue scan (old region.Structure scan.cell) →
        (cycle_span layout log).link scan.cell cell)
    -- black, marked, born
    pub black : (source : ℕ) (place : Place) (cell : ℕ) →
        LinkAt (state_after layout log) source place cell → IsBlack new source → is_marked new cell ≡ false →
        Answers old new source place cell w ⊎
        ((new region.Colour source ≡ old region.Colour source) × (is_marked old cell ≡ false) ×
        (Excuses old source place cell (part me) → Answers old new source place cell w ⊎
        ((p : ℕ) × (p ≢ me) × AwaitsLoad (part p).duty source)))
    pub grows : (cell : ℕ) → GrowsAndOwes (part me) cell → GrowsAndOwes w cell
    pub stays : (cell : ℕ) → IsMarked old cell → IsMarked new cell
    -- while a cycle marks, a colour word that changes, changes to that of a cell marked in it
    pub recoloured : is_marking old ≡ true → (cell : ℕ) →
        (new region.Colour cell ≡ old region.Colour cell) ⊎ IsStamped new cell
    pub aims : (scan : Scan) (target : Target) → w.scan ≡ Some scan → scan.target ≡ Some target →
        (target.cell < cell_count layout) × ((old region.Colour target.cell ≡ target.word) ⊎ IsMarked old target.cell)
    pub marked : (cell : ℕ) → cell < cell_count layout → IsMarked new cell → IsMarked old cell
        ⊎ ((is_marking old ≡ true) × IsRetained (cycle_span layout log) (IsSpared layout log) cell ×
        ((p : ℕ) → p ≢ me → OwesColour (part p).duty cell → ⊥))
    pub born : is_marking old ≡ true → (cell : ℕ) → OwesColour (part me).duty cell → OwesColour w.duty cell ⊎
        IsMarked new cell
    pub owes : (cell : ℕ) → OwesColour w.duty cell → OwesColour (part me).duty cell × (is_marked new cell ≡ false)
    pub counted : is_marking old ≡ true → blackened_count layout new log + (part me).visits
        ≤ blackened_count layout old log + w.visits

  module _ (new : Heap) (w : View) (s : Shows new w) where
    structure : (cell : ℕ) → new region.Structure cell ≡ old region.Structure cell
    structure cell = s.words region.Structure cell refl

    -- what a scan answers for doesn't depend on the words that changed
    excuses_same : (source : ℕ) (place : Place) (cell : ℕ) (u : View) → Answers old new source place cell u →
        Excuses new source place cell u
    excuses_same source place cell u (inl b) = inl b
    excuses_same source place cell u (inr x) = inr (of_scan u.scan x)
      where
        of_scan : (scan : Option Scan) → ScanExcuses old source place cell scan → ScanExcuses new source place cell scan
        of_scan None e = e
        of_scan (Some scan) e = (e.0, λ holds. e.1 (subst (IsTrue scan) (structure source) holds))

    knows_same : (scan : Scan) → ScanKnows layout old (state_after layout log) scan →
        ScanKnows layout new (state_after layout log) scan
    knows_same = scan_kept layout old new (state_after layout log) (state_after layout log) structure
        (λ c. s.words region.Array c refl) (λ i. s.words region.Elements i refl) (λ c is_live. is_live)

    true_same : (scan : Scan) → IsTrue scan (new region.Structure scan.cell) →
        IsTrue scan (old region.Structure scan.cell)
    true_same scan = subst (IsTrue scan) (structure scan.cell)

    words_after : RunningWordsRead layout shapes new (put_at part me w) (state_after layout log)
    words_after = record {
      settled = wave.words.settled;
      reads = wave.words.reads;
      same = λ at index read free settled. s.words at index read ∙
          wave.words.same at index read (λ p word owes. free p word (back at index word p owes))
          (unsettles_put part me w s.sweeping at index settled);
      given = given_put wave.words.settled part me w s.sweeping wave.words.given;
      owed = each_put (λ p u. (at : Region) (index word : ℕ) → Owes u at index word →
          wave.words.settled at index ≡ word) part me w
          (λ at index word owes. wave.words.owed me at index word (was at index word owes)) wave.words.owed;
      known = each_put (λ p u. (at : Region) (index word : ℕ) → Contains u.known (owed_word at index word) →
          wave.words.settled at index ≡ word) part me w
          (λ at index word is. wave.words.known me at index word
          (subst (λ (o : List Owed). Contains o (owed_word at index word)) s.known is)) wave.words.known;
      owns = each_put (λ p u. (at : Region) (index word : ℕ) → Owes u at index word →
          IsOwnWord layout (state_after layout log) p at index) part me w
          (λ at index word owes. wave.words.owns me at index word (was at index word owes)) wave.words.owns;
    }
      where
        was : (at : Region) (index word : ℕ) → Owes w at index word → Owes (part me) at index word
        was at index word owes = subst (λ (o : List Owed). Contains o (owed_word at index word)) s.owed owes

        back : (at : Region) (index word p : ℕ) → Owes (part p) at index word → Owes (put_at part me w p) at index word
        back at index word = put_at_elim (λ p u. Owes (part p) at index word → Owes u at index word) part me w
            (λ owes. subst (λ (o : List Owed). Contains o (owed_word at index word)) (sym s.owed) owes) (λ p other owes.
            owes)

    -- what a growth knows is of its cell's structure and of what its view owes
    growth_same : (p : ℕ) (u : View) → u.owed ≡ (part p).owed → u.growth ≡ (part p).growth →
        GrowthKnows new (state_after layout log) p u u.growth
    growth_same p u same_owed same_growth = subst (GrowthKnows new (state_after layout log) p u) (sym same_growth)
        (growth_kept old new (state_after layout log) (state_after layout log) p (part p) u (λ c mine. structure c)
        (λ c mine. s.words region.Array c refl) (λ c at. at) (λ c a mine is. is) (λ c x. owes region.Structure c x)
        (λ c x. owes region.Array c x) (λ i x. owed_before region.Elements i x) (part p).growth (wave.growths.knows p))
      where
        owed_before : (at : Region) (index word : ℕ) → Owes u at index word → Owes (part p) at index word
        owed_before at index word = subst (λ (o : List Owed). Contains o (owed_word at index word)) same_owed

        owes : (at : Region) (index word : ℕ) → Owes (part p) at index word → Owes u at index word
        owes at index word = subst (λ (o : List Owed). Contains o (owed_word at index word)) (sym same_owed)

    -- a view that runs began in this part
    counted_now : (u : View) → u.begun ≡ old region.Period 0 → counted_in (old region.Period 0) u ≡ u.visits
    counted_now u is = ap {B = ℕ} (λ (b : Bool). if b then u.visits else 0)
        (Rattle.std.proofs.lemmas.Bool.eq-eqb u.begun (old region.Period 0) is)

    pub quiet_step : RunningWave layout shapes (record { heap = new; part = put_at part me w; log = log })
    quiet_step = any_step layout shapes old part log me wave new w record {
      inside = s.inside;
      phase = s.words region.Phase 0 refl;
      base = s.words region.Base 0 refl;
      words = words_after;
      who = s.who;
      seen = inl s.seen;
      mine = s.mine;
      finds = λ block moment word at. wave.kept.full me block moment word
          (subst (λ (o : List FullBlock). Contains o (found block moment word)) s.full at);
      period = s.period;
      begins = (let b = wave.numbers.begun me in let e = s.begun in omega (arith, b, e));
      left = s.left;
      waits = s.waits;
      stands = arrays_kept layout old new (state_after layout log) (state_after layout log) structure (λ c.
          s.words region.Array c refl) (λ i. s.words region.Elements i refl) (λ array. refl) (λ c array alive is.
          (alive, refl, refl, refl)) (λ c alive none. inl alive) wave.arrays;
      swept = swept_kept layout old new (s.words region.Phase 0 refl) (λ block within. s.swept block) wave.swept;
      sweeps = sweeps_kept layout old new part me w log (s.words region.Phase 0 refl) s.swept
          (λ block. s.words region.Dead block refl) (λ p at index word is. s.words at index
          (unsettled_read layout old (part p) at index word (wave.sweeps.named.stands p) is)) s.sweeping s.saw s.cleared
          s.left wave.sweeps;
      told = λ is. (let t = wave.numbers.told me s.ran in (s.marks ∙ t.0, s.cycle ∙ t.1, s.begun ∙ t.2, s.mark_version ∙ t.3));
      calls = s.calls;
      stops = s.stops;
      empties = λ is. (let runs = s.runs in absurd (cc));
      growth = growth_same me w s.owed s.growth;
      growths = λ p apart. growth_same p (part p) refl refl;
      knows = λ at index word is.
          let was = subst (λ (o : List Owed). Contains o (owed_word at index word)) s.known is in (
            wave.kept.reads me at index word was,
            wave.kept.owns me at index word was,
            s.words at index (wave.kept.reads me at index word was) ∙ wave.kept.known me at index word was,
          );
      knows_still = λ p at index word apart is. s.words at index (wave.kept.reads p at index word is) ∙
          wave.kept.known p at index word is;
      colours = s.colours;
      balance = s.balance;
      rests = s.rests;
      at_hand = s.at_hand;
      arrays = s.arrays;
      scanned = λ scan is. let t = s.scanned scan is in
          (t.0, knows_same scan t.1, λ cell at holds. t.2 cell at (true_same scan holds));
      scans = λ p scan apart is. knows_same scan (wave.scans.knows p scan is);
      truer = λ p scan apart is. true_same scan;
      black = λ source place cell link black white. elim (s.black source place cell link black white) [
        | inl mine ↦ inl (excuses_same source place cell w mine)
        | inr before ↦ inr (
          before.0,
          before.1,
          λ e.
              elim (before.2 e) [ inl mine ↦ inl (excuses_same source place cell w mine) | inr other ↦ inr other ],
        )
      ];
      stays = s.stays;
      recoloured = s.recoloured;
      aims = s.aims;
      marked = s.marked;
      born = s.born;
      owes = s.owes;
      counted = λ marks. (let t = wave.numbers.told me s.ran in let few = s.counted marks in let one =
          counted_now (part me) t.2 in let two = counted_now w (s.begun ∙ t.2) in omega (arith, few, one, two));
      beyond = λ marks source n cell link past.
          let (p, g) = wave.grows.beyond marks source n cell link
          (subst (λ (word : ℕ). count_of word ≤ n) (structure source) past) in
          elim (Rattle.std.proofs.lemmas.Bool.cases_eq p me) [
            | inl same ↦ inl (s.grows source (subst (λ (q : ℕ). GrowsAndOwes (part q) source) same g))
            | inr apart ↦ inr (p, apart, g)
          ];
    }
