-- A step that makes a call keeps the wave. It changes no colour, no grey word and no phase.
use Rattle.std.proofs.Common.{ℕ, ◌≡◌, ◌≢◌, ◌+◌, ◌<◌, ◌≤◌, ◌⊎◌, ◌==◌, refl, sym, ◌∙◌, ap, subst, arith, Bool, true, false, List, [], ◌∷◌, ◌++◌, inl, inr, Option, Some, None, length}
use Rattle.std.proofs.lemmas.Bool.{cases_Bool, cases_eq, and_parts, and_from}
use Rattle.std.specs.Prelude.{Contains, if◌then◌else◌, ◌&&◌, not}
use Rattle.tide_core.specs.wave.FrozenWave.{is_birth_of, is_born_in_cycle, is_of_visit}
use Rattle.tide_words.specs.tide_layout.declared.region.Region.{Region}
use Rattle.tide_core.proofs.machine_laws.steps.BareTables.{TablesAreBare-lawful}
use Rattle.tide_core.proofs.machine_laws.steps.Colouring.{count_where-le}
use Rattle.tide_core.proofs.machine_laws.steps.Frames.{each_put, put_here, put_else, total_below-put, held_view, stops_view}
use Rattle.tide_core.proofs.machine_laws.steps.Lists.{nothing_in}
use Rattle.tide_core.proofs.machine_laws.steps.SweepsKept.{swept_kept, sweeps_called}
use Rattle.tide_core.proofs.machine_laws.steps.Waiting.{left_quiet}
use Rattle.tide_core.specs.machine.Looked.{FreeIsShown}
use Rattle.tide_core.specs.machine.Duties.{GrowsAndOwes, OwesColour, StillOwes}
use Rattle.tide_core.specs.machine.Entries.{call_of}
use Rattle.tide_core.specs.machine.Owed.{IsOwnWord, owed_word, Unsettles}
use Rattle.tide_core.specs.machine.RunningWave.{RunningWave}
use Rattle.tide_core.specs.machine.Scanning.{IsTrue, Place, slot, property}
use Rattle.tide_core.specs.machine.Words.{count_of}
use Rattle.tide_core.specs.machine.World.{total, parties, pushes}
use Rattle.tide_core.specs.declared.machine.view.FullBlock.{FullBlock}
use Rattle.tide_core.specs.declared.machine.view.Owed.{Owed}
use Rattle.tide_core.specs.declared.machine.view.Scan.{Scan}
use Rattle.tide_core.specs.declared.machine.view.View.{View}
use Rattle.tide_core.specs.machine.points.Arrays.{ArraysStand}
use Rattle.tide_core.specs.machine.points.Births.{IsHidden, AwaitsColour, RunningBornIsMarked}
use Rattle.tide_core.specs.machine.points.Growths.{GrowthKnows}
use Rattle.tide_core.specs.machine.points.Links.{IsExcused, Excuses, ScanExcuses, LinkAt}
use Rattle.tide_core.specs.machine.points.Marks.{counted_in}
use Rattle.tide_core.specs.machine.points.Scans.{IsAtHand, held, scanned, buffered, ScanKnows}
use Rattle.tide_core.specs.machine.points.Seen.{CallsAreTold, WhoLeftIsInactive}
use Rattle.tide_core.specs.machine.points.SettledWords.{RunningWordsRead}
use Rattle.tide_model.proofs.OldLaws.{is_full-push, is_old-push, is_spared-push, last_full-kept, spared_retained-push}
use Rattle.tide_model.proofs.Histories.{IsLawful-push, state_after-push}
use Rattle.tide_model.proofs.ReferenceLaws.{put_at_elim}
use Rattle.tide_model.specs.Applied.{after_call}
use Rattle.tide_model.specs.Cycle.{cycle_span, HasDead}
use Rattle.tide_model.specs.Graph.{IsRetained, IsRoot, IsLink, in_register, claimed, in_handle, in_slot, in_property}
use Rattle.tide_model.specs.History.{state_after, state_at, is_call_of}
use Rattle.tide_model.specs.Lawful.{Stands}
use Rattle.tide_model.specs.Layout.{Layout, cell_count, block_of_cell}
use Rattle.tide_model.specs.Numbers.{put_at}
use Rattle.tide_model.specs.Prefix.{IsPrefix, prefix_trans, prefix_push, prefix_refl}
use Rattle.tide_model.specs.References.{IsLive, RefsAreLive}
use Rattle.tide_model.specs.Refused.{ShapeLists}
use Rattle.tide_model.specs.Room.{window_start}
use Rattle.tide_model.specs.State.{State, live, spent}
use Rattle.tide_model.specs.declared.entry.Entry.TheVariants.{Call}
use Rattle.tide_model.specs.declared.entry.Event.{Event}
use Rattle.tide_model.specs.declared.op.Op.{Op}
use Rattle.tide_model.specs.declared.op.Reply.{Reply}
use Rattle.tide_words.proofs.heap_laws.Frames.{is_read}
use Rattle.tide_words.proofs.marking_laws.MarkingLaws.{link_ends}
use Rattle.tide_words.specs.heap.Heap.{Heap}
use Rattle.tide_words.specs.marking.Colours.{is_marking, running_cycle, is_grey, is_black, IsBlack, IsMarked, IsStamped}
use Rattle.tide_words.specs.marking.Marked.{is_marked, base_cycle}
use Rattle.tide_words.specs.marking.Marking.{bits_of, times_in}
use Rattle.tide_model.specs.Old.{IsSpared, is_full, is_old, is_spared}
use Rattle.tide_core.proofs.machine_laws.steps.Barriers.{still_owes}
use Rattle.tide_core.proofs.machine_laws.steps.SameColours.{bits_same, is_black-same, is_grey-same, is_marked-same}
use Rattle.tide_words.specs.forms.ColourWord.{colour_cycle}
use Rattle.tide_words.specs.tide_layout.declared.region.Region.TheVariants as region
use Rattle.tide_core.proofs.machine_laws.steps.Growing
use Rattle.tide_core.specs.declared.machine.view.Duty.TheVariants as duty
use Rattle.tide_core.specs.declared.machine.view.Growth.TheVariants as growth

-- the regions that no call writes
abbrev pub is_uncalled : Region → Bool
is_uncalled region.Phase = true
is_uncalled region.Base = true
is_uncalled region.Stopped = true
is_uncalled region.Colour = true
is_uncalled region.GreyShared = true
is_uncalled region.GreyMutator = true
is_uncalled region.GreyRace = true
is_uncalled region.Swept = true
is_uncalled _ = false

module _ (layout : Layout) (shapes : ShapeLists) (old : Heap) (part : ℕ → View) (log : List Event) (me : ℕ)
    (wave : RunningWave layout shapes (record { heap = old; part = part; log = log })) (op : Op) (reply : Reply)
    (took : Option ℕ) where
  -- the history with the call, and the state after it
  abbrev pub longer : List Event
  longer = log ++ call_of me op reply took ∷ []

  abbrev pub before : State
  before = state_after layout log

  abbrev pub after : State
  after = state_after layout longer

  -- what the state after the call has to show; each is said of any state, so that a kind proves it of the one that
  -- computes
  pub record OfState (new : Heap) (w : View) (t : State) : Type 0 where
    pub words : RunningWordsRead layout shapes new (put_at part me w) t
    pub refs : RefsAreLive t
    pub alive : (cell : ℕ) → IsLive before cell → IsLive t cell
    pub arrays : (array : ℕ) → (before.arrays array ≡ live) ⊎ (before.arrays array ≡ spent) → (t.arrays array ≡ live) ⊎
        (t.arrays array ≡ spent)
    pub scans : (p : ℕ) (scan : Scan) → (part p).scan ≡ Some scan → ScanKnows layout new t scan
    -- a link of the state after it is one from before, or the caller owes its barrier
    pub links : (source : ℕ) (place : Place) (cell : ℕ) → LinkAt t source place cell →
        IsBlack old source → is_marked old cell ≡ false →
        StillOwes new w.duty source ⊎ LinkAt before source place cell
    -- what another has just taken stays unknown
    pub beyond : is_marking old ≡ true → (source n cell : ℕ) → LinkAt t source (property n) cell →
        count_of (new region.Structure source) ≤ n →
        GrowsAndOwes w source ⊎ (LinkAt before source (property n) cell × (count_of (old region.Structure source) ≤ n))
    pub awaited : (cell : ℕ) → OwesColour w.duty cell → IsLive t cell
    pub growth : GrowthKnows new t me w w.growth
    pub growths : (p : ℕ) → p ≢ me → GrowthKnows new t p (part p) (part p).growth
    pub owns : (p : ℕ) (at : Region) (index : ℕ) → p ≢ me → IsOwnWord layout before p at index →
        IsOwnWord layout t p at index
    pub hidden : (p cell : ℕ) → p ≢ me → IsLive before cell → IsHidden before p cell → IsHidden t p cell
    pub stands : ArraysStand layout new t
    pub inactive : WhoLeftIsInactive (put_at part me w) t
    -- a call leaves nothing dead
    pub dead : (block : ℕ) → HasDead layout t block → HasDead layout before block

  pub record ShowsCall (new : Heap) (w : View) : Type 0 where
    pub inside : me < parties
    pub runs : (part me).runs ≡ true
    pub still_runs : w.runs ≡ true
    pub uncalled : (at : Region) (index : ℕ) → is_uncalled at ≡ true → new at index ≡ old at index
    pub stands : Stands layout shapes log (call_of me op reply took)
    pub who : w.who ≡ (part me).who
    pub seen : w.seen ≡ longer
    pub mine : w.mine ≡ (part me).mine ++ call_of me op reply took ∷ []
    pub marks : w.marks ≡ (part me).marks
    pub cycle : w.cycle ≡ (part me).cycle
    pub mark_version : w.mark_version ≡ (part me).mark_version
    pub begun : w.begun ≡ (part me).begun
    pub visits : w.visits ≡ (part me).visits
    pub stopped : w.stopped ≡ (part me).stopped
    pub period : new region.Period 0 ≡ old region.Period 0
    pub calls : CallsAreTold layout new (put_at part me w)
    pub held : w.held ≡ (part me).held
    pub round : w.round ≡ (part me).round
    pub sweeping : w.sweeping ≡ (part me).sweeping
    pub saw : w.saw ≡ (part me).saw
    pub cleared : w.cleared ≡ (part me).cleared
    -- only one that sweeps nothing may retire
    pub leaves : (w.left ≡ (part me).left) ⊎ ((part me).sweeping ≡ None)
    -- no call writes a word of dead bits, nor one that a sweep has differ
    pub dead_words : (block : ℕ) → new region.Dead block ≡ old region.Dead block
    pub differs : (p : ℕ) (at : Region) (index word : ℕ) → Unsettles (part p) at index word → new at index ≡ old at index
    pub scan : w.scan ≡ (part me).scan
    pub known : w.known ≡ []
    pub full : w.full ≡ []
    -- the view owed no push before, and owes none now
    pub pushes_none : (cell : ℕ) → (pushes (part me).duty cell ≡ 0) × (pushes w.duty cell ≡ 0)
    pub grows : (cell : ℕ) → GrowsAndOwes (part me) cell → GrowsAndOwes w cell
    pub barrier : (source : ℕ) → StillOwes old (part me).duty source → StillOwes new w.duty source
    pub kept : (p : ℕ) (at : Region) (index word : ℕ) → p ≢ me → Contains (part p).known (owed_word at index word) →
        new at index ≡ word
    pub truer : (p : ℕ) (scan : Scan) → (part p).scan ≡ Some scan → IsTrue scan (new region.Structure scan.cell) →
        IsTrue scan (old region.Structure scan.cell)
    -- what was born
    pub born_before : (cell : ℕ) → OwesColour (part me).duty cell → ⊥
    pub born : (cell : ℕ) → is_birth_of cell (Call me op reply) ≡ true → OwesColour w.duty cell
    pub white : (cell : ℕ) → OwesColour w.duty cell → is_marked old cell ≡ false
    pub awaits : is_marking old ≡ true → (cell : ℕ) → OwesColour w.duty cell → AwaitsColour layout new longer me cell
    pub owner : ℕ → ℕ
    pub once : (cell : ℕ) → OwesColour w.duty cell → owner cell ≡ me
    pub once_others : (p cell : ℕ) → p ≢ me → OwesColour (part p).duty cell → owner cell ≡ p
    pub state : OfState new w (after_call before me op reply took)

  module _ (new : Heap) (w : View) (s : ShowsCall new w) where
    now_of : OfState new w after
    now_of = subst (OfState new w) (sym (state_after-push layout log (call_of me op reply took))) s.state

    phase : new region.Phase 0 ≡ old region.Phase 0
    phase = s.uncalled region.Phase 0 refl

    marking : is_marking new ≡ is_marking old
    marking = ap (λ (word : ℕ). is_marking (λ at index. word)) phase

    running : running_cycle new ≡ running_cycle old
    running = ap (λ (word : ℕ). running_cycle (λ at index. word)) phase

    base : base_cycle new ≡ base_cycle old
    base = s.uncalled region.Base 0 refl

    same_black : (cell : ℕ) → is_black new cell ≡ is_black old cell
    same_black cell = is_black-same old new cell base (s.uncalled region.Colour cell refl)

    same_grey : (cell : ℕ) → is_grey new cell ≡ is_grey old cell
    same_grey cell = is_grey-same old new cell base (s.uncalled region.Colour cell refl)

    same_marked : (cell : ℕ) → is_marked new cell ≡ is_marked old cell
    same_marked cell = is_marked-same old new cell base (s.uncalled region.Colour cell refl)

    old_same : (cell : ℕ) → is_old layout longer cell ≡ is_old layout log cell
    old_same = is_old-push layout log (call_of me op reply took) refl

    full_same : is_full longer ≡ is_full log
    full_same = is_full-push layout log (call_of me op reply took) refl refl

    same_bits : (cell : ℕ) → bits_of new cell ≡ bits_of old cell
    same_bits cell = bits_same old new cell (s.uncalled region.GreyShared (block_of_cell cell) refl)
        (s.uncalled region.GreyMutator (block_of_cell cell) refl) (s.uncalled region.GreyRace (block_of_cell cell) refl)

    retained_longer : (cell : ℕ) → IsRetained (cycle_span layout log) (IsSpared layout log) cell →
        IsRetained (cycle_span layout longer) (IsSpared layout longer) cell
    retained_longer = spared_retained-push layout log (call_of me op reply took) refl refl

    -- a view's excuse stands after the call
    scan_excuses : (p source : ℕ) (place : Place) (cell : ℕ) (scan : Option Scan) → (part p).scan ≡ scan →
        ScanExcuses old source place cell scan → ScanExcuses new source place cell scan
    scan_excuses p source place cell None is e = e
    scan_excuses p source place cell (Some scan) is e = (
      e.0,
      λ holds. e.1 (subst (λ (c : ℕ). IsTrue scan (old region.Structure c)) e.0
          (s.truer p scan is (subst (λ (c : ℕ). IsTrue scan (new region.Structure c)) (sym e.0) holds))),
    )

    mine_excuses : (source : ℕ) (place : Place) (cell : ℕ) → Excuses old source place cell (part me) →
        IsExcused new (put_at part me w) source place cell
    mine_excuses source place cell (inl owes) =
        record {
          by = me;
          excuse = subst (Excuses new source place cell) (sym (put_here part me w))
              (inl (s.barrier source owes));
        }
    mine_excuses source place cell (inr scans) =
        record {
          by = me;
          excuse = subst (Excuses new source place cell) (sym (put_here part me w))
              (inr (subst (ScanExcuses new source place cell) (sym s.scan)
              (scan_excuses me source place cell (part me).scan refl scans)));
        }

    other_excuses : (p source : ℕ) (place : Place) (cell : ℕ) → p ≢ me → Excuses old source place cell (part p) →
        IsExcused new (put_at part me w) source place cell
    other_excuses p source place cell apart (inl owes) =
        record {
          by = p;
          excuse = subst (Excuses new source place cell) (sym (put_else part me p w apart))
              (inl (still_owes old new (part p).duty source (s.uncalled region.Colour source refl) owes));
        }
    other_excuses p source place cell apart (inr scans) =
        record {
          by = p;
          excuse = subst (Excuses new source place cell) (sym (put_else part me p w apart))
              (inr (scan_excuses p source place cell (part p).scan refl scans));
        }

    excused : (source : ℕ) (place : Place) (cell : ℕ) → IsExcused old part source place cell →
        IsExcused new (put_at part me w) source place cell
    excused source place cell ex = elim (cases_eq ex.by me) [
      | inl same ↦ mine_excuses source place cell
          (subst (λ (p : ℕ). Excuses old source place cell (part p)) same ex.excuse)
      | inr apart ↦ other_excuses ex.by source place cell apart ex.excuse
    ]

    scans_of : (P : Scan → Type 0) → ((p : ℕ) (scan : Scan) → (part p).scan ≡ Some scan → P scan) →
        (p : ℕ) (scan : Scan) → (put_at part me w p).scan ≡ Some scan → P scan
    scans_of P each = each_put (λ p u. (scan : Scan) → u.scan ≡ Some scan → P scan) part me w (λ scan is.
        each me scan (sym s.scan ∙ is)) each

    pub call_step : RunningWave layout shapes (record { heap = new; part = put_at part me w; log = longer })
    call_step = record {
      lawful = IsLawful-push layout shapes log (call_of me op reply took) wave.lawful s.stands;
      part_alone = Growing.part_alone-push log me op reply took wave.part_alone;
      calls = s.calls;
      stops = stops_view layout old new part me w s.stopped (λ index. s.uncalled region.Stopped index refl) wave.stops;
      few_cycles = (let few = wave.few_cycles in omega (arith, few, running));
      known = record {
        who = each_put (λ p u. u.who ≡ p) part me w (s.who ∙ wave.known.who me) wave.known.who;
        seen = each_put (λ p u. IsPrefix u.seen longer) part me w
            (subst (λ (h : List Event). IsPrefix h longer) (sym s.seen) (prefix_refl longer))
            (λ p. prefix_trans (part p).seen log longer (wave.known.seen p)
            (prefix_push log (call_of me op reply took)));
        own = put_at_elim (λ p u. Rattle.std.specs.Prelude.filter (λ event. is_call_of p event.entry) longer ≡ u.mine)
            part me w own_longer
            (λ p apart. Growing.other_calls-push log me op reply took p apart ∙ wave.known.own p);
        told = each_put (λ p u. Rattle.std.specs.Prelude.filter (λ event. is_call_of p event.entry) u.seen ≡ u.mine)
            part me w
            (ap (Rattle.std.specs.Prelude.filter (λ (event : Event). is_call_of me event.entry)) s.seen ∙
            own_longer) wave.known.told;
      };
      numbers = record {
        cycles = running ∙ wave.numbers.cycles ∙
            sym (Growing.begin_count-push layout log (call_of me op reply took) refl);
        periods = s.period ∙ wave.numbers.periods ∙ sym (Growing.open_count-call log me op reply took);
        told = each_put (λ p u. u.runs ≡ true → (u.marks ≡ is_marking new) × (u.cycle ≡ running_cycle new) ×
            (u.begun ≡ new region.Period 0) × (u.mark_version ≡ base_cycle new)) part me w
            (λ is. let t = wave.numbers.told me s.runs in (
              s.marks ∙ t.0 ∙ sym marking,
              s.cycle ∙ t.1 ∙ sym running,
              s.begun ∙ t.2 ∙ sym s.period,
              s.mark_version ∙ t.3 ∙ sym base,
            ))
            (λ p is. let t = wave.numbers.told p is in
            (t.0 ∙ sym marking, t.1 ∙ sym running, t.2 ∙ sym s.period, t.3 ∙ sym base));
        begun = each_put (λ p u. u.begun ≤ new region.Period 0) part me w
            (let b = wave.numbers.begun me in let same = s.begun in let e = s.period in omega (arith, b, same, e))
            (λ p. let b = wave.numbers.begun p in let e = s.period in omega (arith, b, e));
      };
      words = now_of.words;
      refs = now_of.refs;
      colours = λ cell within. (let c = s.uncalled region.Colour cell refl in let few = wave.colours cell within in
          omega (arith, c, few, running));
      hands = record {
        cells = each_put (λ p u. (cell : ℕ) → IsAtHand u cell → IsLive after cell) part me w
            (λ cell at. now_of.alive cell (wave.hands.cells me cell (was_at_hand cell at))) (λ p cell at.
            now_of.alive cell (wave.hands.cells p cell at));
        arrays = λ p array scan is has.
            now_of.arrays array (scans_of (λ scan. scan.array ≡ Some (array + 1) → (before.arrays array ≡ live) ⊎
            (before.arrays array ≡ spent)) (λ p scan is has. wave.hands.arrays p array scan is has) p scan is has);
      };
      kept = record {
        reads = each_put (λ p u. (at : Region) (index word : ℕ) → Contains u.known (owed_word at index word) →
            is_read at ≡ true) part me w (λ at index word is. nothing_known at index word is) wave.kept.reads;
        owns = put_at_elim (λ p u. (at : Region) (index word : ℕ) → Contains u.known (owed_word at index word) →
            IsOwnWord layout after p at index) part me w (λ at index word is. nothing_known at index word is)
            (λ p apart at index word is. now_of.owns p at index apart (wave.kept.owns p at index word is));
        known = put_at_elim (λ p u. (at : Region) (index word : ℕ) → Contains u.known (owed_word at index word) →
            new at index ≡ word) part me w (λ at index word is. nothing_known at index word is)
            (λ p apart at index word. s.kept p at index word apart);
        full = put_at_elim (λ p u. (block moment word : ℕ) →
            Contains u.full (record { block = block; moment = moment; word = word }) →
            (window_start p longer ≤ moment) × (moment ≤ length longer) ×
            FreeIsShown layout (state_at layout longer moment) block word) part me w
            (λ block moment word is. absurd (none_full block moment word
            (subst (λ (l : List FullBlock). Contains l (record { block = block; moment = moment; word = word })) s.full is)))
            (λ p apart block moment word is. let was = wave.kept.full p block moment word is in (
              subst (λ (n : ℕ). n ≤ moment) (sym (Growing.window_start-other log me op reply took p apart)) was.0,
              (let l = Growing.length-push log (call_of me op reply took) in let m = was.1 in omega (arith, l, m)),
              subst (λ (t : State). FreeIsShown layout t block word)
                  (sym (Growing.state_at-push layout log (call_of me op reply took) moment was.1)) was.2,
            ));
      };
      held = held_view layout old new part me w s.inside
          (λ cell within few. let bits = same_bits cell in let none = s.pushes_none cell in let grey =
          ap {B = ℕ} (λ (b : Bool). if b then 1 else 0) (same_grey cell) in let stack =
          ap (λ (l : List ℕ). times_in l cell) s.held in omega (arith, bits, none.0, none.1, grey, stack))
          wave.held;
      rests = record {
        held = λ idle. each_put (λ p u. u.held ≡ []) part me w (s.held ∙ wave.rests.held (sym marking ∙ idle) me)
            (wave.rests.held (sym marking ∙ idle));
        scans = λ idle. each_put (λ p u. u.scan ≡ None) part me w (s.scan ∙ wave.rests.scans (sym marking ∙ idle) me)
            (wave.rests.scans (sym marking ∙ idle));
      };
      black = record {
        excused = λ source place cell link black white.
            let was_black = sym (same_black source) ∙ black in
            let was_white = sym (same_marked cell) ∙ white in
            elim (now_of.links source place cell link was_black was_white) [
              | inl owes ↦ record {
                by = me;
                excuse = subst (Excuses new source place cell) (sym (put_here part me w))
                    (inl owes);
              }
              | inr link_before ↦ excused source place cell
                  (wave.black.excused source place cell link_before was_black was_white)
            ];
      };
      retained = record {
        marked = λ marks cell within is.
            retained_longer cell (wave.retained.marked (sym marking ∙ marks) cell within (sym (same_marked cell) ∙ is));
        scanned = scans_of (λ scan. IsStamped new scan.cell) (λ p scan is. let was = wave.retained.scanned p scan is in (
          same_marked scan.cell ∙ was.0,
          ap colour_cycle (s.uncalled region.Colour scan.cell refl) ∙ was.1 ∙ sym running,
        ));
        buffered = λ p cell scan is. scans_of (λ scan. Contains scan.buffer cell →
            IsTrue scan (new region.Structure scan.cell) → (cycle_span layout longer).link scan.cell cell)
            (λ p scan is at holds. (Growing.cycle_span-push layout log (call_of me op reply took) refl).links scan.cell
            cell (wave.retained.buffered p cell scan is at (s.truer p scan is holds))) p scan is;
      };
      span = record {
        roots = λ marks cell root. elim (Growing.root_cases layout log (call_of me op reply took) refl cell root) [
          | inl earlier ↦ now_of.alive cell (wave.span.roots (sym marking ∙ marks) cell earlier)
          | inr now ↦ root_live cell now
        ];
        links = λ marks source cell link.
            elim (Growing.link_cases layout log (call_of me op reply took) refl source cell link) [
              | inl earlier ↦ (let both = wave.span.links (sym marking ∙ marks) source cell earlier in
                  (now_of.alive source both.0, now_of.alive cell both.1))
              | inr now ↦ link_ends after source cell now_of.refs now
            ];
        triples = λ marks table key cell triple.
            elim (Growing.triple_cases layout log (call_of me op reply took) refl table key cell triple) [
              | inl earlier ↦ now_of.alive cell (wave.span.triples (sym marking ∙ marks) table key cell earlier)
              | inr now ↦ now_of.refs.in_pairs table key cell now.is_live now.has_pair
            ];
        group_mates = λ marks one other group_mate.
            elim (Growing.group_mate_cases layout log (call_of me op reply took) refl one other group_mate) [
              | inl earlier ↦ (let both = wave.span.group_mates (sym marking ∙ marks) one other earlier in
                  (now_of.alive one both.0, now_of.alive other both.1))
              | inr now ↦ (now.one_is_live, now.other_is_live)
            ];
      };
      old = record {
        old = λ when cell within is. same_marked cell ∙ wave.old.old (λ marks. sym full_same ∙ when (marking ∙ marks)) cell within (sym (old_same cell) ∙ is);
        rests = λ idle cell within is. old_same cell ∙ wave.old.rests (sym marking ∙ idle) cell within (sym (same_marked cell) ∙ is);
        base = base ∙ wave.old.base ∙ sym (last_full-kept log (call_of me op reply took) refl);
      };
      born = born_after;
      counted = record {
        counted = λ marks.
            let was = wave.counted.counted (sym marking ∙ marks) in
            let sums = total_below-put (counted_in (old region.Period 0)) part me w parties s.inside in
            let same : counted_in (old region.Period 0) w ≡ counted_in (old region.Period 0) (part me) =
            ap (λ (n : ℕ). if n == old region.Period 0 then w.visits else 0) s.begun ∙
            ap {B = ℕ} (λ (n : ℕ). if (part me).begun == old region.Period 0 then n else 0) s.visits in
            let period = ap (λ (n : ℕ). total (counted_in n) (put_at part me w)) s.period in
            let more = Growing.visits-push layout log (call_of me op reply took) refl in
            let few = count_where-le (λ c. is_black new c && is_of_visit layout longer c) (λ c.
            is_black old c && is_of_visit layout log c) (cell_count layout) (λ c. fewer c) in
            omega (arith, was, sums, same, more, few, period);
      };
      waits = left_quiet layout old new part me w phase s.period (λ _ cell in_cell is. same_grey cell ∙ is)
          (λ cell bit. ap (λ (word : ℕ). Rattle.std.specs.Int.bit_at word (Rattle.std.specs.Prelude.◌%◌ cell 64))
          (s.uncalled region.GreyShared (block_of_cell cell) refl) ∙ bit) s.begun s.visits s.round s.held wave.waits;
      arrays = now_of.stands;
      bare = TablesAreBare-lawful layout shapes longer
          (IsLawful-push layout shapes log (call_of me op reply took) wave.lawful s.stands);
      swept = swept_kept layout old new phase (λ block within. s.uncalled region.Swept block refl) wave.swept;
      sweeps = sweeps_called layout old new part me w log (call_of me op reply took) refl phase
          (λ block. s.uncalled region.Swept block refl) s.dead_words s.differs s.sweeping s.saw s.cleared s.leaves now_of.dead
          wave.sweeps;
      left = now_of.inactive;
      scans = record { knows = scans_of (λ scan. ScanKnows layout new after scan) now_of.scans };
      grows = record {
        beyond = λ marks source n cell link past. elim (now_of.beyond (sym marking ∙ marks) source n cell link past) [
          | inl mine ↦ (me, subst (λ (u : View). GrowsAndOwes u source) (sym (put_here part me w)) mine)
          | inr was ↦ (let (p, g) = wave.grows.beyond (sym marking ∙ marks) source n cell was.0 was.1 in (
            p,
            put_at_elim (λ p u. GrowsAndOwes (part p) source → GrowsAndOwes u source) part me w (s.grows source)
                (λ p apart g. g) p g,
          ))
        ];
      };
      growths = record {
        knows = put_at_elim (λ p u. GrowthKnows new after p u u.growth) part me w now_of.growth
            now_of.growths;
      };
      targets = record {
        right = λ p scan target is. scans_of (λ scan. scan.target ≡ Some target → (target.cell < cell_count layout) ×
            ((new region.Colour target.cell ≡ target.word) ⊎ IsMarked new target.cell))
            (λ p scan is aims. let was = wave.targets.right p scan target is aims in (
              was.0,
              elim was.1 [
                | inl same ↦ inl (s.uncalled region.Colour target.cell refl ∙ same)
                | inr now ↦
                    inr (same_marked target.cell ∙ now)
              ],
            )) p scan is;
      };
      parked = record {
        held = each_put (λ p u. u.runs ≡ false → u.held ≡ []) part me w stopped wave.parked.held;
        scan = each_put (λ p u. u.runs ≡ false → u.scan ≡ None) part me w stopped wave.parked.scan;
        owed = each_put (λ p u. u.runs ≡ false → u.owed ≡ []) part me w stopped wave.parked.owed;
        duty = each_put (λ p u. u.runs ≡ false → u.duty ≡ duty.Nothing) part me w stopped wave.parked.duty;
        growth = each_put (λ p u. u.runs ≡ false → u.growth ≡ growth.Nothing) part me w stopped wave.parked.growth;
        known = each_put (λ p u. u.runs ≡ false → u.known ≡ []) part me w stopped wave.parked.known;
        full = each_put (λ p u. u.runs ≡ false → u.full ≡ []) part me w stopped wave.parked.full;
        calls = each_put (λ p u. u.runs ≡ false → u.calls ≡ length u.mine) part me w stopped wave.parked.calls;
        sweeping = each_put (λ p u. u.runs ≡ false → u.sweeping ≡ None) part me w stopped wave.parked.sweeping;
        saw = each_put (λ p u. u.runs ≡ false → u.saw ≡ None) part me w stopped wave.parked.saw;
        cleared = each_put (λ p u. u.runs ≡ false → u.cleared ≡ []) part me w stopped wave.parked.cleared;
      };
    }
      where
        stopped : {X : Type 0} → w.runs ≡ false → X
        stopped is = let runs = s.still_runs in absurd (cc)

        own_longer : Rattle.std.specs.Prelude.filter (λ (event : Event). is_call_of me event.entry) longer ≡ w.mine
        own_longer = Growing.own_calls-push log me op reply took ∙
            ap (λ (l : List Event). l ++ call_of me op reply took ∷ []) (wave.known.own me) ∙ sym s.mine

        was_at_hand : (cell : ℕ) → IsAtHand w cell → IsAtHand (part me) cell
        was_at_hand cell (held is) = held (subst (λ (l : List ℕ). Contains l cell) s.held is)
        was_at_hand cell (scanned scan is at) = scanned scan (sym s.scan ∙ is) at
        was_at_hand cell (buffered scan is at) = buffered scan (sym s.scan ∙ is) at

        none_full : (block moment word : ℕ) →
            Contains {X = FullBlock} [] (record { block = block; moment = moment; word = word }) → ⊥
        none_full block moment word is = nothing_in (record { block = block; moment = moment; word = word }) is

        nothing_known : {X : Type 0} (at : Region) (index word : ℕ) → Contains w.known (owed_word at index word) → X
        nothing_known at index word is =
            absurd (nothing_in (owed_word at index word)
            (subst (λ (l : List Owed). Contains l (owed_word at index word)) s.known is))

        root_live : (cell : ℕ) → IsRoot after cell → IsLive after cell
        root_live cell (in_register who register active is) = now_of.refs.in_registers who register cell active is
        root_live cell (claimed who at) = now_of.refs.claimed who cell at
        root_live cell (in_handle handle is) = now_of.refs.in_strong handle cell is

        fewer : (c : ℕ) → (is_black new c && is_of_visit layout longer c) ≡ true →
            (is_black old c && is_of_visit layout log c) ≡ true
        fewer c both =
            let parts = and_parts (is_black new c) (is_of_visit layout longer c) both in
            let late = and_parts (not (is_born_in_cycle longer c)) (not (is_spared layout longer c)) parts.1 in
            and_from (is_black old c) (is_of_visit layout log c) (sym (same_black c) ∙ parts.0)
            (and_from (not (is_born_in_cycle log c)) (not (is_spared layout log c)) (not_born late.0)
            (ap not (sym (is_spared-push layout log (call_of me op reply took) refl refl c)) ∙ late.1))
          where
            not_born : not (is_born_in_cycle longer c) ≡ true → not (is_born_in_cycle log c) ≡ true
            not_born is = elim (cases_Bool (is_born_in_cycle log c)) [
              | inl yes_born ↦ (let also = Growing.born-old layout log (call_of me op reply took) refl c yes_born in
                  absurd (cc))
              | inr isnt ↦ ap not isnt
            ]

        born_after : RunningBornIsMarked layout new (put_at part me w) longer
        born_after = record {
          born = λ marks cell within since.
              elim (Growing.born-new layout log (call_of me op reply took) refl cell since) [
                | inl earlier ↦ elim (wave.born.born (sym marking ∙ marks) cell within earlier) [
                  | inl is ↦ inl (same_marked cell ∙ is)
                  | inr owes ↦ inr (carried cell owes.0 owes.1)
                ]
                | inr now ↦ inr (
                  me,
                  subst (λ (u : View). OwesColour u.duty cell) (sym (put_here part me w))
                      (s.born cell now),
                )
              ];
          owed = λ marks. put_at_elim (λ p u. (cell : ℕ) → OwesColour u.duty cell →
              AwaitsColour layout new longer p cell) part me w (s.awaits (sym marking ∙ marks))
              (λ p apart cell owes. other_awaits p cell apart (wave.born.owed (sym marking ∙ marks) p cell owes));
          alive = each_put (λ p u. (cell : ℕ) → OwesColour u.duty cell → IsLive after cell) part me w now_of.awaited
              (λ p cell owes. now_of.alive cell (wave.born.alive p cell owes));
          white = put_at_elim (λ p u. (cell : ℕ) → OwesColour u.duty cell → is_marked new cell ≡ false) part me w
              (λ cell owes. same_marked cell ∙ s.white cell owes)
              (λ p apart cell owes. same_marked cell ∙ wave.born.white p cell owes);
          owner = s.owner;
          once = put_at_elim (λ p u. (cell : ℕ) → OwesColour u.duty cell → s.owner cell ≡ p) part me w s.once
              (λ p apart cell. s.once_others p cell apart);
        }
          where
            -- a live cell's link, as the graph has it
            place_of_link : (source cell : ℕ) → IsLink after source cell → (place : Place) ×
                LinkAt after source place cell
            place_of_link source cell (in_slot n alive is) = (slot n, (alive, is))
            place_of_link source cell (in_property n alive below is) = (property n, (alive, below, is))

            other_awaits : (p cell : ℕ) → p ≢ me → AwaitsColour layout old log p cell →
                AwaitsColour layout new longer p cell
            other_awaits p cell apart a = let h = now_of.hidden p cell apart a.alive a.hidden in record {
              is_new = Growing.born-old layout log (call_of me op reply took) refl cell a.is_new;
              alive = now_of.alive cell a.alive;
              white = same_marked cell ∙ a.white;
              kept = retained_longer cell a.kept;
              alone = λ source link. elim (Growing.link_cases layout log (call_of me op reply took) refl source cell
                  link) [
                    | inl earlier ↦ a.alone source earlier
                    | inr now ↦ (let (place, link) = place_of_link source cell now in h.linked source place link)
                  ];
              hidden = h;
            }

            carried : (cell p : ℕ) → OwesColour (part p).duty cell → (p : ℕ) × OwesColour (put_at part me w p).duty cell
            carried cell p owes = elim (cases_eq p me) [
              | inl same ↦ absurd (s.born_before cell (subst (λ (p : ℕ). OwesColour (part p).duty cell) same owes))
              | inr apart ↦ (p, subst (λ (u : View). OwesColour u.duty cell) (sym (put_else part me p w apart)) owes)
            ]
