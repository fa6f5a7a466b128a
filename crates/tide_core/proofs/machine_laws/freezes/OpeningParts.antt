-- A part is opened: the wave at a freeze leads to the running one.
use Rattle.std.proofs.Common.{ℕ, ◌≡◌, ◌+◌, ◌≤◌, refl, sym, ◌∙◌, ap, subst, arith, Bool, true, false, List, [], ◌∷◌, ◌++◌, inl, inr, Some, length, append-nil}
use Rattle.std.proofs.lemmas.List.Elements.{filter-append}
use Rattle.std.proofs.lemmas.List.Sums.{length-filter}
use Rattle.std.specs.Prelude.{Contains, filter, if◌then◌else◌, ◌&&◌, ◌<◌, not, ◌%◌, ◌^◌}
use Rattle.tide_core.specs.wave.Entered.{with_open}
use Rattle.tide_core.specs.wave.FrozenWave.{is_born_in_cycle, is_of_visit}
use Rattle.tide_cycle.specs.GreyWords.{IsShared}
use Rattle.tide_core.proofs.machine_laws.freezes.Freezing.{total_none}
use Rattle.tide_core.proofs.machine_laws.steps.ArraysKept.{arrays_read}
use Rattle.tide_core.proofs.machine_laws.steps.BareTables.{TablesAreBare-lawful}
use Rattle.tide_core.proofs.machine_laws.steps.Colouring.{count_where-le}
use Rattle.tide_core.proofs.machine_laws.steps.Lists.{nothing_in}
use Rattle.tide_core.proofs.machine_laws.steps.SweepsKept.{swept_kept, told_kept}
use Rattle.tide_core.specs.machine.Duties.{OwesColour}
use Rattle.tide_core.specs.machine.Frozen.{FrozenMachine, FrozenWith, MayOpen}
use Rattle.tide_core.specs.machine.Owed.{owed_word}
use Rattle.tide_core.specs.machine.RunningWave.{RunningWave}
use Rattle.tide_core.specs.machine.Scanning.{Place, slot, property}
use Rattle.tide_core.specs.machine.Words.{count_of}
use Rattle.tide_core.specs.machine.World.{World, first_visitor, holds, parties, pushes}
use Rattle.tide_core.specs.declared.machine.view.Duty.{Duty}
use Rattle.tide_core.specs.declared.machine.view.Scan.{Scan}
use Rattle.tide_core.specs.declared.machine.view.View.{View}
use Rattle.tide_core.specs.machine.points.Arrays.{ArraysStand}
use Rattle.tide_core.specs.machine.points.Growths.{GrowthKnows}
use Rattle.tide_core.specs.machine.points.Links.{LinkAt}
use Rattle.tide_core.specs.machine.points.Scans.{IsAtHand, held, scanned, buffered}
use Rattle.tide_core.specs.machine.points.Seen.{IsKnown, WhoLeftIsInactive, ParkedIsEmpty}
use Rattle.tide_core.specs.machine.points.Stops.{StopsAreTold}
use Rattle.tide_core.specs.machine.points.Sweeps.{Sweeps}
use Rattle.tide_core.specs.machine.points.Witness.{IsLeft, in_word}
use Rattle.tide_model.proofs.OldLaws.{is_full-push, is_old-push, is_spared-push, last_full-kept, spared_retained-push}
use Rattle.tide_model.proofs.Cycles.{graph_in_span}
use Rattle.tide_model.proofs.DeadLaws.{WasTaken-before, WasTaken-push}
use Rattle.tide_model.proofs.Histories.{IsLawful-push, state_after-push, moment_after_last-le}
use Rattle.tide_model.proofs.PeriodLaws.{Each-nil}
use Rattle.tide_model.proofs.SinceLaws.{count-push, since-none}
use Rattle.tide_model.specs.Old.{is_full, is_old, is_spared}
use Rattle.tide_model.specs.Cycle.{cycle_span, HasDead}
use Rattle.tide_model.specs.Graph.{IsLink, in_slot, in_property, IsRoot, IsTriple, AreGroupMates, IsWithin, graph_of}
use Rattle.tide_model.specs.History.{is_open, plain, state_after, is_begin, is_call_of, moment_after_last}
use Rattle.tide_model.specs.Layout.{Layout, cell_count}
use Rattle.tide_model.specs.Periods.{open_count}
use Rattle.tide_model.specs.Prefix.{prefix_trans, prefix_push}
use Rattle.tide_model.specs.References.{IsLive, RefsAreLive}
use Rattle.tide_model.specs.Refused.{ShapeLists}
use Rattle.tide_model.specs.Since.{SweepsTaken, SweptWereTaken, is_sweep_of, is_taken_of, visits_since}
use Rattle.tide_model.specs.State.{State, is_free}
use Rattle.tide_model.specs.declared.entry.Entry.TheVariants.{Open}
use Rattle.tide_model.specs.declared.entry.Event.{Event}
use Rattle.tide_words.proofs.heap_laws.Frames.{ReadsAs-write_unread}
use Rattle.tide_words.proofs.heap_laws.ReadingLaws.{live_within}
use Rattle.tide_words.specs.heap.Heap.{Heap, write}
use Rattle.tide_words.specs.heap.Reading.{ReadsAs}
use Rattle.tide_words.specs.marking.Colours.{is_black, is_grey, is_marking}
use Rattle.tide_words.specs.marking.Marking.{times_in}
use Rattle.tide_words.specs.tide_layout.declared.region.Region.TheVariants as region
use Rattle.tide_core.proofs.machine_laws.steps.Growing

module _ (layout : Layout) (shapes : ShapeLists) (heap : Heap) (part : ℕ → View) (before : List Event) (run : ℕ)
    (wave : FrozenWith layout shapes heap before 0) (known : IsKnown before part) (empty : ParkedIsEmpty part)
    (parked : (p : ℕ) → (part p).runs ≡ false) (earlier : (p : ℕ) → (part p).begun ≤ heap region.Period 0)
    (left : WhoLeftIsInactive part (state_after layout before)) (stops : StopsAreTold layout heap part)
    (may : MayOpen layout heap run) where
  abbrev number : ℕ
  number = open_count before + 1

  abbrev log : List Event
  log = before ++ plain (Open number run) ∷ []

  abbrev new : Heap
  new = write heap region.Period 0 number

  same_state : state_after layout log ≡ state_after layout before
  same_state = state_after-push layout before (plain (Open number run))

  nothing : {X : Type 0} (xs : List X) (x : X) → xs ≡ [] → Contains xs x → ⊥
  nothing {X} xs x is at = let below = (subst (λ (l : List X). Contains l x) is at).1 in omega (arith, below)

  no_scan : {X : Type 0} (p : ℕ) (scan : Scan) → (part p).scan ≡ Some scan → X
  no_scan p scan is = (let none = empty.scan p (parked p) in absurd (cc))

  no_sweep : {X : Type 0} (p block : ℕ) → Sweeps (part p) block → X
  no_sweep p block s = (let none = empty.sweeping p (parked p) in let is = s.is in absurd (cc))

  reads_still : ReadsAs layout shapes new (state_after layout before)
  reads_still = ReadsAs-write_unread layout shapes heap (state_after layout before) region.Period 0 number refl
      wave.marking.reads

  -- a cell with a bit in a shared word is grey, and the first visitor hasn't begun in the part that is opened
  for_first : is_marking heap ≡ true → 0 < layout.visitors →
      (cell : ℕ) × (cell < cell_count layout) × IsShared heap cell → IsLeft layout new part
  for_first marks visitors (cell, within, shared) = record {
    cell = cell;
    within = within;
    grey = by (is_grey heap cell) refl;
    who = first_visitor;
    is_visitor = (omega arith, omega (arith, visitors));
    left = in_word shared (inl (λ same. let b = earlier first_visitor in let period = wave.period in
        omega (arith, b, period, same)));
  }
    where
      by : (b : Bool) → is_grey heap cell ≡ b → b ≡ true
      by true is = refl
      by false isnt = (let once = wave.marking.held.each_once cell within in
          let none = ap {B = ℕ} (λ (b : Bool). if b then 1 else 0) isnt in absurd (omega (arith, once, none, shared)))

  old_same : (cell : ℕ) → is_old layout log cell ≡ is_old layout before cell
  old_same = is_old-push layout before (plain (Open number run)) refl

  full_same : is_full log ≡ is_full before
  full_same = is_full-push layout before (plain (Open number run)) refl refl

  born_same : (cell : ℕ) → is_born_in_cycle log cell ≡ is_born_in_cycle before cell
  born_same = Growing.born-same layout before (plain (Open number run)) refl (λ cell. refl)

  linked : (source cell : ℕ) (place : Place) → LinkAt (state_after layout before) source place cell →
      IsLink (state_after layout before) source cell
  linked source cell (slot n) link = in_slot n link.0 link.1
  linked source cell (property n) link = in_property n link.0 link.1 link.2

  pub open_part : RunningWave layout shapes (record { heap = new; part = part; log = log })
  open_part = record {
    lawful = IsLawful-push layout shapes before (plain (Open number run)) wave.lawful refl;
    known = record {
      who = known.who;
      seen = λ p. prefix_trans (part p).seen before log (known.seen p) (prefix_push before (plain (Open number run)));
      own = λ p. filter-append (λ (event : Event). is_call_of p event.entry) before (plain (Open number run) ∷ []) ∙
          append-nil (filter (λ (event : Event). is_call_of p event.entry) before) ∙ known.own p;
      told = known.told;
    };
    numbers = record {
      cycles = wave.cycle ∙ sym (Growing.begin_count-push layout before (plain (Open number run)) refl);
      periods = (let counted = count-push (λ e. is_open e.entry) before (plain (Open number run)) in
          omega (arith, counted));
      told = λ p runs. (let rests = parked p in absurd (cc));
      begun = λ p. (let b = earlier p in let period = wave.period in omega (arith, b, period));
    };
    words = record {
      settled = new;
      reads = subst (ReadsAs layout shapes new) (sym same_state) reads_still;
      same = λ at index read free swept. refl;
      given = λ p s is gave. absurd (let none = empty.sweeping p (parked p) in cc);
      owed = λ p at index word owes. absurd
          (nothing (part p).owed (owed_word at index word) (empty.owed p (parked p)) owes);
      known = λ p at index word is. absurd
          (nothing (part p).known (owed_word at index word) (empty.known p (parked p)) is);
      owns = λ p at index word owes. absurd
          (nothing (part p).owed (owed_word at index word) (empty.owed p (parked p)) owes);
    };
    part_alone = λ event at. absurd
        (nothing_in event (subst (λ (l : List Event). Contains l event)
        (since-none is_open before (plain (Open number run)) refl) at));
    calls = λ p within. wave.calls p within ∙ ap (λ (n : ℕ). n % 2 ^ 64)
        (sym (length-filter (λ (event : Event). is_call_of p event.entry) before) ∙ ap length (known.own p) ∙
        sym (empty.calls p (parked p)));
    few_cycles = wave.marking.few_cycles;
    refs = subst RefsAreLive (sym same_state) wave.marking.references;
    colours = wave.marking.colours;
    hands = record { cells = λ p cell at. absurd (at_hand p cell at); arrays = λ p array scan is. no_scan p scan is };
    kept = record {
      reads = λ p at index word is. absurd
          (nothing (part p).known (owed_word at index word) (empty.known p (parked p)) is);
      owns = λ p at index word is. absurd
          (nothing (part p).known (owed_word at index word) (empty.known p (parked p)) is);
      known = λ p at index word is. absurd
          (nothing (part p).known (owed_word at index word) (empty.known p (parked p)) is);
      full = λ p block moment word is. absurd (nothing (part p).full (record { block = block; moment = moment; word = word })
          (empty.full p (parked p)) is);
    };
    held = record {
      held = λ cell within.
          let once = wave.marking.held.each_once cell within in
          let none = total_none (λ p. holds cell (part p)) parties (λ p. holds_none cell p) in
          let no_list : times_in [] cell ≡ 0 = refl in
          omega (arith, once, none, no_list);
    };
    rests = record {
      held = λ idle p. empty.held p (parked p);
      scans = λ idle p. empty.scan p (parked p);
    };
    black = record {
      excused = λ source place cell link black white.
          (let is = wave.marking.black source cell black
          (linked source cell place (subst (λ (t : State). LinkAt t source place cell) same_state link)) in
          absurd (cc));
    };
    old = record {
      old = λ when cell within is. wave.old.old (λ marks. sym full_same ∙ when marks) cell within (sym (old_same cell) ∙ is);
      rests = λ idle cell within is. old_same cell ∙ wave.old.rests idle cell within is;
      base = wave.old.base ∙ sym (last_full-kept before (plain (Open number run)) refl);
    };
    retained = record {
      marked = λ marks cell within is. spared_retained-push layout before (plain (Open number run)) refl refl cell
          (wave.retained marks cell within is);
      scanned = λ p scan is. no_scan p scan is;
      buffered = λ p cell scan is. no_scan p scan is;
    };
    span = record {
      roots = λ marks cell root. subst (λ (t : State). IsLive t cell) (sym same_state)
          (elim (Growing.root_cases layout before (plain (Open number run)) refl cell root) [
            | inl earlier ↦ wave.span.roots marks cell earlier
            | inr now ↦ wave.span.roots marks cell
                (in_before.roots cell (subst (λ (t : State). IsRoot t cell) same_state now))
          ]);
      links = λ marks source cell link. subst (λ (t : State). IsLive t source × IsLive t cell) (sym same_state)
          (elim (Growing.link_cases layout before (plain (Open number run)) refl source cell link) [
            | inl earlier ↦ wave.span.links marks source cell earlier
            | inr now ↦ wave.span.links marks source cell
                (in_before.links source cell (subst (λ (t : State). IsLink t source cell) same_state now))
          ]);
      triples = λ marks table key cell triple.
          subst (λ (t : State). IsLive t cell) (sym same_state)
          (elim (Growing.triple_cases layout before (plain (Open number run)) refl table key cell triple) [
            | inl earlier ↦ wave.span.triples marks table key cell earlier
            | inr now ↦ wave.span.triples marks table key cell
                (in_before.triples table key cell (subst (λ (t : State). IsTriple t table key cell) same_state now))
          ]);
      group_mates = λ marks one other group_mate. subst (λ (t : State). IsLive t one × IsLive t other) (sym same_state)
          (elim (Growing.group_mate_cases layout before (plain (Open number run)) refl one other group_mate) [
            | inl earlier ↦ wave.span.group_mates marks one other earlier
            | inr now ↦ wave.span.group_mates marks one other
                (in_before.group_mates one other (subst (λ (t : State). AreGroupMates t one other) same_state now))
          ]);
    };
    born = record {
      born = λ marks cell within is. inl (wave.born marks cell within (sym (born_same cell) ∙ is));
      owed = λ marks p cell owes. absurd (subst (λ (d : Duty). OwesColour d cell) (empty.duty p (parked p)) owes);
      alive = λ p cell owes. absurd (subst (λ (d : Duty). OwesColour d cell) (empty.duty p (parked p)) owes);
      white = λ p cell owes. absurd (subst (λ (d : Duty). OwesColour d cell) (empty.duty p (parked p)) owes);
      owner = λ cell. 0;
      once = λ p cell owes. absurd (subst (λ (d : Duty). OwesColour d cell) (empty.duty p (parked p)) owes);
    };
    counted = record {
      counted = λ marks.
          let was = wave.counted marks in
          let same = entered_same in
          let few = count_where-le (λ c. is_black heap c && is_of_visit layout log c) (λ c.
          is_black heap c && is_of_visit layout before c) (cell_count layout)
          (λ c both. subst (λ (b : Bool). (is_black heap c && (not b && not (is_spared layout before c))) ≡ true) (born_same c)
          (subst (λ (b : Bool). (is_black heap c && (not (is_born_in_cycle log c) && not b)) ≡ true)
          (is_spared-push layout before (plain (Open number run)) refl refl c) both)) in
          omega (arith, was, same, few);
    };
    waits = λ marks visitors none. for_first marks visitors (may marks visitors).1;
    arrays = subst (ArraysStand layout new) (sym same_state) (arrays_read layout shapes new (state_after layout before)
        reads_still wave.marking.references);
    bare = TablesAreBare-lawful layout shapes log
        (IsLawful-push layout shapes before (plain (Open number run)) wave.lawful refl);
    swept = swept_kept layout heap new refl (λ block within. refl) wave.swept;
    sweeps = record {
      named = record {
        taken = λ p block s. no_sweep p block s;
        begun = λ p block s. no_sweep p block s;
        active = λ p block s. no_sweep p block s;
        owner = λ block. 0;
        once = λ p block s. no_sweep p block s;
        named = λ block within taken has. absurd (wave.clean block within (taken.0, taken.1)
            (subst (λ (t : State). HasDead layout t block) same_state has));
        stands = λ p s is. absurd (let none = empty.sweeping p (parked p) in cc);
        saw = λ p saw is. absurd (let none = empty.saw p (parked p) in cc);
      };
      told = told_kept layout heap new before log refl (λ block within. refl) (λ block. (
        WasTaken-push before (plain (Open number run)) block refl,
        WasTaken-before before (plain (Open number run)) block refl,
      )) wave.swept_told;
      taken = λ block. inl (subst (λ (l : List Event). moment_after_last (λ e. is_taken_of block e.entry) l
          ≤ moment_after_last (λ e. is_sweep_of block e.entry) l) (sym (since-none is_open before (plain (Open number run)) refl))
          (omega arith));
      took = λ p block s. no_sweep p block s;
      swept = subst SweptWereTaken (sym (since-none is_open before (plain (Open number run)) refl)) (Each-nil SweepsTaken);
      cleared = λ p one is. absurd (nothing (part p).cleared one (empty.cleared p (parked p)) is);
    };
    left = subst (WhoLeftIsInactive part) (sym same_state) left;
    scans = record { knows = λ p scan is. no_scan p scan is };
    grows = record {
      beyond = λ marks source n cell link past.
          absurd (told source n cell (subst (λ (t : State). LinkAt t source (property n) cell) same_state link) past);
    };
    growths = record {
      knows = λ p. subst (GrowthKnows new (state_after layout log) p (part p))
          (sym (empty.growth p (parked p))) tt;
    };
    targets = record { right = λ p scan target is. no_scan p scan is };
    parked = empty;
    stops = stops;
  }
    where
      in_before : IsWithin (graph_of (state_after layout before)) (cycle_span layout before)
      in_before = graph_in_span layout before (moment_after_last (λ event. is_begin event.entry) before)
          (moment_after_last-le (λ event. is_begin event.entry) before)

      holds_none : (cell p : ℕ) → holds cell (part p) ≡ 0
      holds_none cell p =
          let stack = ap (λ (l : List ℕ). times_in l cell) (empty.held p (parked p)) in
          let push = ap (λ (d : Duty). pushes d cell) (empty.duty p (parked p)) in
          omega (arith, stack, push)

      at_hand : (p cell : ℕ) → IsAtHand (part p) cell → ⊥
      at_hand p cell (held is) = nothing (part p).held cell (empty.held p (parked p)) is
      at_hand p cell (scanned scan is at) = no_scan p scan is
      at_hand p cell (buffered scan is at) = no_scan p scan is

      entered_same : visits_since is_begin log ≡ visits_since is_begin before
      entered_same = (let now = Growing.visits-push layout before (plain (Open number run)) refl in omega (arith, now))

      -- the structure's word of a live cell tells all its properties
      told : (source n cell : ℕ) → LinkAt (state_after layout before) source (property n) cell →
          count_of (heap region.Structure source) ≤ n → ⊥
      told source n cell link past =
          let within = live_within layout shapes heap (state_after layout before) source wave.marking.reads link.0 in
          let is = ((wave.marking.reads.parts.cells source within).taken (ap is_free link.0)).keys in
          let word = is.is_word in
          let few = is.few_keys in
          let below = link.1 in
          omega (arith, word, few, below, past)

-- a part is opened
pub RunningWave-opened : (layout : Layout) (shapes : ShapeLists) (w : World) (run : ℕ) →
    FrozenMachine layout shapes w 0 → MayOpen layout w.heap run →
    RunningWave layout shapes (record w {
      heap = write w.heap region.Period 0 (open_count w.log + 1);
      log =
          with_open w.log run;
    })
RunningWave-opened layout shapes w run f may =
    open_part layout shapes w.heap w.part w.log run f.wave f.known f.parked f.stopped f.begun f.left f.stops
    may
