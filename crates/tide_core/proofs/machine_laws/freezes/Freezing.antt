-- The empty heap meets the wave at a freeze; a freeze leads to it, and an opening from it.
use Rattle.std.proofs.Common.{ℕ, zero, suc, ◌≡◌, refl, sym, ◌∙◌, ap, subst, arith, false, List, [], inl, inr, length, Option}
use Rattle.std.proofs.lemmas.Bool.{cases_Bool}
use Rattle.std.proofs.lemmas.List.Sums.{length-filter}
use Rattle.std.specs.Prelude.{Contains, ◌%◌, ◌^◌}
use Rattle.tide_words.specs.tide_layout.Slots.{total_below}
use Rattle.tide_words.specs.tide_layout.declared.region.Region.{Region}
use Rattle.tide_words.specs.tide_layout.declared.region.Region.TheVariants.{Period}
use Rattle.tide_core.specs.machine.Duties.{OwesColour, StillOwes}
use Rattle.tide_core.specs.machine.Frozen.{FrozenWith, FrozenMachine, first_world}
use Rattle.tide_core.proofs.machine_laws.steps.Lists.{nothing_in}
use Rattle.tide_core.specs.machine.Owed.{Owes, Unsettles, owed_word, unsettled}
use Rattle.tide_core.specs.machine.RunningWave.{RunningWave}
use Rattle.tide_core.specs.machine.Scanning.{Place, slot, property}
use Rattle.tide_core.specs.machine.World.{World, total, holds, parties, pushes}
use Rattle.tide_core.specs.declared.machine.view.Duty.{Duty}
use Rattle.tide_core.specs.declared.machine.view.Owed.{Owed}
use Rattle.tide_core.specs.declared.machine.view.Sweeping.{Sweeping}
use Rattle.tide_core.specs.machine.points.Links.{LinkAt, ScanExcuses, IsExcused}
use Rattle.tide_core.specs.machine.points.Marks.{counted_in}
use Rattle.tide_core.specs.machine.kinds.Sweep.{IsSweeping}
use Rattle.tide_model.proofs.Histories.{IsLawful-nil}
use Rattle.tide_model.specs.Cycle.{HasDead, dead_cell, dead_array}
use Rattle.tide_model.specs.Graph.{in_slot, in_property}
use Rattle.tide_model.specs.History.{is_call_of, is_open, state_after}
use Rattle.tide_model.specs.Layout.{Layout}
use Rattle.tide_model.specs.Prefix.{prefix_refl}
use Rattle.tide_model.specs.Refused.{ShapeLists}
use Rattle.tide_model.specs.Since.{SweptWereTaken, TakenAreSwept, since}
use Rattle.tide_model.specs.State.{empty_state}
use Rattle.tide_model.specs.declared.entry.Event.{Event}
use Rattle.tide_words.proofs.heap_laws.Frames.{ReadsAs-same}
use Rattle.tide_words.proofs.marking_laws.EmptyMarking.{Marking-empty}
use Rattle.tide_words.specs.marking.Colours.{IsBlack, IsMarked}
use Rattle.tide_core.proofs.machine_laws.steps.BaseBounds.{base_is_soon, colours_count}
use Rattle.tide_core.proofs.machine_laws.steps.MarkedLives.{marked_is_live}
use Rattle.tide_words.specs.marking.Marked.{is_marked}
use Rattle.tide_words.specs.marking.Marking.{times_in}
use Rattle.tide_words.specs.tide_layout.declared.region.Region.TheVariants as region
use Rattle.tide_core.specs.declared.machine.view.Duty.TheVariants as duty

-- before anything happened the machine is frozen, and the wave holds
pub FrozenMachine-first : (layout : Layout) (shapes : ShapeLists) → FrozenMachine layout shapes first_world 0
FrozenMachine-first layout shapes = record {
  wave = record {
    lawful = IsLawful-nil layout shapes;
    span = record {
      roots = λ marks. absurd (cc);
      links = λ marks. absurd (cc);
      triples = λ marks. absurd (cc);
      group_mates =
          λ marks. absurd (cc);
    };
    marking = Marking-empty layout shapes;
    cycle = omega arith;
    period = refl;
    calls = λ who within. refl;
    old = record {
      old = λ when cell within is. absurd (cc);
      rests = λ idle cell within is. absurd (cc);
      base = refl;
    };
    retained = λ marks. absurd (cc);
    born = λ marks. absurd (cc);
    counted = λ marks. absurd (cc);
    swept = record { last = λ block within. omega arith; ended = λ marks. absurd (cc) };
    clean = λ block within taken has. none_dead block has;
    swept_told = λ idle some. absurd (omega (arith, some));
  };
  begun = λ p. omega arith;
  left = λ p. refl;
  known = record { who = λ p. refl; seen = λ p. prefix_refl []; own = λ p. refl; told = λ p. refl };
  stopped = λ p. refl;
  stops = λ p party. refl;
  parked = record {
    held = λ p rests. refl;
    scan = λ p rests. refl;
    owed = λ p rests. refl;
    duty = λ p rests. refl;
    growth = λ p rests. refl;
    known = λ p rests. refl;
    full = λ p rests. refl;
    calls = λ p rests. refl;
    sweeping = λ p rests. refl;
    saw = λ p rests. refl;
    cleared = λ p rests. refl;
  };
}
  where
    none_dead : (block : ℕ) → HasDead layout empty_state block → ⊥
    none_dead block (dead_cell cell within of_block is) = absurd (cc)
    none_dead block (dead_array array within of_block is) = absurd (cc)

pub total_none : (f : ℕ → ℕ) (n : ℕ) → ((k : ℕ) → f k ≡ 0) → total_below f n ≡ 0
total_none f zero none = refl
total_none f (suc n) none = (let before = total_none f n none in let last = none n in omega (arith, before, last))

module _ (layout : Layout) (shapes : ShapeLists) (w : World) (wave : RunningWave layout shapes w) (parked : (p : ℕ) →
    (w.part p).runs ≡ false) where
  no_duty : (p : ℕ) → (w.part p).duty ≡ duty.Nothing
  no_duty p = wave.parked.duty p (parked p)

  nobody_owes : (p : ℕ) (at : Region) (index word : ℕ) → Owes (w.part p) at index word → ⊥
  nobody_owes p at index word owes =
      (let below = (subst (λ (l : List Owed). Contains l (owed_word at index word)) (wave.parked.owed p (parked p))
      owes).1 in omega (arith, below))

  holds_none : (cell p : ℕ) → holds cell (w.part p) ≡ 0
  holds_none cell p =
      let stack = ap (λ (l : List ℕ). times_in l cell) (wave.parked.held p (parked p)) in
      let push = ap (λ (d : Duty). pushes d cell) (no_duty p) in
      omega (arith, stack, push)

  nobody_unsettles : (p : ℕ) (at : Region) (index word : ℕ) → Unsettles (w.part p) at index word → ⊥
  nobody_unsettles p at index word un = nothing_in (owed_word at index word)
      (subst (λ (o : Option Sweeping). Contains (unsettled o) (owed_word at index word)) (wave.parked.sweeping p (parked p)) un)

  nobody_sweeps : (block : ℕ) → (p : ℕ) × IsSweeping (w.part p) block → ⊥
  nobody_sweeps block (p, s) = (let none = wave.parked.sweeping p (parked p) in let is = s.is in absurd (cc))

  -- each block that was taken in the part is swept there
  all_swept : TakenAreSwept (since is_open w.log)
  all_swept block = elim (wave.sweeps.taken block) [
    | inl swept ↦ swept
    | inr sweeps ↦ absurd (nobody_sweeps block sweeps)
  ]

  -- and each sweep in it stands behind such a taking
  pub parts_sweep : TakenAreSwept (since is_open w.log) × SweptWereTaken (since is_open w.log)
  parts_sweep = (all_swept, wave.sweeps.swept)

  nobody_excuses : (source : ℕ) (place : Place) (cell : ℕ) → IsExcused w.heap w.part source place cell → ⊥
  nobody_excuses source place cell ex = elim ex.excuse [
    | inl owes ↦ subst (λ (d : Duty). StillOwes w.heap d source) (no_duty ex.by) owes
    | inr answers ↦ subst (ScanExcuses w.heap source place cell) (wave.parked.scan ex.by (parked ex.by)) answers
  ]

  linked : (source cell : ℕ) → IsBlack w.heap source → (place : Place) →
      LinkAt (state_after layout w.log) source place cell → IsMarked w.heap cell
  linked source cell black place link = elim (cases_Bool (is_marked w.heap cell)) [
    | inl is ↦ is
    | inr isnt ↦ absurd (nobody_excuses source place cell (wave.black.excused source place cell link black isnt))
  ]

  pub FrozenWith-running : FrozenWith layout shapes w.heap w.log (total (counted_in (w.heap region.Period 0)) w.part)
  FrozenWith-running = record {
    lawful = wave.lawful;
    cycle = wave.numbers.cycles;
    period = wave.numbers.periods;
    calls = λ who within. wave.calls who within ∙ ap (λ (n : ℕ). n % 2 ^ 64) (wave.parked.calls who (parked who)
        ∙ ap length (sym (wave.known.own who)) ∙ length-filter (λ (event : Event). is_call_of who event.entry) w.log);
    marking = record {
      reads = ReadsAs-same layout shapes wave.words.settled w.heap (state_after layout w.log) (λ at read index below.
          wave.words.same at index read (λ p word owes. nobody_owes p at index word owes)
          (λ p word un. nobody_unsettles p at index word un)) wave.words.reads;
      references = wave.refs;
      few_cycles = wave.few_cycles;
      colours = wave.colours;
      counts = colours_count layout shapes w wave;
      soon = base_is_soon layout shapes w wave;
      held = record {
        each_once = λ cell within.
            let once = wave.held.held cell within in
            let none = total_none (λ p. holds cell (w.part p)) parties (holds_none cell) in
            let empty : times_in [] cell ≡ 0 = refl in
            omega (arith, once, none, empty);
        of_layout = λ cell at. absurd (let below = at.1 in omega (arith, below));
      };
      black = λ source cell black link. elim link [
        | in_slot n alive is ↦ linked source cell black (slot n) (alive, is)
        | in_property n alive below is ↦ linked source cell black (property n) (alive, below, is)
      ];
      live = marked_is_live layout shapes w wave;
    };
    old = wave.old;
    retained = wave.retained.marked;
    span = wave.span;
    born = λ marks cell within since. elim (wave.born.born marks cell within since) [
      | inl is ↦ is
      | inr owes ↦ absurd (subst (λ (d : Duty). OwesColour d cell) (no_duty owes.0) owes.1)
    ];
    counted = wave.counted.counted;
    swept = wave.swept;
    clean = λ block within taken has. nobody_sweeps block (wave.sweeps.named.named block within taken has);
    swept_told = wave.sweeps.told;
  }

-- once nobody runs the machine is frozen, with the visits that views count
pub FrozenMachine-running : (layout : Layout) (shapes : ShapeLists) (w : World) → RunningWave layout shapes w →
    ((p : ℕ) → (w.part p).runs ≡ false) →
    FrozenMachine layout shapes w (total (counted_in (w.heap region.Period 0)) w.part)
FrozenMachine-running layout shapes w wave parked = record {
  wave = FrozenWith-running layout shapes w wave parked;
  known = wave.known;
  begun = wave.numbers.begun;
  left = wave.left;
  stopped = parked;
  parked = wave.parked;
  stops = wave.stops;
}
