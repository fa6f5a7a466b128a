-- A step that makes no entry, where no cycle marks: what is said of a cycle says nothing, and colours stay.
use Rattle.std.proofs.Common.{ℕ, ◌≡◌, ◌<◌, refl, sym, ◌∙◌, ap, subst, arith, Bool, true, false, List, inl, inr, Option, Some}
use Rattle.std.specs.Prelude.{Contains, if◌then◌else◌}
use Rattle.tide_words.specs.tide_layout.declared.region.Region.{Region}
use Rattle.tide_core.proofs.machine_laws.steps.Frames.{calls_view, stops_view}
use Rattle.tide_core.proofs.machine_laws.steps.GrowthsKept.{growth_kept}
use Rattle.tide_core.proofs.machine_laws.steps.Barriers.{still_owes}
use Rattle.tide_core.proofs.machine_laws.steps.SameColours.{bits_same, is_grey-same, is_marked-same}
use Rattle.tide_core.proofs.machine_laws.steps.Steps.{any_step}
use Rattle.tide_core.specs.machine.Scanning.{Place}
use Rattle.tide_core.specs.machine.Owed.{owed_word}
use Rattle.tide_core.specs.machine.RunningWave.{RunningWave}
use Rattle.tide_core.specs.machine.World.{World, parties}
use Rattle.tide_core.specs.declared.machine.view.Saw.{Saw}
use Rattle.tide_core.specs.declared.machine.view.Scan.{Scan}
use Rattle.tide_core.specs.declared.machine.view.Sweeping.{Sweeping}
use Rattle.tide_core.specs.declared.machine.view.View.{View}
use Rattle.tide_core.specs.machine.points.Arrays.{ArraysStand}
use Rattle.tide_core.specs.machine.points.Growths.{GrowthKnows}
use Rattle.tide_core.specs.machine.points.Links.{ScanExcuses}
use Rattle.tide_core.specs.machine.points.Scans.{held, scanned, buffered}
use Rattle.tide_core.specs.machine.points.SettledWords.{RunningWordsRead}
use Rattle.tide_core.specs.machine.points.Sweeps.{SweepsAreRight, SweptAreBelow}
use Rattle.tide_model.specs.History.{state_after}
use Rattle.tide_model.specs.Layout.{Layout, block_of_cell}
use Rattle.tide_model.specs.Numbers.{put_at}
use Rattle.tide_model.specs.Refused.{ShapeLists}
use Rattle.tide_model.specs.State.{State}
use Rattle.tide_sweep.specs.declared.port.Cleared.{Cleared}
use Rattle.tide_words.specs.heap.Heap.{Heap}
use Rattle.tide_words.specs.marking.Colours.{is_grey, is_marking, running_cycle}
use Rattle.tide_words.specs.marking.Marked.{is_marked}
use Rattle.tide_words.specs.marking.Marking.{bits_of}
use Rattle.tide_words.specs.tide_layout.declared.region.Region.TheVariants as region

-- the regions that no step of a sweep writes and that aren't read
abbrev pub is_left : Region → Bool
is_left region.Phase = true
is_left region.Base = true
is_left region.Period = true
is_left region.Call = true
is_left region.Stopped = true
is_left region.Colour = true
is_left region.GreyShared = true
is_left region.GreyMutator = true
is_left region.GreyRace = true
is_left _ = false

module _ (layout : Layout) (shapes : ShapeLists) (w : World) (me : ℕ) (inside : me < parties)
    (wave : RunningWave layout shapes w) (runs : (w.part me).runs ≡ true) (idle : is_marking w.heap ≡ false)
    (new : Heap) (sweeping : Option Sweeping) (saw : Option Saw) (cleared : List Cleared) where
  abbrev state : State
  state = state_after layout w.log

  abbrev pub idle_view : View
  idle_view = record (w.part me) { sweeping = sweeping; saw = saw; cleared = cleared }

  -- what is left to show of such a step
  pub record ShowsIdle : Type 0 where
    pub same : (at : Region) (index : ℕ) → is_left at ≡ true → new at index ≡ w.heap at index
    pub words : RunningWordsRead layout shapes new (put_at w.part me idle_view) state
    pub known : (p : ℕ) (at : Region) (index word : ℕ) → Contains (w.part p).known (owed_word at index word) → new at index ≡ word
    pub arrays : ArraysStand layout new state
    pub growths : (p : ℕ) → GrowthKnows new state p (w.part p) (w.part p).growth
    pub swept : SweptAreBelow layout new
    pub sweeps : SweepsAreRight layout new (put_at w.part me idle_view) w.log

  marks_not : {X : Type 0} → is_marking w.heap ≡ true → X
  marks_not marks = absurd (let both = sym marks ∙ idle in cc)

  scans_not : {X : Type 0} (p : ℕ) (scan : Scan) → (w.part p).scan ≡ Some scan → X
  scans_not p scan is = absurd (let none = wave.rests.scans idle p in let both = sym none ∙ is in cc)

  excuse_not : (source : ℕ) (place : Place) (cell : ℕ) → ScanExcuses w.heap source place cell (w.part me).scan → ⊥
  excuse_not source place cell scans =
      subst (ScanExcuses w.heap source place cell) (wave.rests.scans idle me) scans

  module _ (s : ShowsIdle) where
    same_marked : (cell : ℕ) → is_marked new cell ≡ is_marked w.heap cell
    same_marked cell = is_marked-same w.heap new cell (s.same region.Base 0 refl) (s.same region.Colour cell refl)

    same_grey : (cell : ℕ) → is_grey new cell ≡ is_grey w.heap cell
    same_grey cell = is_grey-same w.heap new cell (s.same region.Base 0 refl) (s.same region.Colour cell refl)

    same_bits : (cell : ℕ) → bits_of new cell ≡ bits_of w.heap cell
    same_bits cell = bits_same w.heap new cell (s.same region.GreyShared (block_of_cell cell) refl)
        (s.same region.GreyMutator (block_of_cell cell) refl) (s.same region.GreyRace (block_of_cell cell) refl)

    pub idle_step : RunningWave layout shapes (record { heap = new; part = put_at w.part me idle_view; log = w.log })
    idle_step = any_step layout shapes w.heap w.part w.log me wave new idle_view record {
      inside = inside;
      phase = s.same region.Phase 0 refl;
      base = s.same region.Base 0 refl;
      period = s.same region.Period 0 refl;
      words = s.words;
      who = refl;
      seen = inl refl;
      mine = refl;
      knows = λ at index word is. (wave.kept.reads me at index word is, wave.kept.owns me at index word is, s.known me at index word is);
      knows_still = λ p at index word apart is. s.known p at index word is;
      finds = wave.kept.full me;
      told = λ _. wave.numbers.told me runs;
      begins = wave.numbers.begun me;
      left = refl;
      calls = calls_view layout w.heap new w.part me idle_view refl (λ p. s.same region.Call p refl) wave.calls;
      stops = stops_view layout w.heap new w.part me idle_view refl (λ i. s.same region.Stopped i refl) wave.stops;
      empties = λ is. absurd (cc);
      colours = λ cell within. (let c = s.same region.Colour cell refl in let few = wave.colours cell within in
          let running : running_cycle new ≡ running_cycle w.heap = ap (λ (p : ℕ). running_cycle (λ at index. p)) (s.same region.Phase 0 refl) in
          omega (arith, c, few, running));
      balance = λ cell within few. (let bits = same_bits cell in let grey =
          ap {B = ℕ} (λ (b : Bool). if b then 1 else 0) (same_grey cell) in omega (arith, bits, grey));
      rests = λ rests. (wave.rests.held rests me, wave.rests.scans rests me);
      at_hand = λ cell at. wave.hands.cells me cell (elim at [
        | held is ↦ held is
        | scanned scan is e ↦ scanned scan is e
        | buffered scan is e ↦ buffered scan is e
      ]);
      arrays = λ a scan is. scans_not me scan is;
      scanned = λ scan is. scans_not me scan is;
      waits = λ marks. marks_not (ap (λ (p : ℕ). is_marking (λ at index. p)) (sym (s.same region.Phase 0 refl)) ∙ marks);
      stands = s.arrays;
      swept = s.swept;
      sweeps = s.sweeps;
      growth = growth_kept new new state state me (w.part me) idle_view (λ c at. refl) (λ c at. refl) (λ c at. at)
          (λ c a at is. is) (λ c x o. o) (λ c x o. o) (λ i x o. o) (w.part me).growth (s.growths me);
      growths = λ p apart. s.growths p;
      scans = λ p scan apart is. scans_not p scan is;
      truer = λ p scan apart is. scans_not p scan is;
      -- no cell has another colour
      black = λ source place cell link black white. inr (
        s.same region.Colour source refl,
        sym (same_marked cell) ∙ white,
        λ e. inl (elim e [
          | inl owes ↦ inl (still_owes w.heap new (w.part me).duty source (s.same region.Colour source refl) owes)
          | inr scans ↦ absurd (excuse_not source place cell scans)
        ]),
      );
      beyond = λ marks. marks_not marks;
      stays = λ cell is. same_marked cell ∙ is;
      recoloured = λ marks. marks_not marks;
      aims = λ scan target is. scans_not me scan is;
      marked = λ cell within is. inl (sym (same_marked cell) ∙ is);
      born = λ marks. marks_not marks;
      owes = λ cell owes. (owes, same_marked cell ∙ wave.born.white me cell owes);
      counted = λ marks. marks_not marks;
    }
