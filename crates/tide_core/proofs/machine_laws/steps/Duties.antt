-- A step that changes the duty of its view alone, beside words that the reading doesn't look at.
use Rattle.std.proofs.Common.{ℕ, ◌≡◌, ◌+◌, ◌<◌, ◌≤◌, ◌⊎◌, refl, sym, ◌∙◌, arith, true, false, inl, inr, Some, List, ap}
use Rattle.std.specs.Prelude.{if◌then◌else◌}
use Rattle.tide_words.specs.tide_layout.declared.region.Region.{Region}
use Rattle.tide_core.proofs.machine_laws.steps.Frames.{calls_view, stops_view}
use Rattle.tide_core.proofs.machine_laws.steps.Quiet.{quiet_step}
use Rattle.tide_core.proofs.machine_laws.steps.Waiting.{SharedBit, left_quiet}
use Rattle.tide_core.specs.machine.Duties.{GrowsOn, OwesColour, AwaitsLoad, StillOwes}
use Rattle.tide_core.specs.machine.RunningWave.{RunningWave}
use Rattle.tide_core.specs.machine.Scanning.{Place}
use Rattle.tide_core.specs.machine.World.{parties, pushes}
use Rattle.tide_core.specs.declared.machine.view.Duty.{Duty}
use Rattle.tide_core.specs.declared.machine.view.Scan.{Scan}
use Rattle.tide_core.specs.declared.machine.view.View.{View}
use Rattle.tide_core.specs.machine.points.Links.{LinkAt}
use Rattle.tide_core.specs.machine.points.Scans.{held, scanned, buffered}
use Rattle.tide_model.specs.History.{state_after}
use Rattle.tide_model.specs.Layout.{Layout, cell_count}
use Rattle.tide_model.specs.Numbers.{put_at}
use Rattle.tide_model.specs.Refused.{ShapeLists}
use Rattle.tide_model.specs.declared.entry.Event.{Event}
use Rattle.tide_words.proofs.heap_laws.Frames.{is_read}
use Rattle.tide_words.specs.heap.Heap.{Heap}
use Rattle.tide_words.specs.marking.Colours.{is_marking, is_grey, IsBlack, IsGrey, IsMarked, running_cycle, IsStamped}
use Rattle.tide_words.specs.marking.Marked.{is_marked}
use Rattle.tide_words.specs.marking.Marking.{bits_of, NoLaterColours}
use Rattle.tide_core.specs.wave.FrozenWave.{blackened_count}
use Rattle.tide_words.specs.forms.ColourWord.{colour_cycle}
use Rattle.tide_words.specs.tide_layout.declared.region.Region.TheVariants as region

-- the view with another duty
abbrev pub with_duty : View → Duty → View
with_duty v d = record v { duty = d }

module _ (layout : Layout) (shapes : ShapeLists) (old : Heap) (part : ℕ → View) (log : List Event) (me : ℕ)
    (wave : RunningWave layout shapes (record { heap = old; part = part; log = log })) where
  pub record ShowsDuty (new : Heap) (d : Duty) : Type 0 where
    pub inside : me < parties
    pub runs : (part me).runs ≡ true
    pub words : (at : Region) (index : ℕ) → is_read at ≡ true → new at index ≡ old at index
    pub period : new region.Period 0 ≡ old region.Period 0
    pub call_words : (p : ℕ) → new region.Call p ≡ old region.Call p
    pub stop_words : (index : ℕ) → new region.Stopped index ≡ old region.Stopped index
    pub swept : (block : ℕ) → new region.Swept block ≡ old region.Swept block
    -- no grey cell gets another colour, and no bit of a shared word is cleared
    pub greys : is_marking old ≡ true → (cell : ℕ) → cell < cell_count layout → IsGrey old cell → IsGrey new cell
    pub shared : (cell : ℕ) → SharedBit old cell → SharedBit new cell
    pub colours : NoLaterColours layout new
    pub balance : (cell : ℕ) → cell < cell_count layout →
        bits_of old cell + pushes (part me).duty cell ≤ (if is_grey old cell then 1 else 0) →
        bits_of new cell + pushes d cell + (if is_grey old cell then 1 else 0) ≡ bits_of old cell + pushes
        (part me).duty cell + (if is_grey new cell then 1 else 0)
    pub black : (source : ℕ) (place : Place) (cell : ℕ) →
        LinkAt (state_after layout log) source place cell → IsBlack new source → is_marked new cell ≡ false →
        StillOwes new d source ⊎ ((new region.Colour source ≡ old region.Colour source) × (is_marked old cell ≡ false) ×
        (StillOwes old (part me).duty source → StillOwes new d source))
    -- a barrier that a growth owes is owed still
    pub grows : (cell : ℕ) → GrowsOn (part me).growth cell → AwaitsLoad (part me).duty cell → AwaitsLoad d cell
    pub stays : (cell : ℕ) → IsMarked old cell → IsMarked new cell
    pub recoloured : is_marking old ≡ true → (cell : ℕ) →
        (new region.Colour cell ≡ old region.Colour cell) ⊎ IsStamped new cell
    pub marked : (cell : ℕ) → cell < cell_count layout → IsMarked new cell → IsMarked old cell ⊎
        ((is_marking old ≡ true) × OwesColour (part me).duty cell)
    pub born : is_marking old ≡ true → (cell : ℕ) → OwesColour (part me).duty cell → OwesColour d cell ⊎
        IsMarked new cell
    pub owes : (cell : ℕ) → OwesColour d cell → OwesColour (part me).duty cell × (is_marked new cell ≡ false)
    pub counted : is_marking old ≡ true → blackened_count layout new log ≤ blackened_count layout old log

  pub duty_step : (new : Heap) (d : Duty) → ShowsDuty new d →
      RunningWave layout shapes (record { heap = new; part = put_at part me (with_duty (part me) d); log = log })
  duty_step new d s = quiet_step layout shapes old part log me wave new (with_duty (part me) d) record {
    inside = s.inside;
    words = s.words;
    who = refl;
    seen = refl;
    mine = refl;
    owed = refl;
    known = refl;
    full = refl;
    growth = refl;
    marks = refl;
    cycle = refl;
    mark_version = refl;
    begun = refl;
    period = s.period;
    left = refl;
    sweeping = refl;
    saw = refl;
    cleared = refl;
    swept = s.swept;
    waits = left_quiet layout old new part me (with_duty (part me) d) (s.words region.Phase 0 refl) s.period s.greys
        s.shared refl refl refl refl wave.waits;
    calls = calls_view layout old new part me (with_duty (part me) d) refl s.call_words wave.calls;
    stops = stops_view layout old new part me (with_duty (part me) d) refl s.stop_words wave.stops;
    ran = s.runs;
    runs = s.runs;
    colours = s.colours;
    balance = λ cell within few. (let even = s.balance cell within (omega (arith, few)) in
        omega (arith, even));
    rests = λ idle. (wave.rests.held idle me, wave.rests.scans idle me);
    at_hand = λ cell at. wave.hands.cells me cell (elim at [
      | held is ↦ held is
      | scanned scan is at ↦ scanned scan is at
      | buffered scan is at ↦ buffered scan is at
    ]);
    arrays = λ array scan. wave.hands.arrays me array scan;
    scanned = λ scan is. (
      stamped (marks_by scan is) scan.cell (wave.retained.scanned me scan is),
      wave.scans.knows me scan is,
      λ cell at. wave.retained.buffered me cell scan is at,
    );
    black = λ source place cell link black white. elim (s.black source place cell link black white) [
      | inl owes ↦ inl (inl owes)
      | inr before ↦ inr (
        before.0,
        before.1,
        λ excuse.
            inl (elim excuse [ inl owes ↦ inl (before.2 owes) | inr scans ↦ inr scans ]),
      )
    ];
    grows = λ cell g. record { grows = g.grows; owes = s.grows cell g.grows g.owes };
    stays = s.stays;
    recoloured = s.recoloured;
    aims = λ scan target. wave.targets.right me scan target;
    marked = λ cell within is. elim (s.marked cell within is) [
      | inl before ↦ inl before
      | inr owes ↦ inr (
        owes.0,
        (wave.born.owed owes.0 me cell owes.1).kept,
        λ p other also.
            other (sym (wave.born.once p cell also) ∙ wave.born.once me cell owes.1),
      )
    ];
    born = s.born;
    owes = s.owes;
    counted = λ marks. (let few = s.counted marks in omega (arith, few));
  }
    where
      running : running_cycle new ≡ running_cycle old
      running = ap (λ (word : ℕ). running_cycle (λ at index. word)) (s.words region.Phase 0 refl)

      -- what was marked in the cycle is so still
      stamped : is_marking old ≡ true → (cell : ℕ) → IsStamped old cell → IsStamped new cell
      stamped marks cell was = elim (s.recoloured marks cell) [
        | inl same ↦ (s.stays cell was.0, ap colour_cycle same ∙ was.1 ∙ sym running)
        | inr now ↦ now
      ]

      marks_by : (scan : Scan) → (part me).scan ≡ Some scan → is_marking old ≡ true
      marks_by scan is = elim (Rattle.std.proofs.lemmas.Bool.cases_Bool (is_marking old)) [
        | inl marks ↦
            marks
        | inr idle ↦ (let none = wave.rests.scans idle me in absurd (cc))
      ]
