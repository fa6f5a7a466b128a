-- A raced cell is made grey again, and its scan is over.
use Rattle.std.proofs.Common.{ℕ, ◌≡◌, ◌+◌, ◌<◌, refl, sym, ◌∙◌, ap, subst, arith, Bool, true, false, inl, inr, Some, None}
use Rattle.std.proofs.lemmas.Bool.{cases_eq, eq-eqb, ne_eqb}
use Rattle.std.specs.Prelude.{if◌then◌else◌}
use Rattle.tide_core.proofs.machine_laws.steps.BaseBounds.{colours_count}
use Rattle.tide_core.proofs.machine_laws.steps.Colouring.{unread_write, colours_coloured, black_before_grey, marked_after_grey, marked_before_grey, recoloured_one, grey_after_grey, blackened_le, stamped_black}
use Rattle.tide_core.proofs.machine_laws.steps.Frames.{calls_view, stops_view}
use Rattle.tide_core.proofs.machine_laws.steps.Quiet.{quiet_step}
use Rattle.tide_core.proofs.machine_laws.steps.Waiting.{left_quiet}
use Rattle.tide_core.specs.machine.Duties.{OwesColour, AwaitsLoad, StillOwes}
use Rattle.tide_core.specs.machine.RunningWave.{RunningWave}
use Rattle.tide_core.specs.machine.World.{World, parties, pushes}
use Rattle.tide_core.specs.declared.machine.view.Duty.{Duty}
use Rattle.tide_core.specs.declared.machine.view.Scan.{Scan}
use Rattle.tide_core.specs.declared.machine.view.View.{View}
use Rattle.tide_core.specs.machine.points.Links.{ScanExcuses}
use Rattle.tide_core.specs.machine.points.Scans.{held, scanned, buffered}
use Rattle.tide_model.specs.Layout.{Layout}
use Rattle.tide_model.specs.Numbers.{put_at}
use Rattle.tide_model.specs.Refused.{ShapeLists}
use Rattle.tide_words.proofs.marking_laws.ColourLaws.{is_grey-made, is_grey-other, black_is_not_grey, black_is_marked, grey_is_marked, coloured-other}
use Rattle.tide_words.specs.declared.forms.colours.Colour.TheVariants.{Grey, Black}
use Rattle.tide_words.specs.forms.ColourWord.{colour_word}
use Rattle.tide_words.specs.marking.Colours.{Counts, coloured, is_marking, running_cycle, is_grey, is_black, IsBlack}
use Rattle.tide_words.specs.marking.Marked.{base_cycle}
use Rattle.tide_words.specs.tide_layout.declared.region.Region.TheVariants as region
use Rattle.tide_core.specs.declared.machine.view.Duty.TheVariants as duty

module _ (layout : Layout) (shapes : ShapeLists) (w : World) (me : ℕ) (inside : me < parties)
    (wave : RunningWave layout shapes w) (runs : (w.part me).runs ≡ true) (marks : is_marking w.heap ≡ true)
    (idle : (w.part me).duty ≡ duty.Nothing) (scan : Scan) (scans : (w.part me).scan ≡ Some scan)
    (raced : scan.raced ≡ true) where
  abbrev cell : ℕ
  cell = scan.cell

  abbrev later : View
  later = record (w.part me) { scan = None; races = (w.part me).races + 1; duty = duty.PushRace cell }

  no_scan : {X : Type 0} (other : Scan) → later.scan ≡ Some other → X
  no_scan other is = absurd (cc)

  counts : Counts w.heap
  counts = colours_count layout shapes w wave marks

  -- the cell is black still
  pub un_blacken : IsBlack w.heap cell →
      RunningWave layout shapes (record {
        heap = coloured w.heap cell Grey;
        part = put_at w.part me later;
        log =
            w.log;
      })
  un_blacken black_now = quiet_step layout shapes w.heap w.part w.log me wave (coloured w.heap cell Grey) later record {
    inside = inside;
    words = λ at index. unread_write w.heap region.Colour cell (colour_word (running_cycle w.heap) Grey) refl at index;
    who = refl;
    seen = refl;
    mine = refl;
    owed = refl;
    known = refl;
    full = refl;
    growth = refl;
    marks = refl;
    cycle =
        refl;
    mark_version = refl;
    begun = refl;
    period = refl;
    left = refl;
    sweeping = refl;
    saw = refl;
    cleared = refl;
    swept = λ block. refl;
    waits = left_quiet layout w.heap (coloured w.heap cell Grey) w.part me later refl refl
        (λ _ other in_other is. grey_after_grey w.heap cell other counts is) (λ c is. is) refl refl refl refl wave.waits;
    calls =
        calls_view layout w.heap (coloured w.heap cell Grey) w.part me later refl (λ p. refl) wave.calls;
    stops =
        stops_view layout w.heap (coloured w.heap cell Grey) w.part me later refl (λ p. refl) wave.stops;
    ran = runs;
    runs = runs;
    colours = colours_coloured layout w.heap cell Grey (omega arith) wave.colours;
    balance = λ other in_other few.
        let none = ap (λ (d : Duty). pushes d other) idle in
        elim (cases_eq other cell) [
          | inl same ↦
              let one = ap {B = ℕ} (λ (b : Bool). if b then 1 else 0) (eq-eqb cell other (sym same)) in
              let not_grey = ap {B = ℕ} (λ (b : Bool). if b then 1 else 0) (ap (is_grey w.heap) same ∙
              black_is_not_grey w.heap cell black_now) in
              let grey = ap {B = ℕ} (λ (b : Bool). if b then 1 else 0) (ap (is_grey (coloured w.heap cell Grey)) same ∙
              is_grey-made w.heap cell counts) in
              omega (arith, none, one, not_grey, grey)
          | inr apart ↦
              let no_one = ap {B = ℕ} (λ (b : Bool). if b then 1 else 0) (ne_eqb cell other (λ e. apart (sym e))) in
              let grey = ap {B = ℕ} (λ (b : Bool). if b then 1 else 0) (is_grey-other w.heap cell other Grey apart) in
              omega (arith, none, no_one, grey)
        ];
    rests = λ rest. absurd (cc);
    at_hand = λ other at. wave.hands.cells me other (elim at [
      | held is ↦ held is
      | scanned s is e ↦
          no_scan s is
      | buffered s is e ↦ no_scan s is
    ]);
    arrays = λ array s is. no_scan s is;
    scanned = λ s is. no_scan s is;
    black = λ source place target link black white.
        let before = black_before_grey w.heap cell source counts black in
        inr (
          coloured-other w.heap cell source Grey before.0,
          sym (marked_before_grey w.heap cell target counts (black_is_marked w.heap cell black_now)) ∙ white,
          λ e.
              elim e [
                | inl owes ↦ absurd (subst (λ (d : Duty). StillOwes w.heap d source) idle owes)
                | inr answers ↦ absurd (before.0 (sym (subst (ScanExcuses w.heap source place target) scans answers).0))
              ],
        );
    grows = λ c g. absurd (subst (λ (d : Duty). AwaitsLoad d c) idle g.owes);
    stays = λ other. marked_after_grey w.heap cell other counts;
    recoloured = λ _ other.
        recoloured_one w.heap cell other Grey
        (grey_is_marked (coloured w.heap cell Grey) cell (is_grey-made w.heap cell counts));
    aims = λ s target is. no_scan s is;
    marked = λ other in_other now.
        inl (sym (marked_before_grey w.heap cell other counts (black_is_marked w.heap cell black_now)) ∙ now);
    born = λ _ other owes. absurd (subst (λ (d : Duty). OwesColour d other) idle owes);
    owes = λ other owes. absurd owes;
    counted = λ _. (let few = blackened_le layout w.heap (coloured w.heap cell Grey) w.log
        (λ other black so. (black_before_grey w.heap cell other counts black).1) in omega (arith, few));
  }

  abbrev done : View
  done = record (w.part me) { scan = None; races = (w.part me).races + 1 }

  done_no_scan : {X : Type 0} (other : Scan) → done.scan ≡ Some other → X
  done_no_scan other is = absurd (cc)

  -- the cell is grey by now: another has it
  pub un_blacken_finds_grey : is_black w.heap cell ≡ false →
      RunningWave layout shapes (record { heap = w.heap; part = put_at w.part me done; log = w.log })
  un_blacken_finds_grey not_black = quiet_step layout shapes w.heap w.part w.log me wave w.heap done record {
    inside = inside;
    words = λ at index read. refl;
    who = refl;
    seen = refl;
    mine = refl;
    owed = refl;
    known = refl;
    full = refl;
    growth = refl;
    marks = refl;
    cycle =
        refl;
    mark_version = refl;
    begun = refl;
    period = refl;
    left = refl;
    sweeping = refl;
    saw = refl;
    cleared = refl;
    swept = λ block. refl;
    waits = left_quiet layout w.heap w.heap w.part me done refl refl (λ _ c in_c is. is) (λ c is. is) refl refl refl
        refl
        wave.waits;
    calls = calls_view layout w.heap w.heap w.part me done refl (λ p.
        refl) wave.calls;
    stops = stops_view layout w.heap w.heap w.part me done refl (λ p.
        refl) wave.stops;
    ran = runs;
    runs = runs;
    colours = wave.colours;
    balance = λ other in_other few. refl;
    rests = λ rest. absurd (cc);
    at_hand = λ other at. wave.hands.cells me other (elim at [
      | held is ↦ held is
      | scanned s is e ↦
          done_no_scan s is
      | buffered s is e ↦ done_no_scan s is
    ]);
    arrays = λ array s is. done_no_scan s is;
    scanned = λ s is. done_no_scan s is;
    black = λ source place target link black white. inr (
      refl,
      white,
      λ e. inl (elim e [
        | inl owes ↦ inl owes
        | inr answers ↦ (let same = (subst (ScanExcuses w.heap source place target) scans answers).0 in let clash =
            ap (is_black w.heap) same in absurd (cc))
      ]),
    );
    grows = λ c g. record { grows = g.grows; owes = g.owes };
    stays = λ other is. is;
    recoloured = λ _ other. inl refl;
    aims = λ s target is. done_no_scan s is;
    marked = λ other in_other is. inl is;
    born = λ _ other owes. inl owes;
    owes = λ other owes. (owes, wave.born.white me other owes);
    counted = λ _. omega arith;
  }

  -- a scanned cell that is black has the black word of the running cycle, so the exchange of that word finds it
  pub raced_word : IsBlack w.heap cell → w.heap region.Colour cell ≡ colour_word (running_cycle w.heap) Black
  raced_word black_now =
      stamped_black (base_cycle w.heap) (running_cycle w.heap) (w.heap region.Colour cell) black_now (wave.retained.scanned me scan scans).1
