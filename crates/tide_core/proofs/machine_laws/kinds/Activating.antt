-- A participant that holds a ticket of the open part begins.
use Rattle.std.proofs.Common.{ℕ, ◌⊎◌, ◌≡◌, ◌<◌, ◌≤◌, refl, sym, ◌∙◌, ap, subst, arith, Bool, true, false, [], inl, inr, Some}
use Rattle.std.proofs.lemmas.Bool.{cases_eq, eq-eqb}
use Rattle.std.specs.Prelude.{Contains, if◌then◌else◌}
use Rattle.tide_words.specs.tide_layout.declared.region.Region.{Region}
use Rattle.tide_core.proofs.machine_laws.steps.Frames.{calls_view, stops_view, each_put}
use Rattle.tide_core.proofs.machine_laws.steps.Lists.{nothing_in}
use Rattle.tide_core.proofs.machine_laws.steps.Steps.{any_step}
use Rattle.tide_core.proofs.machine_laws.steps.SweepsKept.{sweeps_kept}
use Rattle.tide_core.proofs.machine_laws.steps.Waiting.{left_kept}
use Rattle.tide_core.proofs.machine_laws.steps.Unsettled.{given_put, unsettles_put}
use Rattle.tide_core.specs.machine.Duties.{GrowsAndOwes}
use Rattle.tide_core.specs.machine.Owed.{Owes, IsOwnWord, owed_word}
use Rattle.tide_core.specs.machine.RunningWave.{RunningWave}
use Rattle.tide_core.specs.machine.World.{World, parties}
use Rattle.tide_core.specs.declared.machine.view.Scan.{Scan}
use Rattle.tide_core.specs.declared.machine.view.View.{View}
use Rattle.tide_core.specs.machine.kinds.Activate.{begun_view}
use Rattle.tide_core.specs.machine.points.Growths.{GrowthKnows}
use Rattle.tide_core.specs.machine.points.Marks.{counted_in}
use Rattle.tide_core.specs.machine.points.Scans.{held, scanned, buffered}
use Rattle.tide_core.specs.machine.points.SettledWords.{RunningWordsRead}
use Rattle.tide_core.specs.machine.points.Witness.{IsLeftFor, in_word, in_hand, shared_round}
use Rattle.tide_model.proofs.ReferenceLaws.{put_at_elim}
use Rattle.tide_model.specs.History.{state_after}
use Rattle.tide_model.specs.Layout.{Layout, block_of_cell}
use Rattle.tide_model.specs.Numbers.{put_at}
use Rattle.tide_model.specs.Refused.{ShapeLists}
use Rattle.tide_words.specs.marking.Colours.{is_marking, running_cycle}
use Rattle.tide_words.specs.marking.Marked.{base_cycle}
use Rattle.tide_words.specs.tide_layout.declared.region.Region.TheVariants as region

module _ (layout : Layout) (shapes : ShapeLists) (w : World) (me : ℕ) (inside : me < parties)
    (wave : RunningWave layout shapes w) (parked : (w.part me).runs ≡ false)
    (of_part : (w.part me).ticket ≡ w.heap region.Period 0) (marks_are : (w.part me).marks ≡ is_marking w.heap)
    (cycle_is : (w.part me).cycle ≡ running_cycle w.heap) (base_is : (w.part me).mark_version ≡ base_cycle w.heap)
    (born visits races : ℕ) (fresh : ((w.part me).begun ≡ w.heap region.Period 0 → visits ≡ (w.part me).visits)) where
  abbrev later : View
  later = record (w.part me) {
    runs = true;
    begun = (w.part me).ticket;
    born = born;
    visits = visits;
    races = races;
    round = [];
    full = [];
    known = [];
  }

  words_after : RunningWordsRead layout shapes w.heap (put_at w.part me later) (state_after layout w.log)
  words_after = record {
    settled = wave.words.settled;
    reads = wave.words.reads;
    same = λ at index read free swept. wave.words.same at index read (λ p word owes.
        free p word (put_at_elim (λ p u. (at : Region) (index word : ℕ) → Owes (w.part p) at index word →
        Owes u at index word) w.part me later (λ at index word o. o) (λ p apart at index word o.
        o) p at index word owes)) (unsettles_put w.part me later refl at index swept);
    given = given_put wave.words.settled w.part me later refl wave.words.given;
    owed = each_put (λ p u. (at : Region) (index word : ℕ) → Owes u at index word → wave.words.settled at index ≡ word)
        w.part me later (wave.words.owed me) wave.words.owed;
    known = each_put (λ p u. (at : Region) (index word : ℕ) → Contains u.known (owed_word at index word) →
        wave.words.settled at index ≡ word) w.part me later (λ at index word is.
        absurd (nothing_in (owed_word at index word) is)) wave.words.known;
    owns = each_put (λ p u. (at : Region) (index word : ℕ) → Owes u at index word →
        IsOwnWord layout (state_after layout w.log) p at index) w.part me later (wave.words.owns me) wave.words.owns;
  }

  none_scans : {X : Type 0} (scan : Scan) → (w.part me).scan ≡ Some scan → X
  none_scans scan is = (let none = wave.parked.scan me parked in absurd (cc))

  pub activate : (visits ≡ 0) ⊎ ((w.part me).begun ≡ w.heap region.Period 0) →
      RunningWave layout shapes (record { heap = w.heap; part = put_at w.part me later; log = w.log })
  activate first_or_again = any_step layout shapes w.heap w.part w.log me wave w.heap later record {
    inside = inside;
    phase = refl;
    base = refl;
    period = refl;
    calls = calls_view layout w.heap w.heap w.part me later refl (λ p. refl) wave.calls;
    stops = stops_view layout w.heap w.heap w.part me later refl (λ p. refl) wave.stops;
    words = words_after;
    who = refl;
    seen = inl refl;
    mine = refl;
    knows = λ at index word is. absurd (nothing_in (owed_word at index word) is);
    knows_still = λ p at index word apart is. wave.kept.known p at index word is;
    finds = λ block moment word is. absurd (let below = is.1 in omega (arith, below));
    told = λ _. (marks_are, cycle_is, of_part, base_is);
    begins = omega (arith, of_part);
    left = refl;
    waits = left_kept layout w.heap w.heap w.part me later refl refl (λ _ c in_c is. is) (λ c is. is)
        (λ is_one none. let more = counts first_or_again in omega (arith, more, none)) round_anew wave.waits;
    stands = wave.arrays;
    swept = wave.swept;
    sweeps = sweeps_kept layout w.heap w.heap w.part me later w.log refl (λ block. refl) (λ block. refl)
        (λ p at index word un. refl) refl refl refl refl wave.sweeps;
    empties = λ is. absurd (cc);
    colours = wave.colours;
    balance = λ c in_c few. refl;
    rests = λ idle. (wave.rests.held idle me, wave.rests.scans idle me);
    at_hand = λ c at. wave.hands.cells me c (elim at [
      | held is ↦ held is
      | scanned scan is e ↦
          scanned scan is e
      | buffered scan is e ↦ buffered scan is e
    ]);
    arrays = λ a scan is. none_scans scan is;
    scanned = λ scan is. none_scans scan is;
    growth = subst (GrowthKnows w.heap (state_after layout w.log) me later) (sym (wave.parked.growth me parked)) tt;
    growths = λ p apart. wave.growths.knows p;
    scans = λ p scan apart is. wave.scans.knows p scan is;
    truer = λ p scan apart is holds. holds;
    black = λ source place target link black white. inr (refl, white, λ e. inl e);
    stays = λ c is. is;
    recoloured = λ _ c. inl refl;
    aims = λ scan target is. none_scans scan is;
    marked = λ c in_c is. inl is;
    born = λ _ c owes. inl owes;
    owes = λ c owes. (owes, wave.born.white me c owes);
    counted = λ _. (let more = counts first_or_again in omega (arith, more));
    beyond = λ marks source n target link past.
        let (p, g) = wave.grows.beyond marks source n target link past in
        elim (cases_eq p me) [
          | inl same ↦ (let mine = subst (λ (q : ℕ). GrowsAndOwes (w.part q) source) same g in
              inl (record { grows = mine.grows; owes = mine.owes }))
          | inr apart ↦ inr (p, apart, g)
        ];
  }
    where
      -- its round begins anew
      round_anew : (cell : ℕ) → IsLeftFor w.heap (w.part me) cell → IsLeftFor w.heap later cell
      round_anew cell (in_word bit how) = in_word bit (inr (λ at. nothing_in (shared_round (block_of_cell cell)) at))
      round_anew cell (in_hand has lacks) = in_hand has (λ at. nothing_in (shared_round (block_of_cell cell)) at)

      now : counted_in (w.heap region.Period 0) later ≡ visits
      now = ap {B = ℕ} (λ (b : Bool). if b then visits else 0)
          (eq-eqb (w.part me).ticket (w.heap region.Period 0) of_part)

      again_counts : (w.part me).begun ≡ w.heap region.Period 0 →
          counted_in (w.heap region.Period 0) (w.part me) ≤ counted_in (w.heap region.Period 0) later
      again_counts again = (let same = fresh again in let old =
          ap {B = ℕ} (λ (b : Bool). if b then (w.part me).visits else 0)
          (eq-eqb (w.part me).begun (w.heap region.Period 0) again) in omega (arith, same, old, now))

      counts : (visits ≡ 0) ⊎ ((w.part me).begun ≡ w.heap region.Period 0) →
          counted_in (w.heap region.Period 0) (w.part me) ≤ counted_in (w.heap region.Period 0) later
      counts (inr again) = again_counts again
      counts (inl none) = elim (cases_eq (w.part me).begun (w.heap region.Period 0)) [
        | inl again ↦ again_counts again
        | inr apart ↦ (let old = ap {B = ℕ} (λ (b : Bool). if b then (w.part me).visits else 0)
            (Rattle.std.proofs.lemmas.Bool.ne_eqb (w.part me).begun (w.heap region.Period 0) apart) in
            omega (arith, old))
      ]

-- what the step of beginning makes of a view
pub record Activated (v w : View) : Type 0 where
  pub born : ℕ
  pub visits : ℕ
  pub races : ℕ
  pub is : w ≡ record v {
    runs = true;
    begun = v.ticket;
    born = born;
    visits = visits;
    races = races;
    round = [];
    full =
        [];
    known = [];
  }
  pub same : v.begun ≡ v.ticket → visits ≡ v.visits
  pub first_or_again : (visits ≡ 0) ⊎ (v.begun ≡ v.ticket)

-- by whether it began in the same part before
pub activated : (v : View) → Activated v (begun_view v)
activated v = elim (cases_eq v.begun v.ticket) [
  | inl same ↦ record {
    born = v.born;
    visits = v.visits;
    races = v.races;
    is = ap (λ (b : Bool). if b then record v { runs = true; round = []; full = []; known = [] } else record v {
      runs =
          true;
      begun = v.ticket;
      born = 0;
      visits = 0;
      races = 0;
      round = [];
      full = [];
      known = [];
    })
        (eq-eqb v.begun v.ticket same)
        ∙ ap (λ (n : ℕ). record v { runs = true; begun = n; round = []; full = []; known = [] }) same;
    same = λ _. refl;
    first_or_again = inr same;
  }
  | inr apart ↦ record {
    born = 0;
    visits = 0;
    races = 0;
    is = ap (λ (b : Bool). if b then record v { runs = true; round = []; full = []; known = [] } else record v {
      runs =
          true;
      begun = v.ticket;
      born = 0;
      visits = 0;
      races = 0;
      round = [];
      full = [];
      known = [];
    })
        (Rattle.std.proofs.lemmas.Bool.ne_eqb v.begun v.ticket apart);
    same = λ e. absurd (apart e);
    first_or_again = inl refl;
  }
]

-- the step of beginning keeps the wave
pub begin : (layout : Layout) (shapes : ShapeLists) (w : World) (me : ℕ) → me < parties → RunningWave layout shapes w →
    (w.part me).runs ≡ false → (w.part me).ticket ≡ w.heap region.Period 0 →
    (w.part me).marks ≡ is_marking w.heap → (w.part me).cycle ≡ running_cycle w.heap →
    (w.part me).mark_version ≡ base_cycle w.heap →
    RunningWave layout shapes (record {
      heap = w.heap;
      part = put_at w.part me (begun_view (w.part me));
      log =
          w.log;
    })
begin layout shapes w me inside wave parked of_part marks_are cycle_is base_is =
    let a = activated (w.part me) in
    subst (λ (v : View). RunningWave layout shapes (record { heap = w.heap; part = put_at w.part me v; log = w.log }))
    (sym a.is)
    (activate layout shapes w me inside wave parked of_part marks_are cycle_is base_is a.born a.visits a.races (λ again.
    a.same (again ∙ sym of_part)) (elim a.first_or_again [
      | inl none ↦ inl none
      | inr again ↦
          inr (again ∙ of_part)
    ]))
