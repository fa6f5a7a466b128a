-- The second reading of a structure keeps the wave.
use Rattle.std.proofs.Common.{ℕ, ◌≡◌, ◌≢◌, ◌+◌, ◌<◌, ◌≤◌, ◌⊎◌, refl, sym, ap, subst, arith, true, false, inl, inr, Option, Some}
use Rattle.std.proofs.lemmas.Bool.{cases_lt}
use Rattle.std.specs.Prelude.{Contains}
use Rattle.tide_core.proofs.machine_laws.kinds.Scanning.{still_open-is, still_open-holds}
use Rattle.tide_core.proofs.machine_laws.steps.Frames.{calls_view, stops_view}
use Rattle.tide_core.proofs.machine_laws.steps.Quiet.{quiet_step}
use Rattle.tide_core.proofs.machine_laws.steps.Waiting.{left_quiet}
use Rattle.tide_core.specs.machine.RunningWave.{RunningWave}
use Rattle.tide_core.specs.machine.Scanning.{IsTrue, IsStill, IsUnread, Place, slot, property, still_open}
use Rattle.tide_core.specs.machine.Words.{count_of, is_nuked}
use Rattle.tide_core.specs.machine.World.{World, parties}
use Rattle.tide_core.specs.declared.machine.view.Scan.{Scan}
use Rattle.tide_core.specs.declared.machine.view.Target.{Target}
use Rattle.tide_core.specs.declared.machine.view.View.{View}
use Rattle.tide_core.specs.machine.points.Links.{ScanExcuses, LinkAt}
use Rattle.tide_core.specs.machine.points.Scans.{IsAtHand, held, scanned, buffered, ScanKnows}
use Rattle.tide_model.specs.Cycle.{cycle_span}
use Rattle.tide_model.specs.History.{state_after}
use Rattle.tide_model.specs.Layout.{Layout, cell_count, class_of, slots_of}
use Rattle.tide_model.specs.Numbers.{put_at, is_among}
use Rattle.tide_model.specs.References.{IsLive}
use Rattle.tide_model.specs.Refused.{ShapeLists}
use Rattle.tide_model.specs.State.{live, spent, is_free}
use Rattle.tide_words.proofs.heap_laws.ReadingLaws.{live_within}
use Rattle.tide_words.specs.marking.Colours.{is_marking, IsMarked, IsStamped}
use Rattle.tide_words.specs.marking.Marked.{is_marked}
use Rattle.tide_core.specs.machine.Duties.{AwaitsLoad, StillOwes}
use Rattle.tide_core.proofs.machine_laws.steps.Barriers.{awaits_owes}
use Rattle.tide_words.specs.tide_layout.declared.region.Region.TheVariants as region

abbrev pub with_scan : View → Option Scan → View
with_scan v scan = record v { scan = scan }

module _ (layout : Layout) (shapes : ShapeLists) (w : World) (me : ℕ) (inside : me < parties)
    (wave : RunningWave layout shapes w) (runs : (w.part me).runs ≡ true)
    (marks : is_marking w.heap ≡ true) (no_barrier : (cell : ℕ) → StillOwes w.heap (w.part me).duty cell → ⊥) where
  -- a step of a scan that only its scan notices
  pub record ShowsScan (after : Option Scan) : Type 0 where
    pub at_hand : (cell : ℕ) (s : Scan) → after ≡ Some s → (s.cell ≡ cell) ⊎ Contains s.buffer cell →
        IsLive (state_after layout w.log) cell
    pub arrays : (array : ℕ) (s : Scan) → after ≡ Some s → s.array ≡ Some (array + 1) →
        ((state_after layout w.log).arrays array ≡ live) ⊎ ((state_after layout w.log).arrays array ≡ spent)
    pub scanned : (s : Scan) → after ≡ Some s → IsStamped w.heap s.cell ×
        ScanKnows layout w.heap (state_after layout w.log) s
        × ((cell : ℕ) → Contains s.buffer cell → IsTrue s (w.heap region.Structure s.cell) →
        (cycle_span layout w.log).link s.cell cell)
    pub excuses : (source : ℕ) (place : Place) (cell : ℕ) → LinkAt (state_after layout w.log) source place cell →
        is_marked w.heap cell ≡ false →
        ScanExcuses w.heap source place cell (w.part me).scan → ScanExcuses w.heap source place cell after ⊎
        ((p : ℕ) × (p ≢ me) × AwaitsLoad (w.part p).duty source)
    pub aims : (s : Scan) (target : Target) → after ≡ Some s → s.target ≡ Some target →
        (target.cell < cell_count layout) × ((w.heap region.Colour target.cell ≡ target.word) ⊎
        IsMarked w.heap target.cell)

  pub scan_step : (after : Option Scan) → ShowsScan after →
      RunningWave layout shapes (record {
        heap = w.heap;
        part = put_at w.part me (with_scan (w.part me) after);
        log =
            w.log;
      })
  scan_step after s = quiet_step layout shapes w.heap w.part w.log me wave w.heap (with_scan (w.part me) after) record {
    inside = inside;
    words = λ at index read. refl;
    who = refl;
    seen = refl;
    mine = refl;
    owed = refl;
    known = refl;
    full = refl;
    growth = refl;
    marks = refl;
    cycle =
        refl;
    mark_version = refl;
    begun = refl;
    period = refl;
    left = refl;
    sweeping = refl;
    saw = refl;
    cleared = refl;
    swept = λ block. refl;
    waits = left_quiet layout w.heap w.heap w.part me (with_scan (w.part me) after) refl refl (λ _ c in_c is. is) (λ c
        is. is) refl refl refl refl wave.waits;
    calls =
        calls_view layout w.heap w.heap w.part me (with_scan (w.part me) after) refl (λ p. refl) wave.calls;
    stops =
        stops_view layout w.heap w.heap w.part me (with_scan (w.part me) after) refl (λ p. refl) wave.stops;
    ran = runs;
    runs = runs;
    colours = wave.colours;
    balance = λ cell within few. refl;
    rests = λ idle. absurd (cc);
    at_hand = λ cell at. at_hand_after cell at;
    arrays = s.arrays;
    scanned = s.scanned;
    black = λ source place cell link black white.
        inr (
          refl,
          white,
          λ excuse. elim excuse [
            | inl owes ↦ absurd (no_barrier source owes)
            | inr answers ↦
                elim (s.excuses source place cell link white answers) [ inl e ↦ inl (inr e) | inr o ↦ inr o ]
          ],
        );
    grows = λ c g. record { grows = g.grows; owes = g.owes };
    stays = λ cell is. is;
    recoloured = λ _ cell. inl refl;
    aims = s.aims;
    marked = λ cell in_cell is. inl is;
    born = λ _ cell owes. inl owes;
    owes = λ cell owes. (owes, wave.born.white me cell owes);
    counted = λ _. omega arith;
  }
    where
      at_hand_after : (cell : ℕ) → IsAtHand (with_scan (w.part me) after) cell → IsLive (state_after layout w.log) cell
      at_hand_after cell (held is) = wave.hands.cells me cell (held is)
      at_hand_after cell (scanned scan is at) = s.at_hand cell scan is (inl at)
      at_hand_after cell (buffered scan is at) = s.at_hand cell scan is (inr at)

  module _ (scan : Scan) (scans : (w.part me).scan ≡ Some scan) (first : ℕ) (read_first : scan.first ≡ Some first)
      (not_nuked : is_nuked first ≡ false) (not_yet : scan.agreed ≡ false) (no_race : scan.raced ≡ false)
      (all_slots : (n : ℕ) → n < slots_of (class_of layout scan.cell) → is_among scan.slots n ≡ true)
      (all_elements : (n : ℕ) → n < count_of first → is_among scan.elements n ≡ true) where
    abbrev read : ℕ
    read = w.heap region.Structure scan.cell

    alive : IsLive (state_after layout w.log) scan.cell
    alive = wave.hands.cells me scan.cell (scanned scan scans refl)

    -- a place of a link of the cell was read, or the link is of a growth that owes the barrier
    no_place : (place : Place) (cell : ℕ) → LinkAt (state_after layout w.log) scan.cell place cell → read ≡ first →
        IsUnread scan place → (p : ℕ) × (p ≢ me) × AwaitsLoad (w.part p).duty scan.cell
    no_place (slot n) cell (is_live, is) same unread = elim (cases_lt n (slots_of (class_of layout scan.cell))) [
      | inl below ↦ (let was = all_slots n below in absurd (cc))
      | inr past ↦ (let none = ((wave.words.reads.parts.cells scan.cell
          (live_within layout shapes wave.words.settled (state_after layout w.log) scan.cell wave.words.reads
          alive)).taken (ap is_free alive)).past_slots n past in absurd (cc))
    ]
    no_place (property n) cell link same unread = elim (cases_lt n (count_of first)) [
      | inl below ↦ (let was = all_elements n below in absurd (cc))
      | inr past ↦
          let (p, g) = wave.grows.beyond marks scan.cell n cell link
          (subst (λ (word : ℕ). count_of word ≤ n) (sym same) past) in
          (p, (λ e. no_barrier scan.cell (awaits_owes w.heap (w.part me).duty scan.cell (subst (λ (q : ℕ). AwaitsLoad (w.part q).duty scan.cell) e g.owes))), g.owes)
    ]

    abbrev agreed_scan : Scan
    agreed_scan = record scan { agreed = true }

    abbrev raced_scan : Scan
    raced_scan = record scan { raced = true }

    -- the structure is the one that was read before
    pub agrees : read ≡ first → RunningWave layout shapes
        (record {
          heap = w.heap;
          part = put_at w.part me (with_scan (w.part me) (still_open agreed_scan));
          log =
              w.log;
        })
    agrees same = scan_step (still_open agreed_scan) record {
      at_hand = λ cell s is at. wave.hands.cells me cell
          (elim at [
            | inl e ↦ scanned scan scans (of_agreed (λ s. s.cell ≡ cell → scan.cell ≡ cell) (λ e. e) s is e)
            | inr b ↦ buffered scan scans (of_agreed (λ s. Contains s.buffer cell → Contains scan.buffer cell) (λ b.
                b) s is b)
          ]);
      arrays = λ array s is has. wave.hands.arrays me array scan scans (of_agreed (λ s. s.array ≡ Some (array + 1) →
          scan.array ≡ Some (array + 1)) (λ e. e) s is has);
      scanned = of_agreed (λ s. IsStamped w.heap s.cell × ScanKnows layout w.heap (state_after layout w.log) s ×
          ((cell : ℕ) → Contains s.buffer cell → IsTrue s (w.heap region.Structure s.cell) →
          (cycle_span layout w.log).link s.cell cell)) (
            wave.retained.scanned me scan scans,
            knows,
            λ cell at holds.
                wave.retained.buffered me cell scan scans at truly,
          );
      excuses = λ source place cell link white e.
          let old = subst (ScanExcuses w.heap source place cell) scans e in
          elim (old.1 (subst (λ (c : ℕ). IsTrue scan (w.heap region.Structure c)) old.0 truly)) [
            | inl unread ↦ inr (let o = no_place place cell
                (subst (λ (c : ℕ). LinkAt (state_after layout w.log) c place cell) (sym old.0) link) same unread.1 in
                (o.0, o.1, subst (AwaitsLoad (w.part o.0).duty) old.0 o.2))
            | inr at ↦ inl (subst (ScanExcuses w.heap source place cell) (sym (still_open-holds agreed_scan cell at))
                (old.0, λ holds. inr at))
          ];
      aims = λ s target is aims. wave.targets.right me scan target scans
          (of_agreed (λ s. s.target ≡ Some target → scan.target ≡ Some target) (λ e. e) s is aims);
    }
      where
        truly : IsTrue scan (w.heap region.Structure scan.cell)
        truly = (no_race, inr (subst (λ (f : Option ℕ). IsStill f read) (sym read_first) (same, not_nuked)))

        of_agreed : (P : Scan → Type 0) → P agreed_scan → (s : Scan) → still_open agreed_scan ≡ Some s → P s
        of_agreed P holds s is = subst P (still_open-is agreed_scan s is) holds

        knows : ScanKnows layout w.heap (state_after layout w.log) agreed_scan
        knows = let k = wave.scans.knows me scan scans in record {
          unread = k.unread;
          array_after = k.array_after;
          grows = k.grows;
          nuked = k.nuked;
          array = k.array;
          room =
              k.room;
          names_live = k.names_live;
          agreed = λ is. no_race;
        }

    pub differs : read ≢ first → RunningWave layout shapes
        (record { heap = w.heap; part = put_at w.part me (with_scan (w.part me) (Some raced_scan)); log = w.log })
    differs apart = scan_step (Some raced_scan) record {
      at_hand = λ cell s is at. wave.hands.cells me cell
          (elim at [
            | inl e ↦ scanned scan scans (of_raced (λ s. s.cell ≡ cell → scan.cell ≡ cell) (λ e. e) s is e)
            | inr b ↦ buffered scan scans (of_raced (λ s. Contains s.buffer cell → Contains scan.buffer cell) (λ b.
                b) s is b)
          ]);
      arrays = λ array s is has. wave.hands.arrays me array scan scans
          (of_raced (λ s. s.array ≡ Some (array + 1) → scan.array ≡ Some (array + 1)) (λ e. e) s is has);
      scanned = of_raced (λ s. IsStamped w.heap s.cell × ScanKnows layout w.heap (state_after layout w.log) s ×
          ((cell : ℕ) → Contains s.buffer cell → IsTrue s (w.heap region.Structure s.cell) →
          (cycle_span layout w.log).link s.cell cell))
          (wave.retained.scanned me scan scans, knows, λ cell at holds. (let no_more = holds.0 in absurd (cc)));
      excuses = λ source place cell link white e. inl (let old = subst (ScanExcuses w.heap source place cell) scans e in
          (old.0, λ holds. (let no_more = holds.0 in absurd (cc))));
      aims = λ s target is aims. wave.targets.right me scan target scans
          (of_raced (λ s. s.target ≡ Some target → scan.target ≡ Some target) (λ e. e) s is aims);
    }
      where
        of_raced : (P : Scan → Type 0) → P raced_scan → (s : Scan) → Some raced_scan ≡ Some s → P s
        of_raced P holds s is = subst P (let e : raced_scan ≡ s = cc in e) holds

        knows : ScanKnows layout w.heap (state_after layout w.log) raced_scan
        knows = let k = wave.scans.knows me scan scans in record {
          unread = k.unread;
          array_after = k.array_after;
          grows = k.grows;
          nuked = k.nuked;
          array = k.array;
          room =
              k.room;
          names_live = k.names_live;
          agreed = λ is. absurd (cc);
        }
