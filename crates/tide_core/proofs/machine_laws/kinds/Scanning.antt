-- The steps of a scan keep the wave.
use Rattle.std.proofs.Common.{ℕ, ◌≡◌, ◌≢◌, ◌+◌, ◌<◌, ◌⊎◌, ◌==◌, refl, sym, ◌∙◌, ap, subst, arith, Bool, true, false, List, [], ◌∷◌, ◌++◌, inl, inr, Option, Some, None}
use Rattle.std.proofs.lemmas.Bool.{cases_eq, eq-eqb, ne_eqb}
use Rattle.std.proofs.lemmas.List.Elements.{filter-append, Contains-append_cases, Contains-append_left, Contains-append_right}
use Rattle.std.proofs.lemmas.List.Sums.{sum_by-append}
use Rattle.std.specs.Prelude.{Contains, if◌then◌else◌, not}
use Rattle.tide_core.proofs.machine_laws.steps.BaseBounds.{colours_count}
use Rattle.tide_core.proofs.machine_laws.steps.Colouring.{unread_write, colours_coloured, black_before_grey, marked_after_grey, recoloured_one, grey_after_grey, blackened_le}
use Rattle.tide_core.proofs.machine_laws.steps.Frames.{calls_view, stops_view}
use Rattle.tide_core.proofs.machine_laws.steps.Lists.{in_one}
use Rattle.tide_core.proofs.machine_laws.steps.Quiet.{quiet_step}
use Rattle.tide_core.proofs.machine_laws.steps.Waiting.{left_kept, left_quiet}
use Rattle.tide_core.specs.machine.Duties.{OwesColour}
use Rattle.tide_core.specs.machine.RunningWave.{RunningWave}
use Rattle.tide_core.specs.machine.Scanning.{IsTrue, Place, leave_out, open_scan, still_open}
use Rattle.tide_core.specs.machine.World.{World, parties}
use Rattle.tide_core.specs.declared.machine.view.Scan.{Scan}
use Rattle.tide_core.specs.declared.machine.view.Target.{Target}
use Rattle.tide_core.specs.declared.machine.view.View.{View}
use Rattle.tide_core.specs.machine.points.Links.{ScanExcuses}
use Rattle.tide_core.specs.machine.points.Scans.{IsAtHand, held, scanned, buffered, ScanKnows}
use Rattle.tide_core.specs.machine.points.Witness.{IsLeftFor, in_word, in_hand}
use Rattle.tide_model.specs.Cycle.{cycle_span}
use Rattle.tide_model.specs.Graph.{by_link, IsRetained}
use Rattle.tide_model.specs.History.{state_after}
use Rattle.tide_model.specs.Layout.{Layout, cell_count}
use Rattle.tide_model.specs.Numbers.{put_at}
use Rattle.tide_model.specs.References.{IsLive}
use Rattle.tide_model.specs.Refused.{ShapeLists}
use Rattle.tide_model.specs.State.{live, spent}
use Rattle.tide_words.proofs.heap_laws.ReadingLaws.{live_within}
use Rattle.tide_words.proofs.marking_laws.ColourLaws.{is_grey-made, is_grey-other, is_marked-other, grey_is_marked, unmarked_is_neither, coloured-other}
use Rattle.tide_words.specs.declared.forms.colours.Colour.TheVariants.{Grey}
use Rattle.tide_words.specs.forms.ColourWord.{colour_word, colour_cycle}
use Rattle.tide_words.specs.marking.Colours.{Counts, coloured, is_marking, running_cycle, is_grey, IsMarked, IsStamped}
use Rattle.tide_words.specs.marking.Marked.{is_marked}
use Rattle.tide_words.specs.marking.Marking.{times_in}
use Rattle.tide_model.specs.Old.{IsSpared}
use Rattle.tide_core.proofs.machine_laws.steps.Barriers.{still_owes}
use Rattle.tide_words.specs.tide_layout.declared.region.Region.TheVariants as region

-- another cell than the one that is left out stays, and none comes
leave_out-one : (cell x : ℕ) (cells : List ℕ) →
    leave_out cell (x ∷ cells) ≡ leave_out cell (x ∷ []) ++ leave_out cell cells
leave_out-one cell x cells = filter-append (λ (y : ℕ). not (y == cell)) (x ∷ []) cells

leave_out-other : (cell other : ℕ) (cells : List ℕ) → other ≢ cell → Contains cells other →
    Contains (leave_out cell cells) other
leave_out-other cell other [] apart is = is
leave_out-other cell other (x ∷ cells) apart is =
    subst (λ (l : List ℕ). Contains l other) (sym (leave_out-one cell x cells))
    (elim (Contains-append_cases (x ∷ []) cells other is) [
      | inl here ↦ Contains-append_left (leave_out cell (x ∷ [])) (leave_out cell cells) other
          (subst (λ (l : List ℕ). Contains l other) (sym (stays (in_one x other here))) here)
      | inr later ↦ Contains-append_right (leave_out cell (x ∷ [])) (leave_out cell cells) other
          (leave_out-other cell other cells apart later)
    ])
  where
    stays : x ≡ other → leave_out cell (x ∷ []) ≡ x ∷ []
    stays same = ap (λ (b : Bool). if not b then x ∷ [] else []) (ne_eqb x cell (λ e. apart (sym same ∙ e)))

leave_out-was : (cell other : ℕ) (cells : List ℕ) → Contains (leave_out cell cells) other → Contains cells other
leave_out-was cell other [] is = is
leave_out-was cell other (x ∷ cells) is =
    elim (Contains-append_cases (leave_out cell (x ∷ [])) (leave_out cell cells) other
    (subst (λ (l : List ℕ). Contains l other) (leave_out-one cell x cells) is)) [
      | inl here ↦ Contains-append_left (x ∷ []) cells other (in_left (x == cell) here)
      | inr later ↦ Contains-append_right (x ∷ []) cells other (leave_out-was cell other cells later)
    ]
  where
    in_left : (b : Bool) → Contains (if not b then x ∷ [] else []) other → Contains (x ∷ []) other
    in_left true at = absurd (let below = at.1 in omega (arith, below))
    in_left false at = at

pub times_in-first : (cells : List ℕ) (one other : ℕ) →
    times_in (one ∷ cells) other ≡ (if one == other then 1 else 0) + times_in cells other
times_in-first cells one other =
    let parts : times_in (one ∷ cells) other ≡ times_in (one ∷ []) other + times_in cells other =
    sum_by-append {X = ℕ} (λ c. if c == other then 1 else 0) (one ∷ []) cells in
    let first : times_in (one ∷ []) other ≡ (if one == other then 1 else 0) = omega arith in
    omega (arith, parts, first)

-- a scan that is open still is the one that it was said of
pub still_open-is : (scan other : Scan) → still_open scan ≡ Some other → scan ≡ other
still_open-is scan other is = by_buffer scan.buffer is
  where
    by_buffer : (cells : List ℕ) → open_scan scan cells ≡ Some other → scan ≡ other
    by_buffer [] e = by_test scan.agreed e
      where
        by_test : (test : Bool) → (if test then None else Some scan) ≡ Some other → scan ≡ other
        by_test true e = absurd (cc)
        by_test false e = cc
    by_buffer (x ∷ xs) e = cc

-- a scan with a cell in its buffer is open
pub still_open-holds : (scan : Scan) (cell : ℕ) → Contains scan.buffer cell → still_open scan ≡ Some scan
still_open-holds scan cell is = by_buffer scan.buffer is
  where
    by_buffer : (cells : List ℕ) → Contains cells cell → open_scan scan cells ≡ Some scan
    by_buffer [] at = absurd (let below = at.1 in omega (arith, below))
    by_buffer (x ∷ xs) at = refl

abbrev with_scan : View → List ℕ → Option Scan → View
with_scan v cells scan = record v { held = cells; scan = scan }

module _ (layout : Layout) (shapes : ShapeLists) (w : World) (me : ℕ) (inside : me < parties)
    (wave : RunningWave layout shapes w) (runs : (w.part me).runs ≡ true)
    (marks : is_marking w.heap ≡ true) where
  counts : Counts w.heap
  counts = colours_count layout shapes w wave marks

  module _ (scan : Scan) (scans : (w.part me).scan ≡ Some scan) (agreed : scan.agreed ≡ true) (cell : ℕ)
      (has : Contains scan.buffer cell) where
    abbrev shorter : Scan
    shorter = record scan { buffer = leave_out cell scan.buffer; target = None }

    truly : IsTrue scan (w.heap region.Structure scan.cell)
    truly = ((wave.scans.knows me scan scans).agreed agreed, inl agreed)

    alive : IsLive (state_after layout w.log) cell
    alive = wave.hands.cells me cell (buffered scan scans has)

    within : cell < cell_count layout
    within = live_within layout shapes wave.words.settled (state_after layout w.log) cell wave.words.reads alive

    -- what this scan answered for, but for the cell itself, it answers for still
    excuse_still : (source : ℕ) (place : Place) (target : ℕ) → target ≢ cell →
        ScanExcuses w.heap source place target (w.part me).scan →
        ScanExcuses w.heap source place target (still_open shorter)
    excuse_still source place target apart e = with_buffer (subst (ScanExcuses w.heap source place target) scans e)
      where
        with_buffer : ScanExcuses w.heap source place target (Some scan) →
            ScanExcuses w.heap source place target (still_open shorter)
        with_buffer (same, answers) = elim
            (answers (subst (λ (c : ℕ). IsTrue scan (w.heap region.Structure c)) same truly)) [
              | inl unread ↦ (let no_more = unread.0 in absurd (cc))
              | inr at ↦
                  let left = leave_out-other cell target scan.buffer apart at in
                  subst (ScanExcuses w.heap source place target) (sym (still_open-holds shorter target left)) (
                    same,
                    λ holds. inr left,
                  )
            ]

    -- the other things that are said of an open scan
    of_shorter : (P : Scan → Type 0) → P shorter → (other : Scan) → still_open shorter ≡ Some other → P other
    of_shorter P holds other is = subst P (still_open-is shorter other is) holds

    knows : ScanKnows layout w.heap (state_after layout w.log) shorter
    knows = let k = wave.scans.knows me scan scans in record {
      unread = k.unread;
      array_after = k.array_after;
      grows = k.grows;
      nuked = k.nuked;
      array = k.array;
      room = k.room;
      names_live = k.names_live;
      agreed = k.agreed;
    }

    -- the white cell is made grey and held
    pub marked_one : is_marked w.heap cell ≡ false →
        RunningWave layout shapes (record {
          heap = coloured w.heap cell Grey;
          part =
              put_at w.part me (with_scan (w.part me) (cell ∷ (w.part me).held) (still_open shorter));
          log = w.log;
        })
    marked_one white = quiet_step layout shapes w.heap w.part w.log me wave (coloured w.heap cell Grey)
        (with_scan (w.part me) (cell ∷ (w.part me).held) (still_open shorter)) record {
          inside = inside;
          words = λ at index. unread_write w.heap region.Colour cell (colour_word (running_cycle w.heap) Grey) refl at
              index;
          who = refl;
          seen = refl;
          mine = refl;
          owed = refl;
          known = refl;
          full = refl;
          growth = refl;
          marks = refl;
          cycle =
              refl;
          mark_version = refl;
          begun = refl;
          period = refl;
          left = refl;
          sweeping = refl;
          saw = refl;
          cleared = refl;
          swept = λ block. refl;
          waits = left_kept layout w.heap (coloured w.heap cell Grey) w.part me
              (with_scan (w.part me) (cell ∷ (w.part me).held) (still_open shorter)) refl refl
              (λ _ other in_other is. grey_after_grey w.heap cell other counts is) (λ c is. is) (λ is_one none. none) one_more
              wave.waits;
          calls = calls_view layout w.heap (coloured w.heap cell Grey) w.part me
              (with_scan (w.part me) (cell ∷ (w.part me).held) (still_open shorter)) refl (λ p. refl) wave.calls;
          stops = stops_view layout w.heap (coloured w.heap cell Grey) w.part me
              (with_scan (w.part me) (cell ∷ (w.part me).held) (still_open shorter)) refl (λ p. refl) wave.stops;
          ran = runs;
          runs = runs;
          colours = colours_coloured layout w.heap cell Grey (omega arith) wave.colours;
          balance = λ other in_other few. elim (cases_eq other cell) [
            | inl same ↦
                let one = ap {B = ℕ} (λ (b : Bool). if b then 1 else 0) (eq-eqb cell other (sym same)) in
                let not_grey = ap {B = ℕ} (λ (b : Bool). if b then 1 else 0) (ap (is_grey w.heap) same ∙
                (unmarked_is_neither w.heap cell white).1) in
                let grey = ap {B = ℕ} (λ (b : Bool). if b then 1 else 0)
                (ap (is_grey (coloured w.heap cell Grey)) same ∙
                is_grey-made w.heap cell counts) in
                let more = times_in-first (w.part me).held cell other in
                omega (arith, one, not_grey, grey, more)
            | inr apart ↦
                let no_one = ap {B = ℕ} (λ (b : Bool). if b then 1 else 0) (ne_eqb cell other (λ e. apart (sym e))) in
                let grey = ap {B = ℕ} (λ (b : Bool). if b then 1 else 0) (is_grey-other w.heap cell other Grey apart) in
                let more = times_in-first (w.part me).held cell other in
                omega (arith, no_one, grey, more)
          ];
          rests = λ idle. absurd (cc);
          at_hand = λ other at. still_at_hand other at;
          arrays = λ array other is has_it.
              of_shorter (λ s. s.array ≡ Some (array + 1) → ((state_after layout w.log).arrays array ≡ live) ⊎
              ((state_after layout w.log).arrays array ≡ spent)) (wave.hands.arrays me array scan scans) other is
              has_it;
          scanned = λ other is. of_shorter (λ s. IsStamped (coloured w.heap cell Grey) s.cell ×
              ScanKnows layout w.heap (state_after layout w.log) s ×
              ((c : ℕ) → Contains s.buffer c → IsTrue s (w.heap region.Structure s.cell) →
              (cycle_span layout w.log).link s.cell c)) (
                stamped_after scan.cell (wave.retained.scanned me scan scans),
                knows,
                λ c at holds.
                    wave.retained.buffered me c scan scans (leave_out-was cell c scan.buffer at) holds,
              ) other is;
          black = λ source place target link black_now white_now.
              let before = black_before_grey w.heap cell source counts black_now in
              let apart : target ≢ cell = λ same.
              (let grey = subst (λ (c : ℕ). is_marked (coloured w.heap cell Grey) c ≡ false) same white_now in let is =
              grey_is_marked (coloured w.heap cell Grey) cell (is_grey-made w.heap cell counts) in absurd (cc)) in
              inr (
                coloured-other w.heap cell source Grey before.0,
                sym (is_marked-other w.heap cell target Grey apart) ∙ white_now,
                λ excuse.
                    inl (elim excuse [
                      | inl owes ↦ inl (still_owes w.heap (coloured w.heap cell Grey) (w.part me).duty source (coloured-other w.heap cell source Grey before.0) owes)
                      | inr answers ↦
                          inr (excuse_still source place target apart answers)
                    ]),
              );
          grows = λ c g. record { grows = g.grows; owes = g.owes };
          stays = λ other. marked_after_grey w.heap cell other counts;
          recoloured = λ _ other.
              recoloured_one w.heap cell other Grey
              (grey_is_marked (coloured w.heap cell Grey) cell (is_grey-made w.heap cell counts));
          aims = λ other target is aims. of_shorter (λ s. s.target ≡ Some target → (target.cell < cell_count layout) ×
              ((w.heap region.Colour target.cell ≡ target.word) ⊎ IsMarked w.heap target.cell)) (λ none.
              absurd (cc)) other is aims;
          marked = λ other in_other now. elim (cases_eq other cell) [
            | inl same ↦ inr (
              marks,
              subst (λ (c : ℕ). IsRetained (cycle_span layout w.log) (IsSpared layout w.log) c) (sym same) kept,
              λ p elsewhere owes. (wave.born.owed marks p other owes).alone scan.cell
                  (subst (λ (c : ℕ). (cycle_span layout w.log).link scan.cell c) (sym same)
                  (wave.retained.buffered me cell scan scans has truly)),
            )
            | inr apart ↦ inl (sym (is_marked-other w.heap cell other Grey apart) ∙ now)
          ];
          born = λ _ other owes. inl owes;
          owes = λ other owes. (owes, not_now other owes);
          counted = λ _. (let few = blackened_le layout w.heap (coloured w.heap cell Grey) w.log
              (λ other black so. (black_before_grey w.heap cell other counts black).1) in omega (arith, few));
        }
      where
        one_more : (other : ℕ) → IsLeftFor w.heap (w.part me) other → IsLeftFor (coloured w.heap cell Grey)
            (with_scan (w.part me) (cell ∷ (w.part me).held) (still_open shorter)) other
        one_more other (in_word bit how) = in_word bit how
        one_more other (in_hand is lacks) =
            in_hand (Contains-append_right (cell ∷ []) (w.part me).held other is) lacks

        stamped_after : (other : ℕ) → IsStamped w.heap other → IsStamped (coloured w.heap cell Grey) other
        stamped_after other was = elim (recoloured_one w.heap cell other Grey (grey_is_marked (coloured w.heap cell Grey) cell (is_grey-made w.heap cell counts))) [
          | inl same ↦ (marked_after_grey w.heap cell other counts was.0, ap colour_cycle same ∙ was.1)
          | inr now ↦ now
        ]

        kept : IsRetained (cycle_span layout w.log) (IsSpared layout w.log) cell
        kept = by_link scan.cell cell
            (wave.retained.marked marks scan.cell
            (live_within layout shapes wave.words.settled (state_after layout w.log) scan.cell wave.words.reads
            (wave.hands.cells me scan.cell (scanned scan scans refl))) (wave.retained.scanned me scan scans).0)
            (wave.retained.buffered me cell scan scans has truly)

        not_now : (other : ℕ) → OwesColour (w.part me).duty other → is_marked (coloured w.heap cell Grey) other ≡ false
        not_now other owes =
            let a = wave.born.owed marks me other owes in
            elim (cases_eq other cell) [
              | inl same ↦ absurd (a.alone scan.cell (subst (λ (c : ℕ). (cycle_span layout w.log).link scan.cell c)
                  (sym same) (wave.retained.buffered me cell scan scans has truly)))
              | inr apart ↦ is_marked-other w.heap cell other Grey apart ∙ a.white
            ]

        still_at_hand : (other : ℕ) → IsAtHand (with_scan (w.part me) (cell ∷ (w.part me).held) (still_open shorter))
            other → IsLive (state_after layout w.log) other
        still_at_hand other (held is) = elim (Contains-append_cases (cell ∷ []) (w.part me).held other is) [
          | inl here ↦ subst (IsLive (state_after layout w.log)) (in_one cell other here) alive
          | inr later ↦ wave.hands.cells me other (held later)
        ]
        still_at_hand other (scanned s is at) =
            wave.hands.cells me other (scanned scan scans (of_shorter (λ s. s.cell ≡ other → scan.cell ≡ other) (λ e.
            e) s is at))
        still_at_hand other (buffered s is at) =
            wave.hands.cells me other (buffered scan scans
            (of_shorter (λ s. Contains s.buffer other → Contains scan.buffer other)
            (leave_out-was cell other scan.buffer) s is at))

    -- the cell is marked by now: the exchange finds another word, or the load of its colour a marked one
    pub lost_mark : is_marked w.heap cell ≡ true →
        RunningWave layout shapes (record {
          heap = w.heap;
          part =
              put_at w.part me (with_scan (w.part me) (w.part me).held (still_open shorter));
          log = w.log;
        })
    lost_mark now = quiet_step layout shapes w.heap w.part w.log me wave w.heap
        (with_scan (w.part me) (w.part me).held (still_open shorter)) record {
          inside = inside;
          words = λ at index read. refl;
          who = refl;
          seen = refl;
          mine = refl;
          owed = refl;
          known = refl;
          full = refl;
          growth = refl;
          marks = refl;
          cycle =
              refl;
          mark_version = refl;
          begun = refl;
          period = refl;
          left = refl;
          sweeping = refl;
          saw = refl;
          cleared = refl;
          swept = λ block. refl;
          waits = left_quiet layout w.heap w.heap w.part me
              (with_scan (w.part me) (w.part me).held (still_open shorter)) refl refl (λ _ c in_c is. is) (λ c is. is)
              refl refl refl refl wave.waits;
          calls =
              calls_view layout w.heap w.heap w.part me (with_scan (w.part me) (w.part me).held (still_open shorter))
              refl
              (λ p. refl) wave.calls;
          stops =
              stops_view layout w.heap w.heap w.part me (with_scan (w.part me) (w.part me).held (still_open shorter))
              refl
              (λ p. refl) wave.stops;
          ran = runs;
          runs = runs;
          colours = wave.colours;
          balance = λ other in_other few. refl;
          rests = λ idle. absurd (cc);
          at_hand = λ other at. left_at_hand other at;
          arrays = λ array other is has_it.
              of_shorter (λ s. s.array ≡ Some (array + 1) → ((state_after layout w.log).arrays array ≡ live) ⊎
              ((state_after layout w.log).arrays array ≡ spent)) (wave.hands.arrays me array scan scans) other is
              has_it;
          scanned = λ other is. of_shorter (λ s. IsStamped w.heap s.cell ×
              ScanKnows layout w.heap (state_after layout w.log) s ×
              ((c : ℕ) → Contains s.buffer c → IsTrue s (w.heap region.Structure s.cell) →
              (cycle_span layout w.log).link s.cell c)) (
                wave.retained.scanned me scan scans,
                knows,
                λ c at holds.
                    wave.retained.buffered me c scan scans (leave_out-was cell c scan.buffer at) holds,
              ) other is;
          black = λ source place target link black_now white_now.
              let apart : target ≢ cell = λ same.
              (let white = subst (λ (c : ℕ). is_marked w.heap c ≡ false) same white_now in absurd (cc)) in
              inr (
                refl,
                white_now,
                λ excuse.
                    inl (elim excuse [
                      | inl owes ↦ inl owes
                      | inr answers ↦
                          inr (excuse_still source place target apart answers)
                    ]),
              );
          grows = λ c g. record { grows = g.grows; owes = g.owes };
          stays = λ other is. is;
          recoloured = λ _ other. inl refl;
          aims = λ other target is aims. of_shorter (λ s. s.target ≡ Some target → (target.cell < cell_count layout) ×
              ((w.heap region.Colour target.cell ≡ target.word) ⊎ IsMarked w.heap target.cell)) (λ none.
              absurd (cc)) other is aims;
          marked = λ other in_other is. inl is;
          born = λ _ other owes. inl owes;
          owes = λ other owes. (owes, wave.born.white me other owes);
          counted = λ _. omega arith;
        }
      where
        left_at_hand : (other : ℕ) → IsAtHand (with_scan (w.part me) (w.part me).held (still_open shorter)) other →
            IsLive (state_after layout w.log) other
        left_at_hand other (held is) = wave.hands.cells me other (held is)
        left_at_hand other (scanned s is at) =
            wave.hands.cells me other (scanned scan scans (of_shorter (λ s. s.cell ≡ other → scan.cell ≡ other) (λ e.
            e) s is at))
        left_at_hand other (buffered s is at) =
            wave.hands.cells me other (buffered scan scans
            (of_shorter (λ s. Contains s.buffer other → Contains scan.buffer other)
            (leave_out-was cell other scan.buffer) s is at))

    -- the exchange of a mark that finds another word than was read
    pub mark_finds_other : (target : Target) → scan.target ≡ Some target → target.cell ≡ cell →
        w.heap region.Colour cell ≢ target.word →
        RunningWave layout shapes (record {
          heap = w.heap;
          part =
              put_at w.part me (with_scan (w.part me) (w.part me).held (still_open shorter));
          log = w.log;
        })
    mark_finds_other target aims is other = elim (wave.targets.right me scan target scans aims).1 [
      | inl same ↦ absurd (other (ap (w.heap region.Colour) (sym is) ∙ same))
      | inr now ↦ lost_mark (subst (λ (c : ℕ). is_marked w.heap c ≡ true) is now)
    ]
