-- A held cell is made black, and its scan begins.
use Rattle.std.proofs.Common.{ℕ, zero, suc, ◌≡◌, ◌≢◌, ◌+◌, ◌<◌, ◌≤◌, ◌⊎◌, ◌==◌, refl, sym, ◌∙◌, ap, subst, arith, Bool, true, false, List, [], ◌∷◌, inl, inr, Option, Some, None}
use Rattle.std.proofs.lemmas.Bool.{cases_eq, eq-eqb, ne_eqb, eqb-true, and_parts, and_from}
use Rattle.std.proofs.lemmas.List.Elements.{Contains-append_cases, Contains-append_left, Contains-append_right}
use Rattle.std.specs.Prelude.{Contains, if◌then◌else◌, ◌&&◌, length}
use Rattle.tide_words.specs.tide_layout.Slots.{total_below}
use Rattle.tide_core.proofs.machine_laws.steps.BaseBounds.{colours_count}
use Rattle.tide_core.proofs.machine_laws.steps.Colouring.{unread_write, colours_coloured, recoloured_one}
use Rattle.tide_core.proofs.machine_laws.steps.Frames.{calls_view, stops_view, put_here}
use Rattle.tide_core.proofs.machine_laws.steps.Lists.{nothing_in}
use Rattle.tide_core.proofs.machine_laws.steps.Quiet.{quiet_step}
use Rattle.tide_core.proofs.machine_laws.steps.Stacks.{times_in-take_out, times_in-some}
use Rattle.tide_core.specs.machine.RunningWave.{RunningWave}
use Rattle.tide_core.specs.machine.Scanning.{take_out, scan_of, IsTrue, IsUnread, Place, slot, property}
use Rattle.tide_core.specs.machine.World.{World, parties, holds}
use Rattle.tide_core.specs.declared.machine.view.Scan.{Scan}
use Rattle.tide_core.specs.declared.machine.view.View.{View}
use Rattle.tide_core.specs.machine.points.Links.{ScanExcuses, LinkAt}
use Rattle.tide_core.specs.machine.points.Marks.{counted_in}
use Rattle.tide_core.specs.wave.FrozenWave.{is_of_visit}
use Rattle.tide_core.specs.machine.points.Scans.{IsAtHand, held, scanned, buffered, ScanKnows}
use Rattle.tide_core.specs.machine.points.Witness.{IsVisitor, GreyIsLeft}
use Rattle.tide_model.specs.Cycle.{cycle_span}
use Rattle.tide_model.specs.History.{state_after}
use Rattle.tide_model.specs.Layout.{Layout, cell_count, class_of, slots_of}
use Rattle.tide_model.specs.Numbers.{put_at, count_where}
use Rattle.tide_model.specs.References.{IsLive}
use Rattle.tide_model.specs.Refused.{ShapeLists, is_table}
use Rattle.tide_model.specs.State.{live, spent, is_free}
use Rattle.tide_words.proofs.heap_laws.ReadingLaws.{live_within}
use Rattle.tide_words.proofs.marking_laws.ColourLaws.{is_black-made, is_grey-other, is_black-other, is_marked-other, black_is_not_grey, black_is_marked, grey_is_marked, coloured-same, coloured-other}
use Rattle.tide_words.specs.declared.forms.colours.Colour.TheVariants.{Black}
use Rattle.tide_words.specs.forms.ColourWord.{colour_word, colour_cycle}
use Rattle.tide_words.specs.marking.Colours.{coloured, is_marking, running_cycle, is_grey, is_black, IsBlack, IsGrey, IsMarked, IsStamped}
use Rattle.tide_words.specs.marking.Marked.{is_marked}
use Rattle.tide_words.proofs.form_laws.FormLaws.{colour_cycle-of}
use Rattle.tide_core.proofs.machine_laws.steps.Barriers.{still_owes}
use Rattle.tide_words.specs.tide_layout.declared.region.Region.TheVariants as region

take_out-was : (cell other : ℕ) (cells : List ℕ) → Contains (take_out cell cells) other → Contains cells other
take_out-was cell other [] at = at
take_out-was cell other (x ∷ cells) at = by_test (x == cell) (λ later. take_out-was cell other cells later) at
  where
    by_test : (b : Bool) → (Contains (take_out cell cells) other → Contains cells other) →
        Contains (if b then cells else x ∷ take_out cell cells) other → Contains (x ∷ cells) other
    by_test true rest is = Contains-append_right (x ∷ []) cells other is
    by_test false rest is = elim (Contains-append_cases (x ∷ []) (take_out cell cells) other is) [
      | inl here ↦ Contains-append_left (x ∷ []) cells other here
      | inr later ↦ Contains-append_right (x ∷ []) cells other (rest later)
    ]

-- a count where one number alone may pass that did not
count_where-one_more : (one other : ℕ → Bool) (at n : ℕ) →
    ((k : ℕ) → k ≢ at → one k ≡ true → other k ≡ true) → count_where one n ≤ count_where other n + 1
count_where-one_more one other at zero implies = omega arith
count_where-one_more one other at (suc n) implies = elim (cases_eq n at) [
  | inl same ↦ (let before = below n (omega (arith, same)) in let most = bit (one n) in omega (arith, before, most))
  | inr apart ↦ (let before = count_where-one_more one other at n implies in
      let here = step (one n) (other n) (implies n apart) in omega (arith, before, here))
]
  where
    bit : (b : Bool) → ◌≤◌ (if b then 1 else 0) 1
    bit true = omega arith
    bit false = omega arith

    step : (a b : Bool) → (a ≡ true → b ≡ true) → (if a then 1 else 0) ≤ (if b then 1 else 0)
    step false b h = omega arith
    step true true h = omega arith
    step true false h = (let clash = h refl in absurd (cc))

    below : (m : ℕ) → m ≤ at → count_where one m ≤ count_where other m
    below zero h = omega arith
    below (suc m) h = (let before = below m (omega arith) in
        let here = step (one m) (other m) (implies m (λ e. omega (arith, e))) in omega (arith, before, here))

one_holder : (f : ℕ → ℕ) (k n : ℕ) → k < n → f k ≤ total_below f n
one_holder f k zero h = absurd (omega arith)
one_holder f k (suc n) h = elim (cases_eq k n) [
  | inl same ↦ (let at = ap f same in omega (arith, at))
  | inr apart ↦ (let earlier = one_holder f k n (omega (arith, apart)) in omega (arith, earlier))
]

module _ (layout : Layout) (shapes : ShapeLists) (w : World) (me : ℕ) (inside : me < parties)
    (wave : RunningWave layout shapes w) (runs : (w.part me).runs ≡ true) (marks : is_marking w.heap ≡ true)
    (is_one : IsVisitor layout me) (no_scan : (w.part me).scan ≡ None) (cell : ℕ)
    (has : Contains (w.part me).held cell) where
  abbrev next : Option Scan
  next = if is_table layout cell then None else Some (scan_of cell)

  abbrev later : View
  later = record (w.part me) {
    held = take_out cell (w.part me).held;
    visits = (w.part me).visits + 1;
    round = [];
    scan = next;
  }

  alive : IsLive (state_after layout w.log) cell
  alive = wave.hands.cells me cell (held has)

  within : cell < cell_count layout
  within = live_within layout shapes wave.words.settled (state_after layout w.log) cell wave.words.reads alive

  was_grey : IsGrey w.heap cell
  was_grey = by_test (is_grey w.heap cell) refl
    where
      by_test : (b : Bool) → is_grey w.heap cell ≡ b → b ≡ true
      by_test true is = refl
      by_test false isnt =
          let once = wave.held.held cell within in
          let none = ap {B = ℕ} (λ (b : Bool). if b then 1 else 0) isnt in
          let some = times_in-some (w.part me).held cell has in
          let mine = one_holder (λ p. holds cell (w.part p)) me parties inside in
          absurd (omega (arith, once, none, some, mine))

  -- no cell but the one is black that wasn't, and just the same are marked
  black_else : (other : ℕ) → other ≢ cell → is_black (coloured w.heap cell Black) other ≡ is_black w.heap other
  black_else other apart = is_black-other w.heap cell other Black apart

  made_black : IsBlack (coloured w.heap cell Black) cell
  made_black = is_black-made w.heap cell (colours_count layout shapes w wave marks)

  made_marked : IsMarked (coloured w.heap cell Black) cell
  made_marked = black_is_marked (coloured w.heap cell Black) cell made_black

  same_marked : (other : ℕ) → is_marked (coloured w.heap cell Black) other ≡ is_marked w.heap other
  same_marked other = elim (cases_eq other cell) [
    | inl same ↦ subst (IsMarked (coloured w.heap cell Black)) (sym same) made_marked
        ∙ sym (subst (IsMarked w.heap) (sym same) (grey_is_marked w.heap cell was_grey))
    | inr apart ↦ is_marked-other w.heap cell other Black apart
  ]

  -- a table has no link
  bare : (place : Place) (target : ℕ) → is_table layout cell ≡ true →
      LinkAt (state_after layout w.log) cell place target → ⊥
  bare (property n) target table link =
      (let none = ap length (wave.bare cell table) in let below = link.1 in omega (arith, none, below))
  bare (slot n) target table link =
      let class = eqb-true (class_of layout cell) 4 table in
      let few = ap slots_of class in
      let none = ((wave.words.reads.parts.cells cell within).taken (ap is_free alive)).past_slots n
      (omega (arith, few)) in
      let some = link.1 in
      absurd (cc)

  -- what is said of the new scan, if there is one
  of_next : (P : Scan → Type 0) → P (scan_of cell) → (scan : Scan) → next ≡ Some scan → P scan
  of_next P holds scan is = by_test (is_table layout cell) is
    where
      by_test : (b : Bool) → (if b then None else Some (scan_of cell)) ≡ Some scan → P scan
      by_test true e = absurd (cc)
      by_test false e = subst P (let same : scan_of cell ≡ scan = cc in same) holds

  unread : (place : Place) → IsUnread (scan_of cell) place
  unread (slot n) = refl
  unread (property n) = refl

  -- the new scan answers for each link of the cell
  answers : (place : Place) (target : ℕ) → LinkAt (state_after layout w.log) cell place target →
      ScanExcuses w.heap cell place target next
  answers place target link = by_test (is_table layout cell) refl
    where
      by_test : (b : Bool) → is_table layout cell ≡ b →
          ScanExcuses w.heap cell place target (if b then None else Some (scan_of cell))
      by_test true table = absurd (bare place target table link)
      by_test false no_table = (refl, λ holds. inl (refl, unread place))

  -- the visitor counts this one
  counts : counted_in (w.heap region.Period 0) later ≡ (w.part me).visits + 1
  counts = ap {B = ℕ} (λ (b : Bool). if b then (w.part me).visits + 1 else 0)
      (eq-eqb (w.part me).begun (w.heap region.Period 0) (wave.numbers.told me runs).2)

  waits_after : GreyIsLeft layout (coloured w.heap cell Black) (put_at w.part me later)
  waits_after is_on visitors none =
      let zero_now = ap (counted_in (w.heap region.Period 0)) (sym (put_here w.part me later)) ∙ none me is_one in
      let some = counts in
      absurd (omega (arith, zero_now, some))

  pub blacken : RunningWave layout shapes
      (record { heap = coloured w.heap cell Black; part = put_at w.part me later; log = w.log })
  blacken = quiet_step layout shapes w.heap w.part w.log me wave (coloured w.heap cell Black) later record {
    inside = inside;
    words = λ at index. unread_write w.heap region.Colour cell (colour_word (running_cycle w.heap) Black) refl at index;
    who = refl;
    seen = refl;
    mine = refl;
    owed = refl;
    known = refl;
    full = refl;
    growth = refl;
    marks = refl;
    cycle = refl;
    mark_version = refl;
    begun = refl;
    left = refl;
    sweeping = refl;
    saw = refl;
    cleared = refl;
    swept = λ block. refl;
    waits = waits_after;
    period = refl;
    calls = calls_view layout w.heap (coloured w.heap cell Black) w.part me later refl (λ p. refl) wave.calls;
    stops = stops_view layout w.heap (coloured w.heap cell Black) w.part me later refl (λ p. refl) wave.stops;
    ran = runs;
    runs = runs;
    colours = colours_coloured layout w.heap cell Black (omega arith) wave.colours;
    balance = λ other in_other few.
        let less = times_in-take_out cell other (w.part me).held has in
        elim (cases_eq other cell) [
          | inl same ↦
              let one = ap {B = ℕ} (λ (b : Bool). if b then 1 else 0) (eq-eqb cell other (sym same)) in
              let grey = ap {B = ℕ} (λ (b : Bool). if b then 1 else 0) (ap (is_grey w.heap) same ∙ was_grey) in
              let not_grey = ap {B = ℕ} (λ (b : Bool). if b then 1 else 0)
              (ap (is_grey (coloured w.heap cell Black)) same ∙
              black_is_not_grey (coloured w.heap cell Black) cell made_black) in
              omega (arith, less, one, grey, not_grey)
          | inr apart ↦
              let no_one = ap {B = ℕ} (λ (b : Bool). if b then 1 else 0) (ne_eqb cell other (λ e. apart (sym e))) in
              let grey = ap {B = ℕ} (λ (b : Bool). if b then 1 else 0) (is_grey-other w.heap cell other Black apart) in
              omega (arith, less, no_one, grey)
        ];
    rests = λ idle. absurd (cc);
    at_hand = λ other at. hands other at;
    arrays = λ array scan is. of_next (λ s. s.array ≡ Some (array + 1) →
        ((state_after layout w.log).arrays array ≡ live) ⊎ ((state_after layout w.log).arrays array ≡ spent)) (λ none.
        absurd (cc)) scan is;
    scanned = of_next (λ s. IsStamped (coloured w.heap cell Black) s.cell ×
        ScanKnows layout w.heap (state_after layout w.log) s × ((c : ℕ) → Contains s.buffer c →
        IsTrue s (w.heap region.Structure s.cell) → (cycle_span layout w.log).link s.cell c))
        ((made_marked, ap colour_cycle (coloured-same w.heap cell Black) ∙ colour_cycle-of (running_cycle w.heap) Black), fresh, λ c at holds. absurd (nothing_in c at));
    black = λ source place target link black white. elim (cases_eq source cell) [
      | inl same ↦ inl (inr (subst (λ (c : ℕ). ScanExcuses w.heap c place target next) (sym same)
          (answers place target (subst (λ (c : ℕ). LinkAt (state_after layout w.log) c place target) same link))))
      | inr apart ↦ inr (
        coloured-other w.heap cell source Black apart,
        sym (same_marked target) ∙ white,
        λ e. inl (elim e [
          | inl owes ↦ inl (still_owes w.heap (coloured w.heap cell Black) (w.part me).duty source (coloured-other w.heap cell source Black apart) owes)
          | inr old ↦ absurd (subst (ScanExcuses w.heap source place target) no_scan old)
        ]),
      )
    ];
    grows = λ c g. record { grows = g.grows; owes = g.owes };
    stays = λ other is. same_marked other ∙ is;
    recoloured = λ _ other. recoloured_one w.heap cell other Black made_marked;
    aims = λ scan target is. of_next (λ s. s.target ≡ Some target → (target.cell < cell_count layout) ×
        ((w.heap region.Colour target.cell ≡ target.word) ⊎ IsMarked w.heap target.cell)) (λ none.
        absurd (cc)) scan is;
    marked = λ other in_other is. inl (sym (same_marked other) ∙ is);
    born = λ _ other owes. inl owes;
    owes = λ other owes. (owes, same_marked other ∙ wave.born.white me other owes);
    counted = λ _. (let few = count_where-one_more
        (λ c. is_black (coloured w.heap cell Black) c && is_of_visit layout w.log c)
        (λ c. is_black w.heap c && is_of_visit layout w.log c) cell (cell_count layout)
        (λ other apart both. let parts = and_parts (is_black (coloured w.heap cell Black) other)
        (is_of_visit layout w.log other) both in
        and_from (is_black w.heap other) (is_of_visit layout w.log other) (sym (black_else other apart) ∙ parts.0)
        parts.1) in omega (arith, few));
  }
    where
      fresh : ScanKnows layout w.heap (state_after layout w.log) (scan_of cell)
      fresh = record {
        unread = λ is. refl;
        array_after = λ is. refl;
        grows = λ first is. absurd (cc);
        nuked = λ first is. absurd (cc);
        array = λ word is. absurd (cc);
        room = λ first array place is. absurd (cc);
        names_live = λ first array place c is. absurd (cc);
        agreed = λ is. absurd (cc);
      }

      hands : (other : ℕ) → IsAtHand later other → IsLive (state_after layout w.log) other
      hands other (held is) = wave.hands.cells me other (held (take_out-was cell other (w.part me).held is))
      hands other (scanned scan is at) =
          subst (IsLive (state_after layout w.log)) (of_next (λ s. s.cell ≡ other → cell ≡ other) (λ e. e) scan is at)
          alive
      hands other (buffered scan is at) =
          absurd (of_next (λ s. Contains s.buffer other → ⊥) (λ b. nothing_in other b) scan is at)
