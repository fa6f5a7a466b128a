-- Held cells are given back to a shared grey word.
use Rattle.std.proofs.Common.{ℕ, ◌≡◌, ◌+◌, ◌%◌, ◌<◌, ◌≤◌, ◌==◌, refl, sym, ◌∙◌, ap, arith, Bool, true, false, List, [], ◌∷◌, inl, inr}
use Rattle.std.proofs.lemmas.Bool.{cases_eq, eq-eqb, ne_eqb, and_from, eqb-true}
use Rattle.std.proofs.lemmas.Nat.Bits.{bit_at_or, bit_at-lt}
use Rattle.std.specs.Int.{bit_at}
use Rattle.std.specs.Prelude.{Contains, if◌then◌else◌, ◌&&◌, not, filter, bit_or, max}
use Rattle.tide_core.proofs.machine_laws.kinds.Scanning.{times_in-first}
use Rattle.tide_core.proofs.machine_laws.steps.Colouring.{unread_write}
use Rattle.tide_core.proofs.machine_laws.steps.Frames.{calls_view, stops_view}
use Rattle.tide_core.proofs.machine_laws.steps.GreyBits.{one_at_most}
use Rattle.tide_core.proofs.machine_laws.steps.Paying.{filter_was, in_filter}
use Rattle.tide_core.proofs.machine_laws.steps.Quiet.{quiet_step}
use Rattle.tide_core.proofs.machine_laws.steps.Stacks.{times_in-some}
use Rattle.tide_core.proofs.machine_laws.steps.Waiting.{left_kept, SharedBit}
use Rattle.tide_core.specs.machine.RunningWave.{RunningWave}
use Rattle.tide_core.specs.machine.World.{World, parties}
use Rattle.tide_core.specs.declared.machine.view.View.{View}
use Rattle.tide_core.specs.machine.points.Scans.{held, scanned, buffered}
use Rattle.tide_core.specs.machine.points.Witness.{IsLeftFor, in_word, in_hand}
use Rattle.tide_model.specs.Layout.{Layout, block_of_cell}
use Rattle.tide_model.specs.Numbers.{put_at}
use Rattle.tide_model.specs.Refused.{ShapeLists}
use Rattle.tide_words.specs.heap.Heap.{Heap, write}
use Rattle.tide_words.specs.marking.Colours.{is_marking, is_grey}
use Rattle.tide_words.specs.marking.Marking.{times_in}
use Rattle.tide_words.specs.tide_layout.declared.region.Region.TheVariants as region

-- a cell that passes stands as often after a test as before, and one that doesn't, not at all
pub times_in-filter : (test : ℕ → Bool) (cells : List ℕ) (cell : ℕ) →
    times_in (filter test cells) cell ≡ (if test cell then times_in cells cell else 0)
times_in-filter test [] cell = by_test (test cell)
  where
    by_test : (b : Bool) → 0 ≡ (if b then times_in [] cell else 0)
    by_test true = refl
    by_test false = refl
times_in-filter test (x ∷ cells) cell = one_more test x cells cell (times_in-filter test cells cell) (test x) refl
    (test cell) refl
  where
    one_more : (test : ℕ → Bool) (x : ℕ) (cells : List ℕ) (cell : ℕ) →
        times_in (filter test cells) cell ≡ (if test cell then times_in cells cell else 0) →
        (b : Bool) → test x ≡ b → (d : Bool) → test cell ≡ d →
        times_in (if b then x ∷ filter test cells else filter test cells) cell ≡
        (if test cell then times_in (x ∷ cells) cell else 0)
    one_more test x cells cell rest b is d at =
        let first = times_in-first cells x cell in
        let left = times_in-if b x (filter test cells) cell in
        let old = ap {B = ℕ} (λ (c : Bool). if c then times_in cells cell else 0) at in
        let new = ap {B = ℕ} (λ (c : Bool). if c then times_in (x ∷ cells) cell else 0) at in
        elim (cases_eq x cell) [
          | inl same ↦
              let one = ap {B = ℕ} (λ (c : Bool). if c then 1 else 0) (eq-eqb x cell same) in
              let both : b ≡ d = sym is ∙ ap test same ∙ at in
              both_cases b d both first left old new one rest
          | inr apart ↦
              let none = ap {B = ℕ} (λ (c : Bool). if c then 1 else 0) (ne_eqb x cell apart) in
              other_cases b d first left old new none rest
        ]
      where
        times_in-if : (b : Bool) (x : ℕ) (xs : List ℕ) (cell : ℕ) →
            times_in (if b then x ∷ xs else xs) cell ≡ (if b then (if x == cell then 1 else 0) else 0) + times_in xs
            cell
        times_in-if true x xs cell = times_in-first xs x cell
        times_in-if false x xs cell = omega arith

        both_cases : (b d : Bool) → b ≡ d →
            times_in (x ∷ cells) cell ≡ (if x == cell then 1 else 0) + times_in cells cell →
            times_in (if b then x ∷ filter test cells else filter test cells) cell ≡
            (if b then (if x == cell then 1 else 0) else 0) + times_in (filter test cells) cell →
            (if test cell then times_in cells cell else 0) ≡ (if d then times_in cells cell else 0) →
            (if test cell then times_in (x ∷ cells) cell else 0) ≡ (if d then times_in (x ∷ cells) cell else 0) →
            ◌≡◌ {A = ℕ} (if x == cell then 1 else 0) 1 →
            times_in (filter test cells) cell ≡ (if test cell then times_in cells cell else 0) →
            times_in (if b then x ∷ filter test cells else filter test cells) cell ≡
            (if test cell then times_in (x ∷ cells) cell else 0)
        both_cases true true e first left old new one rest = omega (arith, first, left, old, new, one, rest)
        both_cases false false e first left old new one rest = omega (arith, first, left, old, new, one, rest)
        both_cases true false e first left old new one rest = absurd (cc)
        both_cases false true e first left old new one rest = absurd (cc)

        other_cases : (b d : Bool) → times_in (x ∷ cells) cell ≡ (if x == cell then 1 else 0) + times_in cells cell →
            times_in (if b then x ∷ filter test cells else filter test cells) cell ≡
            (if b then (if x == cell then 1 else 0) else 0) + times_in (filter test cells) cell →
            (if test cell then times_in cells cell else 0) ≡ (if d then times_in cells cell else 0) →
            (if test cell then times_in (x ∷ cells) cell else 0) ≡ (if d then times_in (x ∷ cells) cell else 0) →
            ◌≡◌ {A = ℕ} (if x == cell then 1 else 0) 0 →
            times_in (filter test cells) cell ≡ (if test cell then times_in cells cell else 0) →
            times_in (if b then x ∷ filter test cells else filter test cells) cell ≡
            (if test cell then times_in (x ∷ cells) cell else 0)
        other_cases true true first left old new none rest = omega (arith, first, left, old, new, none, rest)
        other_cases false true first left old new none rest = omega (arith, first, left, old, new, none, rest)
        other_cases true false first left old new none rest = omega (arith, first, left, old, new, none, rest)
        other_cases false false first left old new none rest = omega (arith, first, left, old, new, none, rest)

module _ (layout : Layout) (shapes : ShapeLists) (w : World) (me : ℕ) (inside : me < parties)
    (wave : RunningWave layout shapes w) (runs : (w.part me).runs ≡ true) (marks : is_marking w.heap ≡ true)
    (block mask : ℕ) (of_held : (cell : ℕ) → block_of_cell cell ≡ block → bit_at mask (cell % 64) ≡ 1 →
    Contains (w.part me).held cell) where
  abbrev stays : ℕ → Bool
  stays cell = not ((block_of_cell cell == block) && (bit_at mask (cell % 64) == 1))

  abbrev new : Heap
  new = write w.heap region.GreyShared block (bit_or (w.heap region.GreyShared block) mask)

  abbrev later : View
  later = record (w.part me) { held = filter stays (w.part me).held }

  -- a bit of the new word
  bit_now : (cell : ℕ) → bit_at (new region.GreyShared (block_of_cell cell)) (cell % 64)
      ≡ (if block_of_cell cell == block then max (bit_at (w.heap region.GreyShared (block_of_cell cell)) (cell % 64))
      (bit_at mask (cell % 64)) else bit_at (w.heap region.GreyShared (block_of_cell cell)) (cell % 64))
  bit_now cell = elim (cases_eq (block_of_cell cell) block) [
    | inl same ↦
        ap (λ (b : Bool). bit_at (if b then bit_or (w.heap region.GreyShared block) mask else w.heap region.GreyShared
        (block_of_cell cell)) (cell % 64)) (eq-eqb (block_of_cell cell) block same)
        ∙ bit_at_or (w.heap region.GreyShared block) mask (cell % 64) ∙
        ap (λ (b : ℕ). max (bit_at (w.heap region.GreyShared b) (cell % 64)) (bit_at mask (cell % 64))) (sym same)
        ∙ sym (ap (λ (b : Bool). if b then max (bit_at (w.heap region.GreyShared (block_of_cell cell)) (cell % 64))
        (bit_at mask (cell % 64)) else bit_at (w.heap region.GreyShared (block_of_cell cell)) (cell % 64))
        (eq-eqb (block_of_cell cell) block same))
    | inr apart ↦
        ap (λ (b : Bool). bit_at (if b then bit_or (w.heap region.GreyShared block) mask else w.heap region.GreyShared
        (block_of_cell cell)) (cell % 64)) (ne_eqb (block_of_cell cell) block apart)
        ∙ sym (ap (λ (b : Bool). if b then max (bit_at (w.heap region.GreyShared (block_of_cell cell)) (cell % 64))
        (bit_at mask (cell % 64)) else bit_at (w.heap region.GreyShared (block_of_cell cell)) (cell % 64))
        (ne_eqb (block_of_cell cell) block apart))
  ]

  pub publish : RunningWave layout shapes (record { heap = new; part = put_at w.part me later; log = w.log })
  publish = quiet_step layout shapes w.heap w.part w.log me wave new later record {
    inside = inside;
    words = λ at index. unread_write w.heap region.GreyShared block (bit_or (w.heap region.GreyShared block) mask) refl
        at index;
    who = refl;
    seen = refl;
    mine = refl;
    owed = refl;
    known = refl;
    full = refl;
    growth = refl;
    marks = refl;
    cycle =
        refl;
    mark_version = refl;
    begun = refl;
    period = refl;
    left = refl;
    sweeping = refl;
    saw = refl;
    cleared = refl;
    swept = λ block. refl;
    waits = left_kept layout w.heap new w.part me later refl refl (λ _ c in_c is. is) bit_stays (λ is_one none. none)
        given_back wave.waits;
    calls = calls_view layout w.heap new w.part me later refl (λ p.
        refl) wave.calls;
    stops = stops_view layout w.heap new w.part me later refl (λ p.
        refl) wave.stops;
    ran = runs;
    runs = runs;
    colours = wave.colours;
    balance = λ cell within few.
        let now = bit_now cell in
        let left = times_in-filter stays (w.part me).held cell in
        let most = one_at_most (is_grey w.heap cell) in
        let bit = bit_at-lt mask (cell % 64) in
        elim (cases_eq (block_of_cell cell) block) [
          | inl same ↦ elim (cases_eq (bit_at mask (cell % 64)) 1) [
            | inl set ↦
                let some = times_in-some (w.part me).held cell (of_held cell same set) in
                let gone = ap {B = ℕ} (λ (b : Bool). if b then times_in (w.part me).held cell else 0)
                (ap not (and_from (block_of_cell cell == block) (bit_at mask (cell % 64) ==
                1) (eq-eqb (block_of_cell cell) block same) (eq-eqb (bit_at mask (cell % 64)) 1 set))) in
                let word = ap {B = ℕ} (λ (b : Bool).
                if b then max (bit_at (w.heap region.GreyShared (block_of_cell cell)) (cell % 64))
                (bit_at mask (cell % 64)) else bit_at (w.heap region.GreyShared (block_of_cell cell)) (cell % 64))
                (eq-eqb (block_of_cell cell) block same) in
                omega (arith, now, left, most, some, gone, word, set, few)
            | inr clear ↦
                let kept = ap {B = ℕ} (λ (b : Bool). if not ((block_of_cell cell == block) && b) then times_in
                (w.part me).held cell else 0) (ne_eqb (bit_at mask (cell % 64)) 1 clear) in
                let also = stays_if (block_of_cell cell == block) (times_in (w.part me).held cell) in
                let word = ap {B = ℕ} (λ (b : Bool).
                if b then max (bit_at (w.heap region.GreyShared (block_of_cell cell)) (cell % 64))
                (bit_at mask (cell % 64)) else bit_at (w.heap region.GreyShared (block_of_cell cell)) (cell % 64))
                (eq-eqb (block_of_cell cell) block same) in
                omega (arith, now, left, kept, also, word, clear, bit)
          ]
          | inr apart ↦
              let kept = ap {B = ℕ} (λ (b : Bool). if not (b && (bit_at mask (cell % 64) == 1)) then times_in
              (w.part me).held cell else 0) (ne_eqb (block_of_cell cell) block apart) in
              let word = ap {B = ℕ} (λ (b : Bool).
              if b then max (bit_at (w.heap region.GreyShared (block_of_cell cell)) (cell % 64))
              (bit_at mask (cell % 64)) else bit_at (w.heap region.GreyShared (block_of_cell cell)) (cell % 64))
              (ne_eqb (block_of_cell cell) block apart) in
              omega (arith, now, left, kept, word)
        ];
    rests = λ rest. absurd (cc);
    at_hand = λ cell at. wave.hands.cells me cell
        (elim at [
          | held is ↦ held (filter_was stays (w.part me).held cell is).0
          | scanned s is e ↦
              scanned s is e
          | buffered s is e ↦ buffered s is e
        ]);
    arrays = λ array scan is. wave.hands.arrays me array scan is;
    scanned = λ scan is. (
      wave.retained.scanned me scan is,
      wave.scans.knows me scan is,
      λ cell at.
          wave.retained.buffered me cell scan is at,
    );
    black = λ source place cell link black white.
        inr (refl, white, λ e. inl (elim e [ inl owes ↦ inl owes | inr answers ↦ inr answers ]));
    grows = λ c g. record { grows = g.grows; owes = g.owes };
    stays = λ cell is. is;
    recoloured = λ _ cell. inl refl;
    aims = λ scan target. wave.targets.right me scan target;
    marked = λ cell in_cell is. inl is;
    born = λ _ cell owes. inl owes;
    owes = λ cell owes. (owes, wave.born.white me cell owes);
    counted = λ _. omega arith;
  }
    where
      bit_stays : (cell : ℕ) → SharedBit w.heap cell → SharedBit new cell
      bit_stays cell set =
          let now = bit_now cell in
          let few = bit_at-lt (new region.GreyShared (block_of_cell cell)) (cell % 64) in
          let more = bigger (block_of_cell cell == block) (bit_at (w.heap region.GreyShared (block_of_cell cell))
          (cell % 64)) (bit_at mask (cell % 64)) in
          omega (arith, now, few, more, set)
        where
          bigger : (b : Bool) (one other : ℕ) → one ≤ (if b then max one other else one)
          bigger true one other = omega arith
          bigger false one other = omega arith

      -- a cell that is held no more has its bit in the word, which the round lacks
      given_back : (cell : ℕ) → IsLeftFor w.heap (w.part me) cell → IsLeftFor new later cell
      given_back cell (in_word bit how) = in_word (bit_stays cell bit) how
      given_back cell (in_hand has lacks) = by (stays cell) refl
        where
          by : (b : Bool) → stays cell ≡ b → IsLeftFor new later cell
          by true stays_is = in_hand (in_filter stays (w.part me).held cell stays_is has) lacks
          by false gone = in_word (bit_set (block_of_cell cell == block) refl (bit_at mask (cell % 64) == 1) refl gone)
              (inr lacks)
            where
              bit_set : (a : Bool) → (block_of_cell cell == block) ≡ a → (c : Bool) →
                  (bit_at mask (cell % 64) == 1) ≡ c → not ((block_of_cell cell == block) &&
                  (bit_at mask (cell % 64) == 1)) ≡ false → SharedBit new cell
              bit_set true in_block true set none =
                  let now = bit_now cell in
                  let word = ap {B = ℕ} (λ (b : Bool).
                  if b then max (bit_at (w.heap region.GreyShared (block_of_cell cell)) (cell % 64))
                  (bit_at mask (cell % 64)) else bit_at (w.heap region.GreyShared (block_of_cell cell)) (cell % 64))
                  in_block in
                  let one = eqb-true (bit_at mask (cell % 64)) 1 set in
                  let few = bit_at-lt (w.heap region.GreyShared (block_of_cell cell)) (cell % 64) in
                  omega (arith, now, word, one, few)
              bit_set true in_block false set none = absurd (cc)
              bit_set false in_block c set none = absurd (cc)

      stays_if : (b : Bool) (n : ℕ) → (if not (b && false) then n else 0) ≡ n
      stays_if true n = refl
      stays_if false n = refl
