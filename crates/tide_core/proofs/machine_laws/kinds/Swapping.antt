-- A grey word is exchanged for 0: its cells are held by the visitor from then on. A word that is 0 counts for the
-- round.
use Rattle.std.proofs.Common.{ℕ, ◌≡◌, ◌≢◌, ◌+◌, ◌<◌, ◌%◌, ◌⊎◌, ◌==◌, refl, sym, ◌∙◌, ap, subst, arith, Bool, true, false, List, [], ◌∷◌, ◌++◌, inl, inr}
use Rattle.std.proofs.lemmas.Bool.{cases_eq, eq-eqb, ne_eqb, eqb-true}
use Rattle.std.proofs.lemmas.List.Elements.{Contains-append_cases, Contains-append_left, Contains-append_right}
use Rattle.std.proofs.lemmas.Nat.Bits.{bit_at-lt, bit_at-zero}
use Rattle.std.specs.Int.{bit_at}
use Rattle.std.specs.Prelude.{Contains, if◌then◌else◌, ◌&&◌, not, length, is_some}
use Rattle.tide_words.specs.tide_layout.Region.{cell_block_count}
use Rattle.tide_words.specs.tide_layout.declared.region.Region.{Region}
use Rattle.tide_core.proofs.machine_laws.steps.CellsOfWords.{times_in-append, times_in-cells, in_by_times}
use Rattle.tide_core.proofs.machine_laws.steps.Colouring.{unread_write, blackened_le}
use Rattle.tide_core.proofs.machine_laws.steps.Frames.{calls_view, stops_view, put_here, put_else}
use Rattle.tide_core.proofs.machine_laws.steps.Lists.{nothing_in, in_one}
use Rattle.tide_core.proofs.machine_laws.steps.Loads.{load_same}
use Rattle.tide_core.proofs.machine_laws.steps.Quiet.{quiet_step}
use Rattle.tide_core.proofs.machine_laws.steps.Stacks.{times_in-some}
use Rattle.tide_core.proofs.machine_laws.steps.Waiting.{SharedBit, none_before, left_kept}
use Rattle.tide_core.specs.machine.Machine.{stepped}
use Rattle.tide_core.specs.machine.Kind.{SwapGrey}
use Rattle.tide_core.specs.machine.RunningWave.{RunningWave}
use Rattle.tide_core.specs.machine.Scanning.{rests_now}
use Rattle.tide_core.specs.machine.Words.{cells_in}
use Rattle.tide_core.specs.machine.World.{World, parties, total, holds}
use Rattle.tide_core.specs.declared.machine.view.Round.{Round}
use Rattle.tide_core.specs.declared.machine.view.View.{View}
use Rattle.tide_core.specs.machine.kinds.SwapGrey.{MaySwapGrey}
use Rattle.tide_core.specs.machine.points.Scans.{IsAtHand, held, scanned, buffered}
use Rattle.tide_core.specs.machine.points.Witness.{IsVisitor, IsLeft, IsLeftFor, in_word, in_hand, GreyIsLeft, LacksShared, shared_round}
use Rattle.tide_model.specs.History.{state_after}
use Rattle.tide_model.specs.Layout.{Layout, cell_count, block_of_cell}
use Rattle.tide_model.specs.Numbers.{put_at}
use Rattle.tide_model.specs.References.{IsLive}
use Rattle.tide_model.specs.Refused.{ShapeLists}
use Rattle.tide_core.specs.machine.May.{RunsAsVisitor}
use Rattle.tide_words.proofs.heap_laws.Frames.{is_read}
use Rattle.tide_words.proofs.marking_laws.ColourLaws.{grey_is_marked}
use Rattle.tide_words.specs.heap.Heap.{Heap, write}
use Rattle.tide_words.specs.marking.Colours.{is_marking, is_grey, IsGrey, running_cycle, is_black}
use Rattle.tide_words.specs.marking.Marking.{times_in, bits_of, NoLaterColours}
use Rattle.tide_core.proofs.machine_laws.steps.MarkedLives.{marked_is_live}
use Rattle.tide_core.proofs.machine_laws.steps.Barriers.{still_owes}
use Rattle.tide_words.specs.forms.ColourWord.{colour_cycle}
use Rattle.tide_core.proofs.machine_laws.steps.SameColours.{is_black-same, is_grey-same, is_marked-same}
use Rattle.tide_words.specs.marking.Marked.{base_cycle, is_marked}
use Rattle.tide_words.specs.tide_layout.declared.region.Region.TheVariants as region

-- the word of a grey region is 0 now, and what it had is in the list
module _ (layout : Layout) (shapes : ShapeLists) (w : World) (me : ℕ) (inside : me < parties)
    (wave : RunningWave layout shapes w) (runs : (w.part me).runs ≡ true) (marks : is_marking w.heap ≡ true)
    (is_one : IsVisitor layout me) (block : ℕ) (in_layout : block < cell_block_count layout) where
  -- a cell of a word whose bits were its holders is grey and live
  taken_live : (read cell : ℕ) → (block_of_cell cell ≡ block → bit_at read (cell % 64) ≡ 1 → 0 < bits_of w.heap cell) →
      Contains (cells_in block read) cell → IsLive (state_after layout w.log) cell
  taken_live read cell held_by at =
      let some = times_in-some (cells_in block read) cell at in
      let where_is = times_in-cells block read cell in
      elim (cases_eq (block_of_cell cell) block) [
        | inl same ↦
            let within : cell < cell_count layout = omega (arith, same, in_layout) in
            let once = wave.held.held cell within in
            let here = ap (λ (b : Bool). if b then bit_at read (cell % 64) else 0)
            (eq-eqb (block_of_cell cell) block same) in
            let few = bit_at-lt read (cell % 64) in
            let bits = held_by same (omega (arith, some, where_is, here, few)) in
            let grey = by_test (is_grey w.heap cell) refl once bits in
            marked_is_live layout shapes w wave cell within (grey_is_marked w.heap cell grey)
        | inr apart ↦ (let none = ap (λ (b : Bool). if b then bit_at read (cell % 64) else 0)
            (ne_eqb (block_of_cell cell) block apart) in absurd (omega (arith, some, where_is, none)))
      ]
    where
      by_test : (b : Bool) → is_grey w.heap cell ≡ b →
          bits_of w.heap cell + total (holds cell) w.part ≡ (if is_grey w.heap cell then 1 else 0) →
          0 < bits_of w.heap cell → is_grey w.heap cell ≡ true
      by_test true is once some = is
      by_test false isnt once some = (let none = ap {B = ℕ} (λ (b : Bool). if b then 1 else 0) isnt in
          absurd (omega (arith, once, some, none)))

  module _ (new : Heap) (read : ℕ)
      (words : (at : Region) (index : ℕ) → is_read at ≡ true → new at index ≡ w.heap at index)
      (period : new region.Period 0 ≡ w.heap region.Period 0)
      (colour : (c : ℕ) → new region.Colour c ≡ w.heap region.Colour c)
      (swept : (b : ℕ) → new region.Swept b ≡ w.heap region.Swept b)
      (call : (p : ℕ) → new region.Call p ≡ w.heap region.Call p)
      (stop : (index : ℕ) → new region.Stopped index ≡ w.heap region.Stopped index)
      (moved : (cell : ℕ) → bits_of new cell + times_in (cells_in block read) cell ≡ bits_of w.heap cell)
      (bits : (cell : ℕ) → block_of_cell cell ≡ block → bit_at read (cell % 64) ≡ 1 → 0 < bits_of w.heap cell)
      (shared : (cell : ℕ) → SharedBit w.heap cell → SharedBit new cell ⊎ Contains (cells_in block read) cell) where
    abbrev later : View
    later = record (w.part me) { held = (w.part me).held ++ cells_in block read; round = [] }

    phase : new region.Phase 0 ≡ w.heap region.Phase 0
    phase = words region.Phase 0 refl

    base : base_cycle new ≡ base_cycle w.heap
    base = words region.Base 0 refl

    same_grey : (cell : ℕ) → is_grey new cell ≡ is_grey w.heap cell
    same_grey cell = is_grey-same w.heap new cell base (colour cell)

    same_black : (cell : ℕ) → is_black new cell ≡ is_black w.heap cell
    same_black cell = is_black-same w.heap new cell base (colour cell)

    same_marked : (cell : ℕ) → is_marked new cell ≡ is_marked w.heap cell
    same_marked cell = is_marked-same w.heap new cell base (colour cell)

    colours_after : NoLaterColours layout new
    colours_after cell within =
        let c = colour cell in
        let few = wave.colours cell within in
        let cycle = ap (λ (p : ℕ). running_cycle (λ at index. p)) phase in
        omega (arith, c, few, cycle)

    -- what was left for a visitor is left for it, or for the one that took the word
    waits_after : GreyIsLeft layout new (put_at w.part me later)
    waits_after is_on visitors none =
        let left = wave.waits marks visitors (none_before layout w.heap new w.part me later period (λ v zero. zero)
        none) in
        by left.cell left.within left.grey left.who left.is_visitor left.left
      where
        mine : (cell : ℕ) → cell < cell_count layout → IsGrey w.heap cell → IsLeftFor new later cell →
            IsLeft layout new (put_at w.part me later)
        mine cell within is for_me = record {
          cell = cell;
          within = within;
          grey = same_grey cell ∙ is;
          who = me;
          is_visitor = is_one;
          left = subst (λ (u : View). IsLeftFor new u cell) (sym (put_here w.part me later)) for_me;
        }

        other : (cell : ℕ) → cell < cell_count layout → IsGrey w.heap cell → (p : ℕ) → IsVisitor layout p → p ≢ me →
            IsLeftFor new (w.part p) cell → IsLeft layout new (put_at w.part me later)
        other cell within is p visits apart for_it = record {
          cell = cell;
          within = within;
          grey = same_grey cell ∙ is;
          who = p;
          is_visitor = visits;
          left = subst (λ (u : View). IsLeftFor new u cell) (sym (put_else w.part me p later apart)) for_it;
        }

        lacks_all : (cell : ℕ) → LacksShared later (block_of_cell cell)
        lacks_all cell at = nothing_in (shared_round (block_of_cell cell)) at

        by : (cell : ℕ) → cell < cell_count layout → IsGrey w.heap cell → (p : ℕ) → IsVisitor layout p →
            IsLeftFor w.heap (w.part p) cell → IsLeft layout new (put_at w.part me later)
        by cell within is p visits (in_word bit how) = elim (shared cell bit) [
          | inr taken ↦ mine cell within is
              (in_hand (Contains-append_right (w.part me).held (cells_in block read) cell taken) (lacks_all cell))
          | inl still ↦ elim (cases_eq p me) [
            | inl same ↦ mine cell within is (in_word still (inr (lacks_all cell)))
            | inr apart ↦ other cell within is p visits apart (in_word still (elim how [
              | inl unbegun ↦ inl (λ e. unbegun (e ∙ period))
              | inr lacks ↦ inr lacks
            ]))
          ]
        ]
        by cell within is p visits (in_hand has lacks) = elim (cases_eq p me) [
          | inl same ↦ mine cell within is (in_hand (Contains-append_left (w.part me).held (cells_in block read) cell
              (subst (λ (q : ℕ). Contains (w.part q).held cell) same has)) (lacks_all cell))
          | inr apart ↦ other cell within is p visits apart (in_hand has lacks)
        ]

    pub swapped : RunningWave layout shapes (record { heap = new; part = put_at w.part me later; log = w.log })
    swapped = quiet_step layout shapes w.heap w.part w.log me wave new later record {
      inside = inside;
      words = words;
      who = refl;
      seen = refl;
      mine = refl;
      owed = refl;
      known = refl;
      full = refl;
      growth = refl;
      marks = refl;
      cycle = refl;
      mark_version = refl;
      begun = refl;
      left = refl;
      sweeping = refl;
      saw = refl;
      cleared = refl;
      swept = swept;
      waits = waits_after;
      period = period;
      calls = calls_view layout w.heap new w.part me later refl call wave.calls;
      stops = stops_view layout w.heap new w.part me later refl stop wave.stops;
      ran = runs;
      runs = runs;
      colours = colours_after;
      balance = λ cell within few.
          let m = moved cell in
          let more = times_in-append (w.part me).held (cells_in block read) cell in
          let grey = ap {B = ℕ} (λ (b : Bool). if b then 1 else 0) (same_grey cell) in
          omega (arith, m, more, grey);
      rests = λ idle. absurd (cc);
      at_hand = λ cell at. hands cell at;
      arrays = λ array scan is. wave.hands.arrays me array scan is;
      scanned = λ scan is. (
        (same_marked scan.cell ∙ (wave.retained.scanned me scan is).0, ap colour_cycle (colour scan.cell) ∙ (wave.retained.scanned me scan is).1 ∙ ap (λ (word : ℕ). running_cycle (λ at index. word)) (sym (words region.Phase 0 refl))),
        wave.scans.knows me scan is,
        λ cell at. wave.retained.buffered me cell scan is at,
      );
      black = λ source place cell link black white. inr (
        colour source,
        sym (same_marked cell) ∙ white,
        λ e. inl (elim e [ inl owes ↦ inl (still_owes w.heap new (w.part me).duty source (colour source) owes) | inr answers ↦ inr answers ]),
      );
      grows = λ c g. record { grows = g.grows; owes = g.owes };
      stays = λ cell is. same_marked cell ∙ is;
      recoloured = λ _ cell. inl (colour cell);
      aims = λ scan target. wave.targets.right me scan target;
      marked = λ cell in_cell is. inl (sym (same_marked cell) ∙ is);
      born = λ _ cell owes. inl owes;
      owes = λ cell owes. (owes, same_marked cell ∙ wave.born.white me cell owes);
      counted = λ _. (let few = blackened_le layout w.heap new w.log (λ c black so. sym (same_black c) ∙ black) in omega (arith, few));
    }
      where
        hands : (cell : ℕ) → IsAtHand later cell → IsLive (state_after layout w.log) cell
        hands cell (held is) = elim (Contains-append_cases (w.part me).held (cells_in block read) cell is) [
          | inl before ↦ wave.hands.cells me cell (held before)
          | inr now ↦ taken_live read cell (bits cell) now
        ]
        hands cell (scanned scan is at) = wave.hands.cells me cell (scanned scan is at)
        hands cell (buffered scan is at) = wave.hands.cells me cell (buffered scan is at)

  -- a word that is 0 is found so: it counts for the round of a visitor that holds nothing
  module _ (grey : Region) (bit_less : grey ≡ region.GreyShared → w.heap region.GreyShared block ≡ 0) where
    abbrev found_view : Bool → View
    found_view b = record (w.part me) {
      round = if b then record { region = grey; block = block } ∷ (w.part me).round else (w.part me).round;
    }

    waits_still : (b : Bool) → rests_now (w.part me) ≡ b → (cell : ℕ) → IsLeftFor w.heap (w.part me) cell →
        IsLeftFor w.heap (found_view b) cell
    waits_still false isnt cell (in_word bit how) = in_word bit how
    waits_still false isnt cell (in_hand has lacks) = in_hand has lacks
    waits_still true rests cell (in_hand has lacks) =
        absurd (held_some (w.part me).held cell has (eqb-true (length (w.part me).held) 0
        (Rattle.std.proofs.lemmas.Bool.and_parts (length (w.part me).held == 0) (not (is_some (w.part me).scan))
        rests).0))
      where
        held_some : (cells : List ℕ) (c : ℕ) → Contains cells c → length cells ≡ 0 → ⊥
        held_some [] c at none = nothing_in c at
        held_some (x ∷ cells) c at none = omega (arith, none)
    waits_still true rests cell (in_word bit (inl unbegun)) = in_word bit (inl unbegun)
    waits_still true rests cell (in_word bit (inr lacks)) = in_word bit (inr (λ at.
        elim (Contains-append_cases (record { region = grey; block = block } ∷ []) (w.part me).round
        (shared_round (block_of_cell cell)) at) [
          | inl here ↦ found_none (in_one _ (shared_round (block_of_cell cell)) here)
          | inr later ↦ lacks later
        ]))
      where
        found_none : record { region = grey; block = block } ≡ shared_round (block_of_cell cell) → ⊥
        found_none same =
            let at = ap (λ (r : Round). r.region) same in
            let of_block = ap (λ (r : Round). r.block) same in
            let empty = ap (w.heap region.GreyShared) (sym of_block) ∙ bit_less at in
            let clear = ap (λ (word : ℕ). bit_at word (cell % 64)) empty ∙ bit_at-zero (cell % 64) in
            omega (arith, clear, bit)

    pub found_zero : (b : Bool) → rests_now (w.part me) ≡ b →
        RunningWave layout shapes (record { heap = w.heap; part = put_at w.part me (found_view b); log = w.log })
    found_zero b is = quiet_step layout shapes w.heap w.part w.log me wave w.heap (found_view b) record {
      inside = inside;
      words = λ at index read. refl;
      who = refl;
      seen = refl;
      mine = refl;
      owed = refl;
      known = refl;
      full = refl;
      growth = refl;
      marks = refl;
      cycle = refl;
      mark_version = refl;
      begun = refl;
      left = refl;
      sweeping = refl;
      saw = refl;
      cleared = refl;
      swept = λ block. refl;
      waits = left_kept layout w.heap w.heap w.part me (found_view b) refl refl (λ _ c in_c is. is) (λ c is. is)
          (λ v none. none) (waits_still b is) wave.waits;
      period = refl;
      calls = calls_view layout w.heap w.heap w.part me (found_view b) refl (λ p. refl) wave.calls;
      stops = stops_view layout w.heap w.heap w.part me (found_view b) refl (λ p. refl) wave.stops;
      ran = runs;
      runs = runs;
      colours = wave.colours;
      balance = λ cell within few. refl;
      rests = λ idle. absurd (cc);
      at_hand = λ cell at. wave.hands.cells me cell (elim at [
        | held is ↦ held is
        | scanned scan is e ↦ scanned scan is e
        | buffered scan is e ↦ buffered scan is e
      ]);
      arrays = λ array scan is. wave.hands.arrays me array scan is;
      scanned = λ scan is. (
        wave.retained.scanned me scan is,
        wave.scans.knows me scan is,
        λ cell at. wave.retained.buffered me cell scan is at,
      );
      black = λ source place cell link black white.
          inr (refl, white, λ e. inl (elim e [ inl owes ↦ inl owes | inr answers ↦ inr answers ]));
      grows = λ c g. record { grows = g.grows; owes = g.owes };
      stays = λ cell is. is;
      recoloured = λ _ cell. inl refl;
      aims = λ scan target. wave.targets.right me scan target;
      marked = λ cell in_cell is. inl is;
      born = λ _ cell owes. inl owes;
      owes = λ cell owes. (owes, wave.born.white me cell owes);
      counted = λ _. omega arith;
    }

-- a visitor takes the grey cells of a block, or finds none
module _ (layout : Layout) (shapes : ShapeLists) (w : World) (me : ℕ) (inside : me < parties)
    (wave : RunningWave layout shapes w) (marks : is_marking w.heap ≡ true) (block : ℕ) where
  -- what the shared word loses, its cells have
  module _ (runner : RunsAsVisitor layout w me) (in_layout : block < cell_block_count layout) where
    abbrev shared_word : ℕ
    shared_word = w.heap region.GreyShared block

    abbrev without_shared : Heap
    without_shared = write w.heap region.GreyShared block 0

    -- of a cell of the block, and of another
    in_block : (word cell : ℕ) → block_of_cell cell ≡ block →
        times_in (cells_in block word) cell ≡ bit_at word (cell % 64)
    in_block word cell same = times_in-cells block word cell
        ∙ ap (λ (b : Bool). if b then bit_at word (cell % 64) else 0) (eq-eqb (block_of_cell cell) block same)

    in_other : (word cell : ℕ) → block_of_cell cell ≢ block → times_in (cells_in block word) cell ≡ 0
    in_other word cell apart = times_in-cells block word cell
        ∙ ap (λ (b : Bool). if b then bit_at word (cell % 64) else 0) (ne_eqb (block_of_cell cell) block apart)

    -- a bit of the word that is 0 now
    left_here : (old : ℕ → ℕ) (cell : ℕ) → block_of_cell cell ≡ block →
        bit_at (if block_of_cell cell == block then 0 else old (block_of_cell cell)) (cell % 64) ≡ 0
    left_here old cell same = ap (λ (b : Bool). bit_at (if b then 0 else old (block_of_cell cell)) (cell % 64))
        (eq-eqb (block_of_cell cell) block same) ∙ bit_at-zero (cell % 64)

    left_else : (old : ℕ → ℕ) (cell : ℕ) → block_of_cell cell ≢ block →
        bit_at (if block_of_cell cell == block then 0 else old (block_of_cell cell)) (cell % 64)
        ≡ bit_at (old (block_of_cell cell)) (cell % 64)
    left_else old cell apart = ap (λ (b : Bool). bit_at (if b then 0 else old (block_of_cell cell)) (cell % 64))
        (ne_eqb (block_of_cell cell) block apart)

    moved_shared : (cell : ℕ) →
        bits_of without_shared cell + times_in (cells_in block shared_word) cell ≡ bits_of w.heap cell
    moved_shared cell = elim (cases_eq (block_of_cell cell) block) [
      | inl same ↦
          let taken = in_block shared_word cell same in
          let left = left_here (w.heap region.GreyShared) cell same in
          let old = ap (λ (b : ℕ). bit_at (w.heap region.GreyShared b) (cell % 64)) same in
          omega (arith, taken, left, old)
      | inr apart ↦
          let taken = in_other shared_word cell apart in
          let left = left_else (w.heap region.GreyShared) cell apart in
          omega (arith, taken, left)
    ]

    shared_moved : (cell : ℕ) → SharedBit w.heap cell → SharedBit without_shared cell ⊎
        Contains (cells_in block shared_word) cell
    shared_moved cell bit = elim (cases_eq (block_of_cell cell) block) [
      | inl same ↦
          let taken = in_block shared_word cell same in
          let old = ap (λ (b : ℕ). bit_at (w.heap region.GreyShared b) (cell % 64)) same in
          inr (in_by_times (cells_in block shared_word) cell (omega (arith, taken, old, bit)))
      | inr apart ↦ inl (left_else (w.heap region.GreyShared) cell apart ∙ bit)
    ]

    swap_shared : RunningWave layout shapes (record {
      heap = without_shared;
      part = put_at w.part me (record (w.part me) {
        held = (w.part me).held ++ cells_in block shared_word;
        round = [];
      });
      log = w.log;
    })
    swap_shared = swapped layout shapes w me inside wave runner.runs marks (runner.is_visitor, runner.within) block
        in_layout without_shared shared_word (λ at index. unread_write w.heap region.GreyShared block 0 refl at index)
        refl (λ c. refl) (λ b. refl) (λ p. refl) (λ index. refl) moved_shared
        (λ cell same set. let old = ap (λ (b : ℕ). bit_at (w.heap region.GreyShared b) (cell % 64)) same in
        omega (arith, old, set)) shared_moved

    abbrev mutator_word : ℕ
    mutator_word = w.heap region.GreyMutator block

    abbrev without_mutator : Heap
    without_mutator = write w.heap region.GreyMutator block 0

    moved_mutator : (cell : ℕ) →
        bits_of without_mutator cell + times_in (cells_in block mutator_word) cell ≡ bits_of w.heap cell
    moved_mutator cell = elim (cases_eq (block_of_cell cell) block) [
      | inl same ↦
          let taken = in_block mutator_word cell same in
          let left = left_here (w.heap region.GreyMutator) cell same in
          let old = ap (λ (b : ℕ). bit_at (w.heap region.GreyMutator b) (cell % 64)) same in
          omega (arith, taken, left, old)
      | inr apart ↦
          let taken = in_other mutator_word cell apart in
          let left = left_else (w.heap region.GreyMutator) cell apart in
          omega (arith, taken, left)
    ]

    swap_mutator : RunningWave layout shapes (record {
      heap = without_mutator;
      part = put_at w.part me (record (w.part me) {
        held = (w.part me).held ++ cells_in block mutator_word;
        round = [];
      });
      log = w.log;
    })
    swap_mutator = swapped layout shapes w me inside wave runner.runs marks (runner.is_visitor, runner.within) block
        in_layout without_mutator mutator_word
        (λ at index. unread_write w.heap region.GreyMutator block 0 refl at index)
        refl (λ c. refl) (λ b. refl) (λ p. refl) (λ index. refl) moved_mutator
        (λ cell same set. let old = ap (λ (b : ℕ). bit_at (w.heap region.GreyMutator b) (cell % 64)) same in
        omega (arith, old, set)) (λ cell bit. inl bit)

  pub swap_grey : (grey : Region) → MaySwapGrey layout w me grey block →
      RunningWave layout shapes (stepped layout shapes w me (SwapGrey grey block))
  swap_grey grey may = by (w.heap grey block == 0) refl
    where
      by : (b : Bool) → (w.heap grey block == 0) ≡ b → RunningWave layout shapes (record {
        heap = write w.heap grey block 0;
        part = put_at w.part me (if b then record (w.part me) {
          round = if rests_now (w.part me) then record {
            region = grey;
            block = block;
          } ∷ (w.part me).round else (w.part me).round;
        } else record (w.part me) { held = (w.part me).held ++ cells_in block (w.heap grey block); round = [] });
        log = w.log;
      })
      by true is =
          let none = eqb-true (w.heap grey block) 0 is in
          subst (λ (x : ℕ). RunningWave layout shapes (record {
            heap = write w.heap grey block x;
            part = put_at w.part me (record (w.part me) {
              round = if rests_now (w.part me) then record {
                region = grey;
                block = block;
              } ∷ (w.part me).round else (w.part me).round;
            });
            log = w.log;
          })) none (load_same layout shapes w.heap grey block _ w.log
          (found_zero layout shapes w me inside wave may.runner.runs marks
          (may.runner.is_visitor, may.runner.within) block may.within grey
          (λ shared. ap (λ (r : Region). w.heap r block) (sym shared) ∙ none) (rests_now (w.part me)) refl))
      by false isnt = elim may.is_grey [
        | inl shared ↦ subst (λ (r : Region). RunningWave layout shapes (record {
          heap = write w.heap r block 0;
          part = put_at w.part me (record (w.part me) {
            held = (w.part me).held ++ cells_in block (w.heap r block);
            round = [];
          });
          log = w.log;
        })) (sym shared) (swap_shared may.runner may.within)
        | inr mutator ↦ subst (λ (r : Region). RunningWave layout shapes (record {
          heap = write w.heap r block 0;
          part = put_at w.part me (record (w.part me) {
            held = (w.part me).held ++ cells_in block (w.heap r block);
            round = [];
          });
          log = w.log;
        })) (sym mutator) (swap_mutator may.runner may.within)
      ]
