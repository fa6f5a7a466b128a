-- A mutator looks for something free: a block that shows nothing is full at that moment, a take may be lost, and a call
-- may be refused for room. The wave is kept.
use Rattle.std.proofs.Common.{ℕ, ◌≡◌, ◌%◌, ◌<◌, ◌≤◌, ◌==◌, refl, sym, ◌∙◌, ap, subst, arith, Bool, true, false, List, inl, inr, Option, Some, None, length}
use Rattle.std.proofs.lemmas.Bool.{cases_Bool, cases_eq}
use Rattle.std.specs.Int.{bit_at}
use Rattle.std.specs.Prelude.{Contains, if◌then◌else◌, ◌&&◌}
use Rattle.tide_words.specs.tide_layout.Region.{tag}
use Rattle.tide_words.specs.tide_layout.declared.region.Region.{Region}
use Rattle.tide_core.proofs.machine_laws.steps.ArraysKept.{arrays_kept}
use Rattle.tide_core.proofs.machine_laws.steps.Frames.{calls_view, stops_view, each_put}
use Rattle.tide_core.proofs.machine_laws.steps.GrowthsKept.{growth_kept}
use Rattle.tide_core.proofs.machine_laws.steps.ScansKept.{scan_kept}
use Rattle.tide_core.proofs.machine_laws.steps.Steps.{any_step}
use Rattle.tide_core.proofs.machine_laws.steps.SweepsKept.{swept_kept, sweeps_kept}
use Rattle.tide_core.proofs.machine_laws.steps.Waiting.{left_quiet}
use Rattle.tide_core.proofs.machine_laws.steps.Unsettled.{given_put, settled_region, unsettled_write, unsettles_put}
use Rattle.tide_core.specs.machine.Looked.{FreeIsShown}
use Rattle.tide_core.specs.machine.Duties.{GrowsAndOwes}
use Rattle.tide_core.specs.machine.Owed.{own_register, own_structure, own_array, own_pair, own_element, Owes, IsOwnWord, owed_word}
use Rattle.tide_core.specs.machine.RunningWave.{RunningWave}
use Rattle.tide_core.specs.machine.Scanning.{Place}
use Rattle.tide_core.specs.machine.World.{World, parties}
use Rattle.tide_core.specs.declared.machine.view.FullBlock.{FullBlock}
use Rattle.tide_core.specs.declared.machine.view.Scan.{Scan}
use Rattle.tide_core.specs.declared.machine.view.View.{View}
use Rattle.tide_core.specs.machine.points.Links.{Excuses, ScanExcuses}
use Rattle.tide_core.specs.machine.points.Scans.{held, scanned, buffered}
use Rattle.tide_core.specs.machine.points.SettledWords.{RunningWordsRead}
use Rattle.tide_model.proofs.Histories.{moment_after_last-le}
use Rattle.tide_model.proofs.ReferenceLaws.{put_at_elim}
use Rattle.tide_model.specs.History.{state_after, state_at, is_call_of, is_open}
use Rattle.tide_model.specs.Layout.{Layout, block_of_cell, block_of_array}
use Rattle.tide_model.specs.Numbers.{put_at}
use Rattle.tide_model.specs.Refused.{ShapeLists}
use Rattle.tide_model.specs.Room.{window_start}
use Rattle.tide_model.specs.State.{State, Status, is_free, free, live, dead, spent}
use Rattle.tide_model.specs.declared.entry.Event.{Event}
use Rattle.tide_words.proofs.heap_laws.CellReading.{CellReads-kept}
use Rattle.tide_words.proofs.heap_laws.Frames.{else-free}
use Rattle.tide_words.proofs.heap_laws.HeapLaws.{write-same, write-other_index}
use Rattle.tide_words.proofs.heap_laws.Parts.{RootsRead-same, SameRoots-write}
use Rattle.tide_words.specs.heap.Heap.{Heap, write}
use Rattle.tide_words.specs.heap.Reading.{IsNamedAmong, ReadsAs, status_by}
use Rattle.tide_words.specs.tide_layout.declared.region.Region.TheVariants as region

-- nothing is free whose bit is clear
not_free_by : (word dead_word k : ℕ) (otherwise : Status) → bit_at word k ≡ 0 → is_free otherwise ≡ false →
    is_free (status_by word dead_word k otherwise) ≡ false
not_free_by word dead_word k otherwise clear other =
    ap is_free (ap (λ (b : ℕ). if b == 1 then free else if bit_at dead_word k == 1 then dead else otherwise) clear)
    ∙ by_dead (bit_at dead_word k == 1)
  where
    by_dead : (b : Bool) → is_free (if b then dead else otherwise) ≡ false
    by_dead true = refl
    by_dead false = other

pub shown_block : (layout : Layout) (shapes : ShapeLists) (settled : Heap) (state : State) (block word : ℕ) →
    ReadsAs layout shapes settled state →
    settled region.Free block ≡ word → FreeIsShown layout state block word
shown_block layout shapes settled state block word reads same = record {
  cells = λ cell within in_block clear. ap is_free ((reads.parts.cells cell within).status)
      ∙ not_free_by (settled region.Free (block_of_cell cell)) (settled region.Dead (block_of_cell cell))
      (cell % 64) live (ap (λ (x : ℕ). bit_at x (cell % 64)) (ap (settled region.Free) in_block ∙ same) ∙ clear) refl;
  arrays = λ array within in_block clear. elim (cases_Bool (is_free (state.arrays array))) [
    | inl is ↦
        let bit : bit_at (settled region.Free (block_of_array layout array)) (array % 64) ≡ 0 =
        ap (λ (x : ℕ). bit_at x (array % 64)) (ap (settled region.Free) in_block ∙ same) ∙ clear in
        let unnamed : IsNamedAmong state.cells array → ⊥ = λ named.
        (let isnt = ap is_free (reads.parts.arrays.named array within named)
        ∙ not_free_by (settled region.Free (block_of_array layout array))
        (settled region.Dead (block_of_array layout array)) (array % 64) live bit refl in absurd (cc)) in
        let isnt = ap is_free (reads.parts.arrays.unnamed array within unnamed)
        ∙ not_free_by (settled region.Free (block_of_array layout array))
        (settled region.Dead (block_of_array layout array)) (array % 64) spent bit refl in
        absurd (cc)
    | inr isnt ↦ isnt
  ];
}

-- this moment lies in the window of each mutator
pub in_window : (p : ℕ) (log : List Event) → window_start p log ≤ length log
in_window p log =
    let mine = moment_after_last-le (λ event. is_call_of p event.entry) log in
    let opens = moment_after_last-le (λ event. is_open event.entry) log in
    omega (arith, mine, opens)

-- a word of free bits with the same 64 bits says the same
module _ (layout : Layout) (shapes : ShapeLists) (heap : Heap) (state : State) (block word : ℕ)
    (same : (k : ℕ) → k < 64 → bit_at word k ≡ bit_at (heap region.Free block) k)
    (reads : ReadsAs layout shapes heap state) where
  abbrev new : Heap
  new = write heap region.Free block word

  bit_same : (b k : ℕ) → k < 64 → bit_at (new region.Free b) k ≡ bit_at (heap region.Free b) k
  bit_same b k few = elim (cases_eq b block) [
    | inl is ↦ ap (λ (x : ℕ). bit_at (new region.Free x) k) is ∙
        ap (λ (x : ℕ). bit_at x k) (write-same heap region.Free block word)
        ∙ same k few ∙ ap (λ (x : ℕ). bit_at (heap region.Free x) k) (sym is)
    | inr apart ↦ ap (λ (x : ℕ). bit_at x k) (write-other_index heap region.Free block b word apart)
  ]

  status_same : (b k : ℕ) (otherwise : Status) → k < 64 →
      status_by (new region.Free b) (heap region.Dead b) k otherwise ≡ status_by (heap region.Free b)
      (heap region.Dead b) k otherwise
  status_same b k otherwise few =
      ap (λ (bit : ℕ). if bit == 1 then free else if bit_at (heap region.Dead b) k == 1 then dead else otherwise)
      (bit_same b k few)

  pub ReadsAs-bits : ReadsAs layout shapes new state
  ReadsAs-bits = record {
    roots = RootsRead-same layout heap new state (SameRoots-write layout heap region.Free block word refl) reads.roots;
    parts = record {
      cells = λ cell within. CellReads-kept layout shapes heap new cell (state.cells cell) within
          (else-free layout heap cell word (state.cells cell) block
          (status_same (block_of_cell cell) (cell % 64) live (omega arith))) (reads.parts.cells cell within);
      arrays = record {
        named = λ array within is. reads.parts.arrays.named array within is ∙
            sym (status_same (block_of_array layout array) (array % 64) live (omega arith));
        unnamed = λ array within isnt. reads.parts.arrays.unnamed array within isnt ∙
            sym (status_same (block_of_array layout array) (array % 64) spent (omega arith));
      };
      claims = record { named = reads.parts.claims.named; unnamed = reads.parts.claims.unnamed };
      apart = λ b bit within few is_free. reads.parts.apart b bit within few (sym (bit_same b bit few) ∙ is_free);
      past_cells = reads.parts.past_cells;
      past_arrays = reads.parts.past_arrays;
      past_claims = reads.parts.past_claims;
      claimed = reads.parts.claimed;
    };
  }

-- a mutator looks at a block's word, or stores it with the same bits; what it found is right
module _ (layout : Layout) (shapes : ShapeLists) (w : World) (me : ℕ) (inside : me < parties)
    (wave : RunningWave layout shapes w) (runs : (w.part me).runs ≡ true)
    (block word : ℕ) (same : (k : ℕ) → k < 64 → bit_at word k ≡ bit_at (wave.words.settled region.Free block) k)
    (full : List FullBlock)
    (finds : (b moment shown : ℕ) → Contains full (record { block = b; moment = moment; word = shown }) →
    (window_start me w.log ≤ moment) × (moment ≤ length w.log)
    × FreeIsShown layout (state_at layout w.log moment) b shown)
  where
    abbrev state : State
    state = state_after layout w.log

    abbrev after : Heap
    after = write w.heap region.Free block word

    abbrev later : View
    later = record (w.part me) { full = full }

    not_free : (heap : Heap) (p : ℕ) (at : Region) (index : ℕ) → IsOwnWord layout state p at index →
        write heap region.Free block word at index ≡ heap at index
    not_free heap p _ _ (own_register r a b) = refl
    not_free heap p _ _ (own_structure c at) = refl
    not_free heap p _ _ (own_array c at) = refl
    not_free heap p _ _ (own_pair t k at one has) = refl
    not_free heap p _ _ (own_element c a k at is has) = refl

    words_after : RunningWordsRead layout shapes after (put_at w.part me later) state
    words_after = record {
      settled = write wave.words.settled region.Free block word;
      reads = ReadsAs-bits layout shapes wave.words.settled state block word same wave.words.reads;
      same = λ at index read free swept. ap (λ (z : ℕ). if (tag at == tag region.Free) && (index == block) then word else z)
          (wave.words.same at index read (λ p x owes. free p x (back p at index x owes))
          (unsettles_put w.part me later refl at index swept));
      given = given_put (write wave.words.settled region.Free block word) w.part me later refl wave.words.given;
      owed = each_put (λ p u. (at : Region) (index x : ℕ) → Owes u at index x →
          write wave.words.settled region.Free block word at index ≡ x) w.part me later
          (λ at index x owes. not_free wave.words.settled me at index (wave.words.owns me at index x owes) ∙
          wave.words.owed me at index x owes)
          (λ p at index x owes. not_free wave.words.settled p at index (wave.words.owns p at index x owes) ∙
          wave.words.owed p at index x owes);
      known = each_put (λ p u. (at : Region) (index x : ℕ) → Contains u.known (owed_word at index x) →
          write wave.words.settled region.Free block word at index ≡ x) w.part me later
          (λ at index x is. not_free wave.words.settled me at index (wave.kept.owns me at index x is) ∙
          wave.words.known me at index x is)
          (λ p at index x is. not_free wave.words.settled p at index (wave.kept.owns p at index x is) ∙
          wave.words.known p at index x is);
      owns = each_put (λ p u. (at : Region) (index x : ℕ) → Owes u at index x → IsOwnWord layout state p at index)
          w.part
          me later (wave.words.owns me) wave.words.owns;
    }
      where
        back : (p : ℕ) (at : Region) (index x : ℕ) → Owes (w.part p) at index x →
            Owes (put_at w.part me later p) at index x
        back = put_at_elim (λ p u. (at : Region) (index x : ℕ) → Owes (w.part p) at index x →
            Owes u at index x) w.part me later (λ at index x o. o) (λ p apart at index x o. o)

    excuse_same : (source : ℕ) (place : Place) (cell : ℕ) → Excuses w.heap source place cell (w.part me) →
        Excuses after source place cell later
    excuse_same source place cell (inl owes) = inl owes
    excuse_same source place cell (inr scans) = inr (by (w.part me).scan scans)
      where
        by : (scan : Option Scan) → ScanExcuses w.heap source place cell scan → ScanExcuses after source place cell scan
        by None e = e
        by (Some scan) e = e

    pub looks : RunningWave layout shapes (record { heap = after; part = put_at w.part me later; log = w.log })
    looks = any_step layout shapes w.heap w.part w.log me wave after later record {
      inside = inside;
      phase = refl;
      base = refl;
      period = refl;
      words = words_after;
      who = refl;
      seen = inl refl;
      mine = refl;
      finds = finds;
      told = λ _. wave.numbers.told me runs;
      begins = wave.numbers.begun me;
      left = refl;
      waits = left_quiet layout w.heap after w.part me later refl refl (λ _ c in_c is. is) (λ c is. is) refl refl refl
          refl wave.waits;
      stands = arrays_kept layout w.heap after state state (λ c. refl) (λ c. refl) (λ i. refl) (λ array. refl)
          (λ c array alive is. (alive, refl, refl, refl)) (λ c alive none. inl alive) wave.arrays;
      swept = swept_kept layout w.heap after refl (λ b within. refl) wave.swept;
      sweeps = sweeps_kept layout w.heap after w.part me later w.log refl (λ b. refl) (λ b. refl)
          (unsettled_write w.heap w.part region.Free block word (λ p x un. settled_region layout shapes w.heap w.part state
          wave.words wave.sweeps.named region.Free refl (λ t. omega (arith, t)) block p x un)) refl refl refl refl wave.sweeps;
      calls = calls_view layout w.heap after w.part me later refl (λ p. refl) wave.calls;
      stops = stops_view layout w.heap after w.part me later refl (λ p. refl) wave.stops;
      empties = λ is. absurd (cc);
      growth = growth_kept w.heap after state state me (w.part me) later (λ c mine. refl) (λ c mine. refl) (λ c at. at)
          (λ c a mine is. is) (λ c x o. o) (λ c x o. o) (λ i x o. o) (w.part me).growth (wave.growths.knows me);
      growths = λ p apart. growth_kept w.heap after state state p (w.part p) (w.part p) (λ c mine. refl) (λ c mine.
          refl) (λ c at. at)
          (λ c a mine is. is) (λ c x o. o) (λ c x o. o) (λ i x o. o) (w.part p).growth (wave.growths.knows p);
      knows = λ at index x is. (
        wave.kept.reads me at index x is,
        wave.kept.owns me at index x is,
        not_free w.heap me at index (wave.kept.owns me at index x is) ∙ wave.kept.known me at index x is,
      );
      knows_still = λ p at index x apart is. not_free w.heap p at index (wave.kept.owns p at index x is) ∙
          wave.kept.known p at index x is;
      colours = wave.colours;
      balance = λ c in_c few. refl;
      rests = λ idle. (wave.rests.held idle me, wave.rests.scans idle me);
      at_hand = λ c at. wave.hands.cells me c (elim at [
        | held is ↦ held is
        | scanned scan is e ↦
            scanned scan is e
        | buffered scan is e ↦ buffered scan is e
      ]);
      arrays = λ a scan is. wave.hands.arrays me a scan is;
      scanned = λ scan is. (
        wave.retained.scanned me scan is,
        scan_kept layout w.heap after state state (λ c. refl) (λ c. refl) (λ i. refl) (λ c is_live. is_live) scan
            (wave.scans.knows me scan is),
        λ c at holds. wave.retained.buffered me c scan is at holds,
      );
      scans = λ p scan apart is. scan_kept layout w.heap after state state (λ c. refl) (λ c. refl) (λ i. refl)
          (λ c is_live. is_live) scan
          (wave.scans.knows p scan is);
      truer = λ p scan apart is holds. holds;
      black = λ source place target link black white.
          inr (refl, white, λ e. inl (excuse_same source place target e));
      stays = λ c is. is;
      recoloured = λ _ c. inl refl;
      aims = λ scan target is. wave.targets.right me scan target is;
      marked = λ c in_c is. inl is;
      born = λ _ c owes. inl owes;
      owes = λ c owes. (owes, wave.born.white me c owes);
      counted = λ _. omega arith;
      beyond = λ marks source n target link past.
          let (p, g) = wave.grows.beyond marks source n target link past in
          elim (cases_eq p me) [
            | inl is ↦ (let mine = subst (λ (q : ℕ). GrowsAndOwes (w.part q) source) is g in
                inl (record { grows = mine.grows; owes = mine.owes }))
            | inr apart ↦ inr (p, apart, g)
          ];
    }
