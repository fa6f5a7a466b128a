-- The stores of an element that make no call keep the wave: of one that a growth owes, and of one past the cell's keys.
use Rattle.std.proofs.Common.{ℕ, ◌≡◌, ◌≢◌, ◌+◌, ◌*◌, ◌<◌, ◌≤◌, ◌⊎◌, ◌==◌, refl, sym, ◌∙◌, ap, subst, arith, Bool, true, false, List, [], ◌∷◌, inl, inr, length, Option, Some, None}
use Rattle.std.proofs.lemmas.Bool.{cases_Bool, cases_eq, eqb-true, and_parts}
use Rattle.std.proofs.lemmas.List.Elements.{Contains-append_cases}
use Rattle.std.specs.Prelude.{Contains, if◌then◌else◌, ◌&&◌, not}
use Rattle.tide_words.proofs.tide_layout.SlotPlaces.{index_of_element-alone}
use Rattle.tide_words.specs.tide_layout.Region.{tag}
use Rattle.tide_words.specs.tide_layout.Slots.{HasElement, index_of_element}
use Rattle.tide_words.specs.tide_layout.declared.region.Region.{Region}
use Rattle.tide_core.proofs.machine_laws.steps.Frames.{calls_view, stops_view}
use Rattle.tide_core.proofs.machine_laws.steps.GrowthsKept.{growth_kept}
use Rattle.tide_core.proofs.machine_laws.steps.Lists.{nothing_in, in_one}
use Rattle.tide_core.proofs.machine_laws.steps.Owning.{own_alone}
use Rattle.tide_core.proofs.machine_laws.steps.Paying.{words_paid, in_filter, filter_was}
use Rattle.tide_core.proofs.machine_laws.steps.Steps.{any_step}
use Rattle.tide_core.proofs.machine_laws.steps.SweepsKept.{swept_kept, sweeps_kept}
use Rattle.tide_core.proofs.machine_laws.steps.Waiting.{left_quiet}
use Rattle.tide_core.proofs.machine_laws.steps.Unsettled.{given_put, own_settled, unsettled_write, unsettles_put}
use Rattle.tide_core.specs.machine.Duties.{GrowsAndOwes, StillOwes}
use Rattle.tide_core.specs.machine.Kind.{StoreElement}
use Rattle.tide_core.specs.machine.Machine.{stepped}
use Rattle.tide_core.specs.machine.Owed.{Owes, owed_word, is_at, without_word, IsOwnWord, own_element}
use Rattle.tide_core.specs.machine.RunningWave.{RunningWave}
use Rattle.tide_core.specs.machine.Scanning.{Place}
use Rattle.tide_core.specs.machine.World.{World, parties}
use Rattle.tide_core.specs.declared.machine.view.Owed.{Owed}
use Rattle.tide_core.specs.declared.machine.view.Scan.{Scan}
use Rattle.tide_core.specs.declared.machine.view.View.{View}
use Rattle.tide_core.specs.machine.kinds.StorePrivateElement.{MayStoreElement}
use Rattle.tide_core.specs.machine.points.Arrays.{ArrayStands}
use Rattle.tide_core.specs.machine.points.Links.{Excuses, ScanExcuses}
use Rattle.tide_core.specs.machine.points.Scans.{held, scanned, buffered, ScanKnows}
use Rattle.tide_core.specs.machine.points.SettledWords.{RunningWordsRead}
use Rattle.tide_model.proofs.ClaimLaws.{ClaimsAreOwn-lawful}
use Rattle.tide_model.proofs.ReferenceLaws.{put_at_elim}
use Rattle.tide_model.specs.History.{state_after}
use Rattle.tide_model.specs.Layout.{Layout, cell_count}
use Rattle.tide_model.specs.Numbers.{put_at}
use Rattle.tide_model.specs.References.{IsLive}
use Rattle.tide_model.specs.Refused.{ShapeLists}
use Rattle.tide_model.specs.State.{State, live, spent}
use Rattle.tide_model.specs.declared.val.Val.TheVariants.{Cell}
use Rattle.tide_words.proofs.form_laws.FormLaws.{same_from_val_word}
use Rattle.tide_words.proofs.heap_laws.CellReading.{SameCellWords, CellReads-kept}
use Rattle.tide_words.proofs.heap_laws.Frames.{is_read}
use Rattle.tide_words.proofs.heap_laws.HeapLaws.{write-same, write-other_index}
use Rattle.tide_words.proofs.heap_laws.Parts.{RootsRead-same, SameRoots-write}
use Rattle.tide_words.proofs.heap_laws.ReadingLaws.{live_within}
use Rattle.tide_words.specs.forms.ValueWord.{val_word}
use Rattle.tide_words.specs.heap.Heap.{Heap, write}
use Rattle.tide_words.specs.heap.Reading.{ReadsAs}
use Rattle.tide_words.specs.tide_layout.declared.region.Region.TheVariants as region

module _ (layout : Layout) (shapes : ShapeLists) (w : World) (me : ℕ) (inside : me < parties)
    (wave : RunningWave layout shapes w) (runs : (w.part me).runs ≡ true) (cell array place word : ℕ)
    (claimed : Contains ((state_after layout w.log).claims me) cell)
    (its_array : ((state_after layout w.log).cells cell).array ≡ Some array) (has : HasElement layout array place) where
  abbrev state : State
  state = state_after layout w.log

  abbrev idx : ℕ
  idx = index_of_element layout array place

  abbrev new : Heap
  new = write w.heap region.Elements idx word

  abbrev later : View
  later = record (w.part me) {
    owed = without_word region.Elements idx (w.part me).owed;
    known = owed_word region.Elements idx word ∷ without_word region.Elements idx (w.part me).known;
  }

  own_it : IsOwnWord layout state me region.Elements idx
  own_it = own_element cell array place claimed its_array has

  array_is_live : state.arrays array ≡ live
  array_is_live = wave.refs.arrays_are_live cell array (wave.refs.claimed me cell claimed) its_array

  alone : (p : ℕ) (at : Region) (index : ℕ) → p ≢ me → IsOwnWord layout state p at index →
      ((tag at == tag region.Elements) && (index == idx)) ≡ false
  alone p at index apart own = elim (cases_Bool ((tag at == tag region.Elements) && (index == idx))) [
    | inl both ↦
        let parts = and_parts (tag at == tag region.Elements) (index == idx) both in
        absurd (apart (own_alone layout state (ClaimsAreOwn-lawful layout shapes w.log wave.lawful) wave.refs p me at
        region.Elements index idx own own_it (eqb-true (tag at) (tag region.Elements) parts.0)
        (eqb-true index idx parts.1)))
    | inr isnt ↦ isnt
  ]

  -- a word that is known after it is this one, or was known and is another
  known_cases : (at : Region) (index x : ℕ) → Contains later.known (owed_word at index x) →
      (owed_word region.Elements idx word ≡ owed_word at index x)
      ⊎ (Contains (w.part me).known (owed_word at index x) ×
      (is_at region.Elements idx (owed_word at index x) ≡ false))
  known_cases at index x is =
      elim (Contains-append_cases (owed_word region.Elements idx word ∷ [])
      (without_word region.Elements idx (w.part me).known) (owed_word at index x) is) [
        | inl here ↦ inl (in_one (owed_word region.Elements idx word) (owed_word at index x) here)
        | inr before ↦ (let was = filter_was (λ (o : Owed). not (is_at region.Elements idx o)) (w.part me).known
            (owed_word at index x) before in
            inr (was.0, not_true (is_at region.Elements idx (owed_word at index x)) was.1))
      ]
    where
      not_true : (b : Bool) → not b ≡ true → b ≡ false
      not_true true e = absurd (cc)
      not_true false e = refl

  written : (h : Heap) (at : Region) (index x : ℕ) → owed_word region.Elements idx word ≡ owed_word at index x →
      write h region.Elements idx word at index ≡ x
  written h at index x same = subst (λ (o : Owed). write h region.Elements idx word o.region o.index ≡ o.word) same
      (write-same h region.Elements idx word)

  -- what has to be known of the word: it is a reference to a live cell, if it is one, and no array that a cell's word
  -- names says another
  module _ (live_word : (c : ℕ) → word ≡ 4 * c + 2 → IsLive state c)
      (stood : (x n : ℕ) → IsLive state x → (state.cells x).array ≡ Some array → n < length (state.cells x).keys →
      n ≡ place → val_word ((state.cells x).properties n) ≡ word)
      (words : RunningWordsRead layout shapes new (put_at w.part me later) state) where
    knows_after : (scan : Scan) → ScanKnows layout w.heap state scan → ScanKnows layout new state scan
    knows_after scan s = record {
      unread = s.unread;
      array_after = s.array_after;
      grows = s.grows;
      nuked = s.nuked;
      room = s.room;
      agreed = s.agreed;
      array = s.array;
      names_live = λ first a at c is has below names. elim (cases_eq (index_of_element layout a at) idx) [
        | inl same ↦ live_word c (sym (write-same w.heap region.Elements idx word) ∙ ap (new region.Elements) (sym same)
            ∙ names)
        | inr apart ↦ s.names_live first a at c is has below
            (sym (write-other_index w.heap region.Elements idx (index_of_element layout a at) word apart) ∙ names)
      ];
    }

    stands : (x a : ℕ) → IsLive state x → w.heap region.Array x ≡ a + 1 → ArrayStands layout new state x a
    stands x a alive is = let s = wave.arrays.stand x a alive is in record {
      own = s.own;
      few = s.few;
      room = s.room;
      named = λ n below. elim (cases_eq (index_of_element layout a n) idx) [
        | inl same ↦
            let both = index_of_element-alone layout array a place n has.element_within (s.room n below).element_within
            same in
            let few = s.few in
            let told : n < length (state.cells x).keys = omega (arith, below, few) in
            stood x n alive (of_array s both.0) told both.1 ∙ sym (write-same w.heap region.Elements idx word)
            ∙ ap (new region.Elements) (sym same)
        | inr apart ↦ s.named n below
            ∙ sym (write-other_index w.heap region.Elements idx (index_of_element layout a n) word apart)
      ];
    }
      where
        of_array : ArrayStands layout w.heap state x a → a ≡ array → (state.cells x).array ≡ Some array
        of_array s same = elim s.own [
          | inl mine ↦ mine.1 ∙ ap Some same
          | inr replaced ↦
              let clash : live ≡ spent = sym array_is_live ∙ ap state.arrays (sym same) ∙ replaced in
              absurd (cc)
        ]

    pub store_element : RunningWave layout shapes (record { heap = new; part = put_at w.part me later; log = w.log })
    store_element = any_step layout shapes w.heap w.part w.log me wave new later record {
      inside = inside;
      phase = refl;
      base = refl;
      period = refl;
      words = words;
      who = refl;
      seen = inl refl;
      mine = refl;
      finds = wave.kept.full me;
      told = λ _. wave.numbers.told me runs;
      begins = wave.numbers.begun me;
      left = refl;
      calls = calls_view layout w.heap new w.part me later refl (λ p. refl) wave.calls;
      stops = stops_view layout w.heap new w.part me later refl (λ p. refl) wave.stops;
      empties = λ is. absurd (cc);
      waits = left_quiet layout w.heap new w.part me later refl refl (λ _ c in_c is. is) (λ c is. is) refl refl refl
          refl
          wave.waits;
      stands = record { stand = stands; bare = wave.arrays.bare };
      swept = swept_kept layout w.heap new refl (λ block within. refl) wave.swept;
      sweeps = sweeps_kept layout w.heap new w.part me later w.log refl (λ block. refl) (λ block. refl)
          (unsettled_write w.heap w.part region.Elements idx word
          (own_settled layout shapes w.heap w.part state wave.words wave.sweeps.named wave.refs me region.Elements idx own_it)) refl refl refl refl wave.sweeps;
      growth = growth_kept w.heap new state state me (w.part me) later (λ c mine. refl) (λ c mine. refl) (λ c at. at)
          (λ c a mine is. is) (λ c x. stays_owed region.Structure c x refl) (λ c x. stays_owed region.Array c x refl)
          (λ i x o. was_owed region.Elements i x o) (w.part me).growth
          (wave.growths.knows me);
      growths = λ p apart. growth_kept w.heap new state state p (w.part p) (w.part p) (λ c mine. refl) (λ c mine. refl)
          (λ c at. at)
          (λ c a mine is. is) (λ c x o. o) (λ c x o. o) (λ i x o. o) (w.part p).growth (wave.growths.knows p);
      knows = λ at index x is. elim (known_cases at index x is) [
        | inl this ↦ (
          subst (λ (o : Owed). is_read o.region ≡ true) this refl,
          subst (λ (o : Owed). IsOwnWord layout state me o.region o.index) this own_it,
          written w.heap at index x this,
        )
        | inr was ↦ (
          wave.kept.reads me at index x was.0,
          wave.kept.owns me at index x was.0,
          ap (λ (b : Bool). if b then word else w.heap at index) was.1 ∙ wave.kept.known me at index x was.0,
        )
      ];
      knows_still = λ p at index x apart is. ap (λ (b : Bool). if b then word else w.heap at index)
          (alone p at index apart (wave.kept.owns p at index x is)) ∙ wave.kept.known p at index x is;
      colours = wave.colours;
      balance = λ c in_c few. refl;
      rests = λ idle. (wave.rests.held idle me, wave.rests.scans idle me);
      at_hand = λ c at. wave.hands.cells me c (elim at [
        | held is ↦ held is
        | scanned scan is e ↦ scanned scan is e
        | buffered scan is e ↦ buffered scan is e
      ]);
      arrays = λ a scan is. wave.hands.arrays me a scan is;
      scanned = λ scan is. (
        wave.retained.scanned me scan is,
        knows_after scan (wave.scans.knows me scan is),
        λ c at holds. wave.retained.buffered me c scan is at holds,
      );
      scans = λ p scan apart is. knows_after scan (wave.scans.knows p scan is);
      truer = λ p scan apart is holds. holds;
      black = λ source at target link black white. inr (refl, white, λ e. inl (same_excuse source at target e));
      stays = λ c is. is;
      recoloured = λ _ c. inl refl;
      aims = λ scan target is. wave.targets.right me scan target is;
      marked = λ c in_c is. inl is;
      born = λ _ c owes. inl owes;
      owes = λ c owes. (owes, wave.born.white me c owes);
      counted = λ _. omega arith;
      beyond = λ marks source n target link past.
          let (p, g) = wave.grows.beyond marks source n target link past in
          elim (cases_eq p me) [
            | inl same ↦ (let mine = subst (λ (q : ℕ). GrowsAndOwes (w.part q) source) same g in
                inl (record { grows = mine.grows; owes = mine.owes }))
            | inr apart ↦ inr (p, apart, g)
          ];
    }
      where
        stays_owed : (at : Region) (index x : ℕ) → is_at region.Elements idx (owed_word at index x) ≡ false →
            Owes (w.part me) at index x → Owes later at index x
        stays_owed at index x other = in_filter (λ (o : Owed). not (is_at region.Elements idx o)) (w.part me).owed
            (owed_word at index x) (ap not other)

        was_owed : (at : Region) (index x : ℕ) → Owes later at index x → Owes (w.part me) at index x
        was_owed at index x owes = (filter_was (λ (o : Owed). not (is_at region.Elements idx o)) (w.part me).owed
            (owed_word at index x) owes).0

        same_excuse : (source : ℕ) (at : Place) (target : ℕ) → Excuses w.heap source at target (w.part me) →
            Excuses new source at target later
        same_excuse source at target e = of_scan (w.part me).scan e
          where
            of_scan : (scan : Option Scan) → StillOwes w.heap (w.part me).duty source ⊎
                ScanExcuses w.heap source at target scan → StillOwes w.heap (w.part me).duty source ⊎
                ScanExcuses new source at target scan
            of_scan scan (inl b) = inl b
            of_scan None (inr x) = inr x
            of_scan (Some scan) (inr x) = inr x

  within : (x : ℕ) → IsLive state x → x < cell_count layout
  within x = live_within layout shapes wave.words.settled state x wave.words.reads

  -- a property of a live cell stands in the settled words
  says : (x n : ℕ) → IsLive state x → (state.cells x).array ≡ Some array → n < length (state.cells x).keys → n ≡ place →
      val_word ((state.cells x).properties n) ≡ wave.words.settled region.Elements idx
  says x n alive its below same =
      let (a, named, its_element, value) = (wave.words.reads.parts.cells x (within x alive)).properties alive n below in
      let both = sym named ∙ its in
      let of_array : a ≡ array = cc in
      value.is_word ∙ ap (λ (b : ℕ). wave.words.settled region.Elements (index_of_element layout b n)) of_array
      ∙ ap (λ (k : ℕ). wave.words.settled region.Elements (index_of_element layout array k)) same

  -- a growth owes the word
  pub pay_element : Owes (w.part me) region.Elements idx word → place < length (state.cells cell).keys →
      RunningWave layout shapes (record { heap = new; part = put_at w.part me later; log = w.log })
  pay_element owes below = store_element
      (λ c is. wave.refs.in_properties cell place c (wave.refs.claimed me cell claimed) below
      (same_from_val_word ((state.cells cell).properties place) (Cell c)
      (says cell place (wave.refs.claimed me cell claimed) its_array below refl ∙ settled_is ∙ is)))
      (λ x n alive its told same. says x n alive its told same ∙ settled_is)
      (words_paid layout shapes w.heap w.part me state wave.words region.Elements idx later
      (λ r i x is. elim (known_cases r i x is) [
        | inl this ↦ subst (λ (o : Owed). wave.words.settled o.region o.index ≡ o.word) this settled_is
        | inr was ↦ wave.words.known me r i x was.0
      ]) refl word owes refl)
    where
      settled_is : wave.words.settled region.Elements idx ≡ word
      settled_is = wave.words.owed me region.Elements idx word owes

  -- the word is of a register, and says nothing yet
  module _ (owes_nothing : (w.part me).owed ≡ []) (live_word : (c : ℕ) → word ≡ 4 * c + 2 → IsLive state c)
      (past : length (state.cells cell).keys ≤ place) where
    -- no live cell has a property there
    unsaid : (x n : ℕ) → IsLive state x → (state.cells x).array ≡ Some array → n < length (state.cells x).keys →
        n ≡ place → ⊥
    unsaid x n alive its below same =
        let one = wave.refs.arrays_are_own x cell array alive (wave.refs.claimed me cell claimed) its its_array in
        let few = ap (λ (c : ℕ). length (state.cells c).keys) one in
        omega (arith, below, same, few, past)

    reads : ReadsAs layout shapes (write wave.words.settled region.Elements idx word) state
    reads = record {
      roots = RootsRead-same layout wave.words.settled (write wave.words.settled region.Elements idx word) state
          (SameRoots-write layout wave.words.settled region.Elements idx word refl) wave.words.reads.roots;
      parts = record {
        cells = λ x in_cells. CellReads-kept layout shapes wave.words.settled
            (write wave.words.settled region.Elements idx word) x (state.cells x) in_cells (same_words x)
            (wave.words.reads.parts.cells x in_cells);
        arrays = record {
          named = wave.words.reads.parts.arrays.named;
          unnamed = wave.words.reads.parts.arrays.unnamed;
        };
        claims = record {
          named = wave.words.reads.parts.claims.named;
          unnamed = wave.words.reads.parts.claims.unnamed;
        };
        apart = wave.words.reads.parts.apart;
        past_cells = wave.words.reads.parts.past_cells;
        past_arrays = wave.words.reads.parts.past_arrays;
        past_claims = wave.words.reads.parts.past_claims;
        claimed = wave.words.reads.parts.claimed;
      };
    }
      where
        same_words : (x : ℕ) → SameCellWords layout wave.words.settled
            (write wave.words.settled region.Elements idx word) x (state.cells x)
        same_words x = record {
          status = refl;
          structure = refl;
          array = refl;
          claim = refl;
          group = refl;
          slots = λ n has. refl;
          elements = λ alive a n its below has_it. write-other_index wave.words.settled region.Elements idx
              (index_of_element layout a n) word (λ same.
              let both = index_of_element-alone layout array a place n has.element_within has_it.element_within same in
              unsaid x n alive (its ∙ ap Some both.0) below both.1);
        }

    words_next : RunningWordsRead layout shapes new (put_at w.part me later) state
    words_next = record {
      settled = write wave.words.settled region.Elements idx word;
      reads = reads;
      same = λ at index is_one free swept. ap (λ (z : ℕ). if (tag at == tag region.Elements) && (index == idx) then word else
          z)
          (wave.words.same at index is_one (λ p x is. free p x (back p at index x is))
          (unsettles_put w.part me later refl at index swept));
      given = given_put (write wave.words.settled region.Elements idx word) w.part me later refl wave.words.given;
      owed = put_at_elim (λ p u. (at : Region) (index x : ℕ) → Owes u at index x →
          write wave.words.settled region.Elements idx word at index ≡ x) w.part me later
          (λ at index x is. absurd (not_owed_later at index x is)) (λ p apart at index x is.
          ap (λ (b : Bool). if b then word else wave.words.settled at index)
          (alone p at index apart (wave.words.owns p at index x is)) ∙ wave.words.owed p at index x is);
      known = put_at_elim (λ p u. (at : Region) (index x : ℕ) → Contains u.known (owed_word at index x) →
          write wave.words.settled region.Elements idx word at index ≡ x) w.part me later
          (λ at index x is. elim (known_cases at index x is) [
            | inl this ↦ written wave.words.settled at index x this
            | inr was ↦ ap (λ (b : Bool). if b then word else wave.words.settled at index) was.1 ∙
                wave.words.known me at index x was.0
          ])
          (λ p apart at index x is. ap (λ (b : Bool). if b then word else wave.words.settled at index)
          (alone p at index apart (wave.kept.owns p at index x is)) ∙ wave.words.known p at index x is);
      owns = put_at_elim (λ p u. (at : Region) (index x : ℕ) → Owes u at index x → IsOwnWord layout state p at index)
          w.part me later (λ at index x is. absurd (not_owed_later at index x is))
          (λ p apart at index x is. wave.words.owns p at index x is);
    }
      where
        not_owed : (at : Region) (index x : ℕ) → Owes (w.part me) at index x → ⊥
        not_owed at index x is = nothing_in (owed_word at index x)
            (subst (λ (l : List Owed). Contains l (owed_word at index x)) owes_nothing is)

        not_owed_later : (at : Region) (index x : ℕ) → Owes later at index x → ⊥
        not_owed_later at index x is = not_owed at index x (filter_was (λ (o : Owed). not (is_at region.Elements idx o))
            (w.part me).owed (owed_word at index x) is).0

        back : (p : ℕ) (at : Region) (index x : ℕ) → Owes (w.part p) at index x →
            Owes (put_at w.part me later p) at index x
        back = put_at_elim (λ p u. (at : Region) (index x : ℕ) → Owes (w.part p) at index x → Owes u at index x) w.part
            me
            later (λ at index x is. absurd (not_owed at index x is)) (λ p apart at index x is. is)

    pub store_past_keys : RunningWave layout shapes (record {
      heap = new;
      part = put_at w.part me later;
      log = w.log;
    })
    store_past_keys = store_element live_word (λ x n alive its below same. absurd (unsaid x n alive its below same))
        words_next

pub store_own_element : (layout : Layout) (shapes : ShapeLists) (w : World) (me : ℕ) → me < parties →
    RunningWave layout shapes w → (array place word : ℕ) → MayStoreElement layout shapes w me array place word None →
    RunningWave layout shapes (stepped layout shapes w me (StoreElement array place word None))
store_own_element layout shapes w me inside wave array place word (inl pays) =
    pay_element layout shapes w me inside wave pays.runner.runs pays.own.cell array place word pays.own.claimed
    pays.own.is_array pays.own.has pays.owed pays.within
store_own_element layout shapes w me inside wave array place word (inr past) =
    store_past_keys layout shapes w me inside wave past.runner.runs past.own.cell array place word past.own.claimed
    past.own.is_array past.own.has past.owes_not
    (λ c is. wave.refs.in_registers me past.value.register c past.value.active
    (same_from_val_word ((state_after layout w.log).registers me past.value.register) (Cell c)
    (sym past.value.is_word ∙ is))) past.past
