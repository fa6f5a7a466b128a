-- The loads of a scan keep the wave: of the structure, a slot and a target's colour.
use Rattle.std.proofs.Common.{ℕ, ◌≡◌, ◌≢◌, ◌+◌, ◌*◌, ◌%◌, ◌<◌, ◌⊎◌, ◌||◌, refl, sym, ◌∙◌, ap, subst, arith, Bool, true, false, List, [], ◌∷◌, inl, inr, Option, Some, None}
use Rattle.std.proofs.lemmas.Bool.{cases_eq, eq-eqb, ne_eqb, eqb-true}
use Rattle.std.proofs.lemmas.List.Elements.{Contains-append_cases, Contains-append_right}
use Rattle.std.specs.Prelude.{Contains, if◌then◌else◌, ◌/◌}
use Rattle.tide_words.proofs.tide_layout.SlotPlaces.{index_of_slot-alone}
use Rattle.tide_words.specs.tide_layout.Region.{tag}
use Rattle.tide_words.specs.tide_layout.Slots.{index_of_slot}
use Rattle.tide_words.specs.tide_layout.declared.region.Region.{Region}
use Rattle.tide_core.proofs.machine_laws.steps.Lists.{in_one}
use Rattle.tide_core.proofs.machine_laws.steps.Rereading.{scan_step, with_scan}
use Rattle.tide_core.proofs.machine_laws.steps.SettledNow.{slot_now}
use Rattle.tide_core.specs.machine.Owed.{IsOwnWord, own_register, own_structure, own_array, own_pair, own_element}
use Rattle.tide_core.specs.machine.RunningWave.{RunningWave}
use Rattle.tide_core.specs.machine.Scanning.{IsTrue, IsStill, IsUnread, Place, slot, property, and_cell_of}
use Rattle.tide_core.specs.machine.Words.{is_cell_word, count_of, is_nuked}
use Rattle.tide_core.specs.machine.World.{World, parties}
use Rattle.tide_core.specs.declared.machine.view.Scan.{Scan}
use Rattle.tide_core.specs.declared.machine.view.Target.{Target}
use Rattle.tide_core.specs.machine.points.Links.{ScanExcuses, LinkAt}
use Rattle.tide_core.specs.machine.points.Scans.{scanned, buffered, ScanKnows}
use Rattle.tide_model.proofs.Cycles.{graph_in_span}
use Rattle.tide_model.proofs.Histories.{moment_after_last-le}
use Rattle.tide_model.specs.Cycle.{cycle_span}
use Rattle.tide_model.specs.Graph.{IsLink, in_slot}
use Rattle.tide_model.specs.History.{state_after, is_begin, moment_after_last}
use Rattle.tide_model.specs.Layout.{Layout, cell_count, class_of, slots_of}
use Rattle.tide_model.specs.Numbers.{put_at, is_among}
use Rattle.tide_model.specs.References.{IsLive}
use Rattle.tide_model.specs.Refused.{ShapeLists}
use Rattle.tide_model.specs.State.{State, is_free}
use Rattle.tide_model.specs.declared.entry.Event.{Event}
use Rattle.tide_model.specs.declared.val.Val.TheVariants.{Cell}
use Rattle.tide_words.proofs.form_laws.FormLaws.{same_from_val_word}
use Rattle.tide_words.proofs.heap_laws.ReadingLaws.{live_within, HasSlot-class}
use Rattle.tide_words.specs.forms.ValueWord.{val_word}
use Rattle.tide_words.specs.marking.Colours.{is_marking, IsMarked, IsStamped}
use Rattle.tide_core.specs.machine.Duties.{StillOwes}
use Rattle.tide_words.specs.tide_layout.declared.region.Region.TheVariants as region

-- the cell of a word that was read, and those from before
pub and_cell_before : (word : ℕ) (cells : List ℕ) (c : ℕ) → Contains cells c → Contains (and_cell_of word cells) c
and_cell_before word cells c at = by_test (is_cell_word word)
  where
    by_test : (b : Bool) → Contains (if b then (word / 4) ∷ cells else cells) c
    by_test true = Contains-append_right ((word / 4) ∷ []) cells c at
    by_test false = at

pub and_cell_here : (cells : List ℕ) (c word : ℕ) → word ≡ 4 * c + 2 → Contains (and_cell_of word cells) c
and_cell_here cells c word is = by_test (is_cell_word word) (eq-eqb (word % 4) 2 (omega (arith, is)))
  where
    by_test : (b : Bool) → b ≡ true → Contains (if b then (word / 4) ∷ cells else cells) c
    by_test true e = (0, omega arith, omega (arith, is))
    by_test false e = absurd (cc)

pub and_cell_was : (word : ℕ) (cells : List ℕ) (c : ℕ) → Contains (and_cell_of word cells) c → Contains cells c ⊎
    (word ≡ 4 * c + 2)
and_cell_was word cells c at = by_test (is_cell_word word) refl at
  where
    by_test : (b : Bool) → is_cell_word word ≡ b → Contains (if b then (word / 4) ∷ cells else cells) c →
        Contains cells c ⊎ (word ≡ 4 * c + 2)
    by_test false e at = inl at
    by_test true e at = elim (Contains-append_cases ((word / 4) ∷ []) cells c at) [
      | inl here ↦ (let same = in_one (word / 4) c here in let two = eqb-true (word % 4) 2 e in
          inr (omega (arith, same, two)))
      | inr later ↦ inl later
    ]

-- a place that isn't read yet is none of one more
pub among_more : (n k : ℕ) (xs : List ℕ) → k ≢ n → is_among xs k ≡ false → is_among (n ∷ xs) k ≡ false
among_more n k xs apart isnt = ap (λ (b : Bool). b || is_among xs k) (ne_eqb k n apart) ∙ isnt

module _ (layout : Layout) (shapes : ShapeLists) (w : World) (me : ℕ) (inside : me < parties)
    (wave : RunningWave layout shapes w) (runs : (w.part me).runs ≡ true)
    (marks : is_marking w.heap ≡ true) (no_barrier : (cell : ℕ) → StillOwes w.heap (w.part me).duty cell → ⊥) (scan : Scan)
    (scans : (w.part me).scan ≡ Some scan) where
  abbrev state : State
  state = state_after layout w.log

  alive : IsLive state scan.cell
  alive = wave.hands.cells me scan.cell (scanned scan scans refl)

  within : scan.cell < cell_count layout
  within = live_within layout shapes wave.words.settled state scan.cell wave.words.reads alive

  k : ScanKnows layout w.heap state scan
  k = wave.scans.knows me scan scans

  of_some : (later : Scan) (P : Scan → Type 0) → P later → (s : Scan) → Some later ≡ Some s → P s
  of_some later P holds s is = subst P (let e : later ≡ s = cc in e) holds

  -- a link that stands now is one of the cycle's span
  linked_now : (source cell : ℕ) → IsLink state source cell → (cycle_span layout w.log).link source cell
  linked_now source cell link = (graph_in_span layout w.log
      (moment_after_last (λ (event : Event). is_begin event.entry) w.log)
      (moment_after_last-le (λ (event : Event). is_begin event.entry) w.log)).links source cell link

  -- A: the structure's word, for the first time
  module _ (fresh : scan.first ≡ None) (not_yet : scan.agreed ≡ false) (no_race : scan.raced ≡ false) where
    abbrev word_read : ℕ
    word_read = w.heap region.Structure scan.cell

    abbrev with_first : Scan
    with_first = record scan { first = Some word_read; raced = is_nuked word_read }

    truly : IsTrue scan (w.heap region.Structure scan.cell)
    truly = (no_race, inr (subst (λ (f : Option ℕ). IsStill f word_read) (sym fresh) tt))

    no_array : (word : ℕ) → scan.array ≡ Some word → ⊥
    no_array word has = (let none = k.array_after fresh in absurd (cc))

    knows_first : ScanKnows layout w.heap state with_first
    knows_first = record {
      unread = λ is. absurd (cc);
      array_after = λ is. absurd (cc);
      grows = λ first is. (let e : word_read ≡ first = cc in let c = ap count_of e in omega (arith, c));
      nuked = λ first is equal odd. (let e : word_read ≡ first = cc in ap is_nuked e ∙ odd);
      array = λ word has. absurd (no_array word has);
      room = λ first array place is has. absurd (no_array (array + 1) has);
      names_live = λ first array place cell is has. absurd (no_array (array + 1) has);
      agreed = λ is. absurd (cc);
    }

    unread_same : (place : Place) → IsUnread scan place → IsUnread with_first place
    unread_same (slot n) u = u
    unread_same (property n) u = u

    pub load_structure : RunningWave layout shapes
        (record { heap = w.heap; part = put_at w.part me (with_scan (w.part me) (Some with_first)); log = w.log })
    load_structure = scan_step layout shapes w me inside wave runs marks no_barrier (Some with_first) record {
      at_hand = λ cell s is at. wave.hands.cells me cell
          (elim at [
            | inl e ↦ scanned scan scans (of_some with_first (λ s. s.cell ≡ cell → scan.cell ≡ cell) (λ e.
                e) s is e)
            | inr b ↦ buffered scan scans (of_some with_first (λ s. Contains s.buffer cell →
                Contains scan.buffer cell) (λ b. b) s is b)
          ]);
      arrays = λ array s is has. wave.hands.arrays me array scan scans
          (of_some with_first (λ s. s.array ≡ Some (array + 1) → scan.array ≡ Some (array + 1)) (λ e. e) s is has);
      scanned = of_some with_first (λ s. IsStamped w.heap s.cell × ScanKnows layout w.heap state s ×
          ((cell : ℕ) → Contains s.buffer cell → IsTrue s (w.heap region.Structure s.cell) →
          (cycle_span layout w.log).link s.cell cell)) (
            wave.retained.scanned me scan scans,
            knows_first,
            λ cell at holds.
                wave.retained.buffered me cell scan scans at truly,
          );
      excuses = λ source place cell link white e. inl (let old = subst (ScanExcuses w.heap source place cell) scans e
          in (
            old.0,
            λ holds. elim (old.1 (subst (λ (c : ℕ). IsTrue scan (w.heap region.Structure c)) old.0 truly))
                [ inl u ↦ inl (u.0, unread_same place u.1) | inr at ↦ inr at ],
          ));
      aims = λ s target is aims. wave.targets.right me scan target scans
          (of_some with_first (λ s. s.target ≡ Some target → scan.target ≡ Some target) (λ e. e) s is aims);
    }

  -- B: a slot
  module _ (n : ℕ) (not_yet : scan.agreed ≡ false) (fits : n < slots_of (class_of layout scan.cell)) where
    abbrev slot_read : ℕ
    slot_read = w.heap region.Slots (index_of_slot layout scan.cell n)

    abbrev with_slot : Scan
    with_slot = record scan { slots = n ∷ scan.slots; buffer = and_cell_of slot_read scan.buffer }

    no_pair : (p : ℕ) (at : Region) (index : ℕ) → IsOwnWord layout state p at index → tag at ≡ tag region.Slots →
        index ≡ index_of_slot layout scan.cell n → ⊥
    no_pair p _ _ (own_register r a b) e i = omega (arith, e)
    no_pair p _ _ (own_structure c at) e i = omega (arith, e)
    no_pair p _ _ (own_array c at) e i = omega (arith, e)
    no_pair p _ _ (own_element c a j at is has) e i = omega (arith, e)
    no_pair p _ _ (own_pair table place at one has) e i =
        let both = index_of_slot-alone layout scan.cell table n place
        (HasSlot-class layout scan.cell n within fits).slot_within has.slot_within i in
        let class = eqb-true (class_of layout table) 4 one in
        let also = ap (class_of layout) both.0 in
        let few = ap slots_of (sym also ∙ class) in omega (arith, few, fits)

    -- the word is that of what the slot holds
    slot_is : val_word ((state.cells scan.cell).slots n) ≡ slot_read
    slot_is = (((wave.words.reads.parts.cells scan.cell within).taken (ap is_free alive)).slots n fits).is_word
        ∙ sym (wave.words.same region.Slots (index_of_slot layout scan.cell n) refl (λ p word owes.
        no_pair p region.Slots (index_of_slot layout scan.cell n)
        (wave.words.owns p region.Slots (index_of_slot layout scan.cell n) word owes) refl refl)
        (slot_now layout shapes w wave scan.cell n (HasSlot-class layout scan.cell n within fits) (λ gone. let lives = alive in absurd (cc))))

    slot_names : (c : ℕ) → slot_read ≡ 4 * c + 2 → (state.cells scan.cell).slots n ≡ Cell c
    slot_names c is = same_from_val_word ((state.cells scan.cell).slots n) (Cell c) (slot_is ∙ is)

    knows_slot : ScanKnows layout w.heap state with_slot
    knows_slot = record {
      unread = k.unread;
      array_after = k.array_after;
      grows = k.grows;
      nuked = k.nuked;
      array =
          k.array;
      room = k.room;
      names_live = k.names_live;
      agreed = k.agreed;
    }

    slot_answers : (place : Place) (cell : ℕ) → LinkAt state scan.cell place cell →
        ((scan.agreed ≡ false) × IsUnread scan place) ⊎ Contains scan.buffer cell →
        ((with_slot.agreed ≡ false) × IsUnread with_slot place) ⊎ Contains with_slot.buffer cell
    slot_answers place cell link (inr at) = inr (and_cell_before slot_read scan.buffer cell at)
    slot_answers (property j) cell link (inl u) = inl u
    slot_answers (slot j) cell link (inl u) = elim (cases_eq j n) [
      | inl same ↦ inr (and_cell_here scan.buffer cell slot_read (sym slot_is ∙
          ap val_word (subst (λ (i : ℕ). (state.cells scan.cell).slots i ≡ Cell cell) same link.1)))
      | inr apart ↦ inl (u.0, among_more n j scan.slots apart u.1)
    ]

    pub load_slot : RunningWave layout shapes
        (record { heap = w.heap; part = put_at w.part me (with_scan (w.part me) (Some with_slot)); log = w.log })
    load_slot = scan_step layout shapes w me inside wave runs marks no_barrier (Some with_slot) record {
      at_hand = λ cell s is at. elim at [
        | inl e ↦ wave.hands.cells me cell
            (scanned scan scans (of_some with_slot (λ s. s.cell ≡ cell → scan.cell ≡ cell) (λ e. e) s is e))
        | inr b ↦ elim (and_cell_was slot_read scan.buffer cell (of_some with_slot (λ s. Contains s.buffer cell →
            Contains with_slot.buffer cell) (λ b. b) s is b)) [
              | inl before ↦ wave.hands.cells me cell (buffered scan scans before)
              | inr now ↦ wave.refs.in_slots scan.cell n cell alive (slot_names cell now)
            ]
      ];
      arrays = λ array s is has. wave.hands.arrays me array scan scans
          (of_some with_slot (λ s. s.array ≡ Some (array + 1) → scan.array ≡ Some (array + 1)) (λ e. e) s is has);
      scanned = of_some with_slot (λ s. IsStamped w.heap s.cell × ScanKnows layout w.heap state s ×
          ((cell : ℕ) → Contains s.buffer cell → IsTrue s (w.heap region.Structure s.cell) →
          (cycle_span layout w.log).link s.cell cell)) (
            wave.retained.scanned me scan scans,
            knows_slot,
            λ cell at holds.
                elim (and_cell_was slot_read scan.buffer cell at) [
                  | inl before ↦ wave.retained.buffered me cell scan scans before holds
                  | inr now ↦ linked_now scan.cell cell (in_slot n alive (slot_names cell now))
                ],
          );
      excuses = λ source place cell link white e. inl (let old = subst (ScanExcuses w.heap source place cell) scans e
          in (
            old.0,
            λ holds. slot_answers place cell (subst (λ (c : ℕ). LinkAt state c place cell) (sym old.0) link)
                (old.1 holds),
          ));
      aims = λ s target is aims. wave.targets.right me scan target scans
          (of_some with_slot (λ s. s.target ≡ Some target → scan.target ≡ Some target) (λ e. e) s is aims);
    }

  -- C: the colour of a cell in the buffer, which isn't marked
  module _ (cell : ℕ) (has : Contains scan.buffer cell) where
    abbrev with_target : Scan
    with_target = record scan { target = Some record { cell = cell; word = w.heap region.Colour cell } }

    knows_target : ScanKnows layout w.heap state with_target
    knows_target = record {
      unread = k.unread;
      array_after = k.array_after;
      grows = k.grows;
      nuked = k.nuked;
      array =
          k.array;
      room = k.room;
      names_live = k.names_live;
      agreed = k.agreed;
    }

    target_unread : (place : Place) → IsUnread scan place → IsUnread with_target place
    target_unread (slot n) u = u
    target_unread (property n) u = u

    pub load_target : RunningWave layout shapes
        (record { heap = w.heap; part = put_at w.part me (with_scan (w.part me) (Some with_target)); log = w.log })
    load_target = scan_step layout shapes w me inside wave runs marks no_barrier (Some with_target) record {
      at_hand = λ c s is at. wave.hands.cells me c
          (elim at [
            | inl e ↦ scanned scan scans (of_some with_target (λ s. s.cell ≡ c → scan.cell ≡ c) (λ e.
                e) s is e)
            | inr b ↦ buffered scan scans (of_some with_target (λ s. Contains s.buffer c →
                Contains scan.buffer c) (λ b. b) s is b)
          ]);
      arrays = λ array s is it. wave.hands.arrays me array scan scans
          (of_some with_target (λ s. s.array ≡ Some (array + 1) → scan.array ≡ Some (array + 1)) (λ e. e) s is it);
      scanned = of_some with_target (λ s. IsStamped w.heap s.cell × ScanKnows layout w.heap state s ×
          ((c : ℕ) → Contains s.buffer c → IsTrue s (w.heap region.Structure s.cell) →
          (cycle_span layout w.log).link s.cell c)) (
            wave.retained.scanned me scan scans,
            knows_target,
            λ c at holds.
                wave.retained.buffered me c scan scans at holds,
          );
      excuses = λ source place c link white e. inl (let old = subst (ScanExcuses w.heap source place c) scans e in
          (old.0, λ holds. elim (old.1 holds) [ inl u ↦ inl (u.0, target_unread place u.1) | inr at ↦ inr at ]));
      aims = λ s target is aims.
          let now : with_target.target ≡ Some target =
          of_some with_target (λ s. s.target ≡ Some target → with_target.target ≡ Some target) (λ e. e) s is aims in
          let e : record { cell = cell; word = w.heap region.Colour cell } ≡ target = cc in
          subst (λ (t : Target). (t.cell < cell_count layout) ×
          ((w.heap region.Colour t.cell ≡ t.word) ⊎ IsMarked w.heap t.cell)) e (
            live_within layout shapes wave.words.settled state cell wave.words.reads
                (wave.hands.cells me cell (buffered scan scans has)),
            inl refl,
          );
    }
