-- The loads of a scan from its cell's array keep the wave: of the array's word, and of an element.
use Rattle.std.proofs.Common.{ℕ, ◌≡◌, ◌≢◌, ◌+◌, ◌*◌, ◌<◌, ◌⊎◌, refl, sym, ◌∙◌, ap, subst, arith, true, false, ◌∷◌, inl, inr, Some, None, length}
use Rattle.std.proofs.lemmas.Bool.{cases_eq}
use Rattle.std.specs.Prelude.{Contains}
use Rattle.tide_words.specs.tide_layout.Slots.{index_of_element}
use Rattle.tide_core.proofs.machine_laws.kinds.VisitorLoads.{and_cell_before, and_cell_here, and_cell_was, among_more}
use Rattle.tide_core.proofs.machine_laws.steps.Rereading.{scan_step, with_scan}
use Rattle.tide_core.specs.machine.RunningWave.{RunningWave}
use Rattle.tide_core.specs.machine.Scanning.{IsTrue, IsUnread, Place, slot, property, and_cell_of}
use Rattle.tide_core.specs.machine.Words.{count_of}
use Rattle.tide_core.specs.machine.World.{World, parties}
use Rattle.tide_core.specs.declared.machine.view.Scan.{Scan}
use Rattle.tide_core.specs.machine.points.Arrays.{ArrayStands}
use Rattle.tide_core.specs.machine.points.Links.{ScanExcuses, LinkAt}
use Rattle.tide_core.specs.machine.points.Scans.{scanned, buffered, ScanKnows}
use Rattle.tide_model.proofs.Cycles.{graph_in_span}
use Rattle.tide_model.proofs.Histories.{moment_after_last-le}
use Rattle.tide_model.specs.Cycle.{cycle_span}
use Rattle.tide_model.specs.Graph.{in_property}
use Rattle.tide_model.specs.History.{state_after, is_begin, moment_after_last}
use Rattle.tide_model.specs.Layout.{Layout}
use Rattle.tide_model.specs.Numbers.{put_at}
use Rattle.tide_model.specs.References.{IsLive}
use Rattle.tide_model.specs.Refused.{ShapeLists}
use Rattle.tide_model.specs.State.{State}
use Rattle.tide_model.specs.declared.entry.Event.{Event}
use Rattle.tide_model.specs.declared.val.Val.TheVariants.{Cell}
use Rattle.tide_words.proofs.form_laws.FormLaws.{same_from_val_word}
use Rattle.tide_words.specs.forms.ValueWord.{val_word}
use Rattle.tide_words.specs.marking.Colours.{is_marking, IsStamped}
use Rattle.tide_core.specs.machine.Duties.{StillOwes}
use Rattle.tide_words.specs.tide_layout.declared.region.Region.TheVariants as region

module _ (layout : Layout) (shapes : ShapeLists) (w : World) (me : ℕ) (inside : me < parties)
    (wave : RunningWave layout shapes w) (runs : (w.part me).runs ≡ true)
    (marks : is_marking w.heap ≡ true) (no_barrier : (cell : ℕ) → StillOwes w.heap (w.part me).duty cell → ⊥) (scan : Scan)
    (scans : (w.part me).scan ≡ Some scan) (not_yet : scan.agreed ≡ false) where
  abbrev now : State
  now = state_after layout w.log

  alive : IsLive now scan.cell
  alive = wave.hands.cells me scan.cell (scanned scan scans refl)

  k : ScanKnows layout w.heap now scan
  k = wave.scans.knows me scan scans

  stands : (array : ℕ) → w.heap region.Array scan.cell ≡ array + 1 → ArrayStands layout w.heap now scan.cell array
  stands array is = wave.arrays.stand scan.cell array alive is

  of_some : (later : Scan) (P : Scan → Type 0) → P later → (s : Scan) → Some later ≡ Some s → P s
  of_some later P holds s is = subst P (let e : later ≡ s = cc in e) holds

  -- the array's word
  module _ (none_yet : scan.array ≡ None) (read : scan.first ≢ None) where
    abbrev with_array : Scan
    with_array = record scan { array = Some (w.heap region.Array scan.cell) }

    knows_array : ScanKnows layout w.heap now with_array
    knows_array = record {
      unread = k.unread;
      grows = k.grows;
      nuked = k.nuked;
      agreed = k.agreed;
      array_after = λ is. absurd (read is);
      array = λ word has holds. (let e : w.heap region.Array scan.cell ≡ word = cc in e);
      room = λ f array place is has below.
          let e : w.heap region.Array scan.cell ≡ array + 1 = cc in
          let g = k.grows f is in
          (stands array e).room place (omega (arith, g, below));
      names_live = λ f array place c is has below names.
          let e : w.heap region.Array scan.cell ≡ array + 1 = cc in
          let g = k.grows f is in
          let s = stands array e in
          let few = s.few in
          wave.refs.in_properties scan.cell place c alive (omega (arith, g, below, few))
          (same_from_val_word ((now.cells scan.cell).properties place) (Cell c)
          (s.named place (omega (arith, g, below)) ∙ names));
    }

    array_unread : (place : Place) → IsUnread scan place → IsUnread with_array place
    array_unread (slot n) u = u
    array_unread (property n) u = u

    pub load_array : RunningWave layout shapes
        (record { heap = w.heap; part = put_at w.part me (with_scan (w.part me) (Some with_array)); log = w.log })
    load_array = scan_step layout shapes w me inside wave runs marks no_barrier (Some with_array) record {
      at_hand = λ c s is at. wave.hands.cells me c (elim at [
        | inl e ↦ scanned scan scans (of_some with_array (λ s. s.cell ≡ c → scan.cell ≡ c) (λ e. e) s is e)
        | inr b ↦ buffered scan scans (of_some with_array (λ s. Contains s.buffer c → Contains scan.buffer c) (λ b.
            b) s is b)
      ]);
      arrays = λ array s is has.
          let e : with_array.array ≡ Some (array + 1) = of_some with_array (λ s. s.array ≡ Some (array + 1) →
          with_array.array ≡ Some (array + 1)) (λ e. e) s is has in
          let w_is : w.heap region.Array scan.cell ≡ array + 1 = cc in
          elim (stands array w_is).own [ inl mine ↦ inl mine.0 | inr replaced ↦ inr replaced ];
      scanned = of_some with_array (λ s. IsStamped w.heap s.cell × ScanKnows layout w.heap now s ×
          ((c : ℕ) → Contains s.buffer c → IsTrue s (w.heap region.Structure s.cell) →
          (cycle_span layout w.log).link s.cell c)) (
            wave.retained.scanned me scan scans,
            knows_array,
            λ c at holds. wave.retained.buffered me c scan scans at holds,
          );
      excuses = λ source place c link white e. inl (let old = subst (ScanExcuses w.heap source place c) scans e in (
        old.0,
        λ holds. elim (old.1 holds) [ inl u ↦ inl (u.0, array_unread place u.1) | inr at ↦ inr at ],
      ));
      aims = λ s target is aims. wave.targets.right me scan target scans
          (of_some with_array (λ s. s.target ≡ Some target → scan.target ≡ Some target) (λ e. e) s is aims);
    }

  -- an element of it
  module _ (first array n : ℕ) (read_first : scan.first ≡ Some first) (loaded : scan.array ≡ Some (array + 1))
      (below_first : n < count_of first) where
    abbrev element_read : ℕ
    element_read = w.heap region.Elements (index_of_element layout array n)

    abbrev with_element : Scan
    with_element = record scan { elements = n ∷ scan.elements; buffer = and_cell_of element_read scan.buffer }

    knows_element : ScanKnows layout w.heap now with_element
    knows_element = record {
      unread = λ is. absurd (cc);
      array_after = k.array_after;
      grows = k.grows;
      nuked = k.nuked;
      array = k.array;
      room = k.room;
      names_live = k.names_live;
      agreed = k.agreed;
    }

    -- a scan that may mark reads the cell's property
    reads_property : IsTrue scan (w.heap region.Structure scan.cell) → (n < length (now.cells scan.cell).keys) ×
        (val_word ((now.cells scan.cell).properties n) ≡ element_read)
    reads_property (no_race, inl agreed) = absurd (cc)
    reads_property (no_race, inr still) =
        let s = stands array (k.array (array + 1) loaded still) in
        let g = k.grows first read_first in
        let few = s.few in
        (omega (arith, g, below_first, few), s.named n (omega (arith, g, below_first)))

    names : (c : ℕ) → IsTrue scan (w.heap region.Structure scan.cell) → element_read ≡ 4 * c + 2 →
        (cycle_span layout w.log).link scan.cell c
    names c holds is =
        let p = reads_property holds in
        (graph_in_span layout w.log (moment_after_last (λ (event : Event). is_begin event.entry) w.log)
        (moment_after_last-le (λ (event : Event). is_begin event.entry) w.log)).links scan.cell c
        (in_property n alive p.0 (same_from_val_word ((now.cells scan.cell).properties n) (Cell c) (p.1 ∙ is)))

    element_answers : (place : Place) (cell : ℕ) → LinkAt now scan.cell place cell →
        IsTrue scan (w.heap region.Structure scan.cell) →
        ((scan.agreed ≡ false) × IsUnread scan place) ⊎ Contains scan.buffer cell →
        ((with_element.agreed ≡ false) × IsUnread with_element place) ⊎ Contains with_element.buffer cell
    element_answers place cell link holds (inr at) = inr (and_cell_before element_read scan.buffer cell at)
    element_answers (slot j) cell link holds (inl u) = inl u
    element_answers (property j) cell link holds (inl u) = elim (cases_eq j n) [
      | inl same ↦ inr (and_cell_here scan.buffer cell element_read (sym (reads_property holds).1 ∙
          ap val_word (subst (λ (i : ℕ). (now.cells scan.cell).properties i ≡ Cell cell) same link.2)))
      | inr apart ↦ inl (u.0, among_more n j scan.elements apart u.1)
    ]

    pub load_element : RunningWave layout shapes
        (record { heap = w.heap; part = put_at w.part me (with_scan (w.part me) (Some with_element)); log = w.log })
    load_element = scan_step layout shapes w me inside wave runs marks no_barrier (Some with_element) record {
      at_hand = λ cell s is at. elim at [
        | inl e ↦ wave.hands.cells me cell
            (scanned scan scans (of_some with_element (λ s. s.cell ≡ cell → scan.cell ≡ cell) (λ e. e) s is e))
        | inr b ↦ elim (and_cell_was element_read scan.buffer cell (of_some with_element (λ s. Contains s.buffer cell →
            Contains with_element.buffer cell) (λ b. b) s is b)) [
              | inl before ↦ wave.hands.cells me cell (buffered scan scans before)
              | inr here ↦ k.names_live first array n cell read_first loaded below_first here
            ]
      ];
      arrays = λ a s is has. wave.hands.arrays me a scan scans
          (of_some with_element (λ s. s.array ≡ Some (a + 1) → scan.array ≡ Some (a + 1)) (λ e. e) s is has);
      scanned = of_some with_element (λ s. IsStamped w.heap s.cell × ScanKnows layout w.heap now s ×
          ((cell : ℕ) → Contains s.buffer cell → IsTrue s (w.heap region.Structure s.cell) →
          (cycle_span layout w.log).link s.cell cell)) (
            wave.retained.scanned me scan scans,
            knows_element,
            λ cell at holds. elim (and_cell_was element_read scan.buffer cell at) [
              | inl before ↦ wave.retained.buffered me cell scan scans before holds
              | inr here ↦ names cell holds here
            ],
          );
      excuses = λ source place cell link white e. inl (let old = subst (ScanExcuses w.heap source place cell) scans e
          in (
            old.0,
            λ holds. element_answers place cell (subst (λ (c : ℕ). LinkAt now c place cell) (sym old.0) link)
                (subst (λ (c : ℕ). IsTrue scan (w.heap region.Structure c)) (sym old.0) holds) (old.1 holds),
          ));
      aims = λ s target is aims. wave.targets.right me scan target scans
          (of_some with_element (λ s. s.target ≡ Some target → scan.target ≡ Some target) (λ e. e) s is aims);
    }
