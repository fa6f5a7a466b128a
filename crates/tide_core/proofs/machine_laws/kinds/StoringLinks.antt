-- The store of a slot keeps the wave.
use Rattle.std.proofs.Common.{ℕ, ◌≡◌, ◌≢◌, ◌<◌, ◌⊎◌, ◌==◌, refl, sym, ◌∙◌, ap, subst, arith, Bool, true, List, [], ◌∷◌, ◌++◌, inl, inr, Option, Some, None, length}
use Rattle.std.proofs.lemmas.Bool.{cases_eq, eq-eqb, ne_eqb}
use Rattle.std.specs.Prelude.{Contains, if◌then◌else◌, ◌&&◌, not}
use Rattle.tide_call.proofs.reading_laws.SlotReading.{Reading-slot}
use Rattle.tide_words.proofs.tide_layout.Places.{tag-injective}
use Rattle.tide_words.proofs.tide_layout.SlotPlaces.{index_of_slot-alone}
use Rattle.tide_words.specs.tide_layout.Region.{tag}
use Rattle.tide_words.specs.tide_layout.Slots.{index_of_slot}
use Rattle.tide_words.specs.tide_layout.declared.region.Region.{Region}
use Rattle.tide_core.proofs.machine_laws.WordLaws.{cell_word_is}
use Rattle.tide_core.proofs.machine_laws.steps.ArraysKept.{arrays_kept}
use Rattle.tide_core.proofs.machine_laws.steps.Barriers.{pushes_barrier, colour_barrier, owes_barrier}
use Rattle.tide_core.proofs.machine_laws.steps.Calls.{OfState, call_step, is_uncalled}
use Rattle.tide_core.proofs.machine_laws.steps.Frames.{each_put, calls_view}
use Rattle.tide_core.proofs.machine_laws.steps.GrowthsKept.{growth_kept}
use Rattle.tide_core.proofs.machine_laws.steps.Lists.{nothing_in}
use Rattle.tide_core.proofs.machine_laws.steps.ScansKept.{scan_kept}
use Rattle.tide_core.proofs.machine_laws.steps.Unsettled.{given_put, live_is_not_dead, unsettled_write, unsettles_put}
use Rattle.tide_core.proofs.machine_laws.steps.SettledNow.{slot_now}
use Rattle.tide_core.specs.machine.Duties.{OwesColour, AwaitsLoad, StillOwes}
use Rattle.tide_core.specs.machine.Entries.{call_of}
use Rattle.tide_core.specs.machine.Kind.{StoreLink}
use Rattle.tide_core.specs.machine.Machine.{stepped}
use Rattle.tide_core.specs.machine.May.{barrier_for}
use Rattle.tide_core.specs.machine.Owed.{Owes, IsOwnWord, own_register, own_structure, own_array, own_pair, own_element, owed_word}
use Rattle.tide_core.specs.machine.RunningWave.{RunningWave}
use Rattle.tide_core.specs.machine.Scanning.{Place, slot, property}
use Rattle.tide_core.specs.machine.Words.{is_cell_word}
use Rattle.tide_core.specs.machine.World.{World, parties, pushes}
use Rattle.tide_core.specs.declared.machine.view.Owed.{Owed}
use Rattle.tide_core.specs.declared.machine.view.View.{View}
use Rattle.tide_core.specs.machine.points.Growths.{GrowthKnows}
use Rattle.tide_core.specs.machine.points.Links.{LinkAt}
use Rattle.tide_core.specs.machine.points.SettledWords.{RunningWordsRead}
use Rattle.tide_model.proofs.ReferenceLaws.{put_at_elim, RefsAreLive-call}
use Rattle.tide_model.specs.Applied.{put_slot}
use Rattle.tide_model.specs.Cycle.{HasDead, dead_cell, dead_array}
use Rattle.tide_model.specs.History.{state_after}
use Rattle.tide_model.specs.Lawful.{Stands}
use Rattle.tide_model.specs.Layout.{Layout, cell_count, class_of, slots_of}
use Rattle.tide_model.specs.Numbers.{put_at}
use Rattle.tide_model.specs.References.{IsLive, RefsAreLive}
use Rattle.tide_model.specs.Refused.{ShapeLists}
use Rattle.tide_model.specs.State.{State}
use Rattle.tide_model.specs.declared.op.Op.TheVariants.{Put}
use Rattle.tide_model.specs.declared.op.Reply.TheVariants.{Done}
use Rattle.tide_model.specs.declared.val.Val.{Val}
use Rattle.tide_model.specs.declared.val.Val.TheVariants.{Cell}
use Rattle.tide_words.proofs.heap_laws.HeapLaws.{write-other_region, write-other_index}
use Rattle.tide_words.proofs.heap_laws.ReadingLaws.{live_within, HasSlot-class}
use Rattle.tide_words.specs.forms.ValueWord.{val_word, HasU32}
use Rattle.tide_words.specs.heap.Heap.{Heap, write}
use Rattle.tide_words.specs.heap.Reading.{ReadsAs}
use Rattle.tide_words.specs.tide_layout.declared.region.Region.TheVariants as region
use Rattle.tide_core.proofs.machine_laws.steps.SlotCells
use Rattle.tide_core.specs.declared.machine.view.Duty.TheVariants as duty
use Rattle.tide_core.specs.declared.machine.view.Growth.TheVariants as growth

module _ (layout : Layout) (shapes : ShapeLists) (w : World) (me : ℕ) (inside : me < parties)
    (wave : RunningWave layout shapes w) (runs : (w.part me).runs ≡ true)
    (idle : (w.part me).duty ≡ duty.Nothing) (owes_nothing : (w.part me).owed ≡ [])
    (grows_not : (w.part me).growth ≡ growth.Nothing)
    (src slot_number val cell word : ℕ)
    (stands : Stands layout shapes w.log (call_of me (Put src slot_number val) Done None))
    (source : (state_after layout w.log).registers me src ≡ Cell cell)
    (stored : word ≡ val_word ((state_after layout w.log).registers me val))
    (fits : slot_number < slots_of (class_of layout cell)) where
  abbrev state : State
  state = state_after layout w.log

  abbrev value : Val
  value = state.registers me val

  abbrev new : Heap
  new = write w.heap region.Slots (index_of_slot layout cell slot_number) word

  abbrev later : View
  later = record (w.part me) {
    owed = [];
    duty = barrier_for cell word;
    known = [];
    full = [];
    seen = w.log ++ call_of me (Put src slot_number val) Done None ∷ [];
    mine = (w.part me).mine ++ call_of me (Put src slot_number val) Done None ∷ [];
  }

  active : state.active me ≡ true
  active = stands.is_active

  alive : IsLive state cell
  alive = wave.refs.in_registers me src cell active source

  within : cell < cell_count layout
  within = live_within layout shapes wave.words.settled state cell wave.words.reads alive

  number : HasU32 value
  number = (wave.words.reads.roots.registers me val stands.is_mutator stands.fits.1).number

  -- what a cell was beside its slots
  as_before : (x : ℕ) → SlotCells.SameCell ((put_slot state (Cell cell) slot_number value).cells x) (state.cells x)
  as_before = SlotCells.same_cell state cell slot_number value

  -- a link of the state after the store is the new one, or it was there
  link_after : (x : ℕ) (place : Place) (target : ℕ) →
      LinkAt (put_slot state (Cell cell) slot_number value) x place target →
      ((x ≡ cell) × (place ≡ slot slot_number) × (value ≡ Cell target)) ⊎ LinkAt state x place target
  link_after x (property n) target (is_live, below, is) = inr (
    sym (as_before x).status ∙ is_live,
    subst (λ (keys : List ℕ). n < length keys) (as_before x).keys below,
    ap (λ (f : ℕ → Val). f n) (sym (as_before x).properties) ∙ is,
  )
  link_after x (slot n) target (is_live, is) = elim (cases_eq x cell) [
    | inl same ↦
        let here = subst (λ (c : ℕ). ((put_slot state (Cell cell) slot_number value).cells c).slots n ≡ Cell target)
        same is in
        let there = ap (λ (f : ℕ → Val). f n) (sym (SlotCells.slots_here state cell slot_number value)) ∙ here in
        elim (cases_eq n slot_number) [
          | inl also ↦ inl (
            same,
            ap slot also,
            sym (ap (λ (b : Bool). if b then value else (state.cells cell).slots n) (eq-eqb n slot_number also)) ∙
                there,
          )
          | inr apart ↦ inr (
            subst (IsLive state) (sym same) alive,
            subst (λ (c : ℕ). (state.cells c).slots n ≡ Cell target) (sym same)
                (sym (ap (λ (b : Bool). if b then value else (state.cells cell).slots n) (ne_eqb n slot_number apart)) ∙
                there),
          )
        ]
    | inr apart ↦ inr (
      sym (as_before x).status ∙ is_live,
      ap (λ (f : ℕ → Val). f n) (sym (SlotCells.slots_else state cell slot_number value x apart)) ∙ is,
    )
  ]

  nobody : (p : ℕ) → (at : Region) (index other : ℕ) → Owes later at index other → ⊥
  nobody p at index other owes = nothing_in (owed_word at index other) owes

  -- an own word of another is not the slot's: a cell's slots are no pairs
  own_else : (heap : Heap) (p : ℕ) (at : Region) (index : ℕ) → IsOwnWord layout state p at index →
      write heap region.Slots (index_of_slot layout cell slot_number) word at index ≡ heap at index
  own_else heap p _ _ (own_register register a b) = refl
  own_else heap p _ _ (own_structure c claimed) = refl
  own_else heap p _ _ (own_array c claimed) = refl
  own_else heap p _ _ (own_element c array place claimed is has) = refl
  own_else heap p _ _ (own_pair table place claimed is_one has) =
      write-other_index heap region.Slots (index_of_slot layout cell slot_number) (index_of_slot layout table place)
      word
      (λ same. let both = index_of_slot-alone layout cell table slot_number place
      (HasSlot-class layout cell slot_number within fits).slot_within has.slot_within same in
      let class = Rattle.std.proofs.lemmas.Bool.eqb-true (class_of layout table) 4 is_one in
      let also = ap (class_of layout) both.0 in
      let few = ap slots_of (sym also ∙ class) in omega (arith, few, fits))

  own_still : (p : ℕ) (at : Region) (index : ℕ) → p ≢ me → IsOwnWord layout state p at index →
      IsOwnWord layout (put_slot state (Cell cell) slot_number value) p at index
  own_still p _ _ apart (own_register register a b) = own_register register a b
  own_still p _ _ apart (own_structure c claimed) = own_structure c claimed
  own_still p _ _ apart (own_array c claimed) = own_array c claimed
  own_still p _ _ apart (own_pair table place claimed is_one has) = own_pair table place claimed is_one has
  own_still p _ _ apart (own_element c array place claimed is has) =
      own_element c array place claimed ((as_before c).array ∙ is) has

  words_after : RunningWordsRead layout shapes new (put_at w.part me later)
      (put_slot state (Cell cell) slot_number value)
  words_after = record {
    settled = write wave.words.settled region.Slots (index_of_slot layout cell slot_number) word;
    reads = subst (λ (x : ℕ). ReadsAs layout shapes
        (write wave.words.settled region.Slots (index_of_slot layout cell slot_number) x)
        (put_slot state (Cell cell) slot_number value)) (sym stored)
        (Reading-slot layout shapes wave.words.settled state cell within alive wave.words.reads slot_number value fits
        number);
    same = λ at index read free swept. ap (λ (z : ℕ).
        if (tag at == tag region.Slots) && (index == index_of_slot layout cell slot_number) then word else z)
        (wave.words.same at index read (λ p other owes. free p other (back p at index other owes))
        (unsettles_put w.part me later refl at index swept));
    given = given_put (write wave.words.settled region.Slots (index_of_slot layout cell slot_number) word) w.part me later refl
        wave.words.given;
    owed = each_put (λ p u. (at : Region) (index other : ℕ) → Owes u at index other →
        write wave.words.settled region.Slots (index_of_slot layout cell slot_number) word at index ≡ other) w.part me
        later
        (λ at index other owes. absurd (nobody me at index other owes))
        (λ p at index other owes. own_else wave.words.settled p at index (wave.words.owns p at index other owes) ∙
        wave.words.owed p at index other owes);
    known = put_at_elim (λ p u. (at : Region) (index other : ℕ) → Contains u.known (owed_word at index other) →
        write wave.words.settled region.Slots (index_of_slot layout cell slot_number) word at index ≡ other) w.part me
        later
        (λ at index other is. absurd (let below = is.1 in omega (arith, below)))
        (λ p apart at index other is. own_else wave.words.settled p at index (wave.kept.owns p at index other is) ∙
        wave.words.known p at index other is);
    owns = put_at_elim (λ p u. (at : Region) (index other : ℕ) → Owes u at index other →
        IsOwnWord layout (put_slot state (Cell cell) slot_number value) p at index) w.part me later
        (λ at index other owes. absurd (nobody me at index other owes))
        (λ p apart at index other owes. own_still p at index apart (wave.words.owns p at index other owes));
  }
    where
      back : (p : ℕ) (at : Region) (index other : ℕ) → Owes (w.part p) at index other →
          Owes (put_at w.part me later p) at index other
      back = put_at_elim (λ p u. (at : Region) (index other : ℕ) → Owes (w.part p) at index other →
          Owes u at index other) w.part me later
          (λ at index other owes. absurd (nothing_in (owed_word at index other)
          (subst (λ (o : List Owed). Contains o (owed_word at index other)) owes_nothing owes)))
          (λ p apart at index other owes. owes)

  same_property : (x n target : ℕ) → LinkAt (put_slot state (Cell cell) slot_number value) x (property n) target →
      LinkAt state x (property n) target
  same_property x n target (is_live, below, is) = (
    sym (as_before x).status ∙ is_live,
    subst (λ (keys : List ℕ). n < length keys) (as_before x).keys below,
    ap (λ (f : ℕ → Val). f n) (sym (as_before x).properties) ∙ is,
  )

  state_after_store : OfState layout shapes w.heap w.part w.log me wave (Put src slot_number val) Done None new later
      (put_slot state (Cell cell) slot_number value)
  state_after_store = record {
    words = words_after;
    refs = subst (λ (x : Val). RefsAreLive (put_slot state x slot_number value)) source
        (RefsAreLive-call layout shapes state me (Put src slot_number val) Done None wave.refs active stands.answers);
    alive = λ x is. (as_before x).status ∙ is;
    arrays = λ array is. is;
    scans = λ p scan is. scan_kept layout w.heap new state (put_slot state (Cell cell) slot_number value)
        (λ c. refl) (λ c. refl) (λ i. refl) (λ c is_live. (as_before c).status ∙ is_live) scan
        (wave.scans.knows p scan is);
    links = λ x place target link black white. elim (link_after x place target link) [
      | inl fresh ↦ inl (subst (StillOwes new later.duty) (sym fresh.0)
          (owes_barrier new (is_cell_word word) cell (cell_word_is word target (stored ∙ ap val_word fresh.2))))
      | inr before ↦ inr before
    ];
    beyond = λ marks x n target link past. inr (same_property x n target link, past);
    awaited = λ c owes. absurd (colour_barrier (is_cell_word word) cell c owes);
    growth = subst (GrowthKnows new (put_slot state (Cell cell) slot_number value) me later) (sym grows_not) tt;
    growths = λ p apart. growth_kept w.heap new state (put_slot state (Cell cell) slot_number value) p (w.part p)
        (w.part p)
        (λ c mine. refl) (λ c mine. refl) (λ c at. at)
        (λ c a mine is. (as_before c).array ∙ is) (λ c x o. o) (λ c x o. o) (λ i x o. o) (w.part p).growth
        (wave.growths.knows p);
    owns = own_still;
    hidden = λ p c apart is_live h. record {
      registers = h.registers;
      strong = h.strong;
      weak = h.weak;
      claims = h.claims;
      linked = λ x place link. elim (link_after x place c link) [
        | inl fresh ↦ h.registers me val (λ e. apart (sym e)) active fresh.2
        | inr before ↦ h.linked x place before
      ];
      paired = λ table key alive is. h.paired table key (sym (as_before table).status ∙ alive)
          (ap (λ (f : ℕ → Option Val). f key) (sym (as_before table).pairs) ∙ is);
      blank = λ place target link. elim (link_after c place target link) [
        | inl fresh ↦ h.registers me src (λ e. apart (sym e)) active (source ∙ ap Cell (sym fresh.0))
        | inr before ↦ h.blank place target before
      ];
    };
    stands = arrays_kept layout w.heap new state (put_slot state (Cell cell) slot_number value) (λ c. refl) (λ c. refl)
        (λ i. refl) (λ array. refl)
        (λ c array alive is. (
          sym (as_before c).status ∙ alive,
          (as_before c).keys,
          (as_before c).properties,
          (as_before c).array,
        ))
        (λ c alive none. inl (sym (as_before c).status ∙ alive)) wave.arrays;
    inactive = each_put (λ p u. u.left ≡ not (state.active p)) w.part me later (wave.left me) wave.left;
    dead = λ block has. still_dead block has;
  }
    where
      still_dead : (block : ℕ) → HasDead layout (put_slot state (Cell cell) slot_number value) block →
          HasDead layout state block
      still_dead block (dead_cell c in_cells of_block is) =
          dead_cell c in_cells of_block (sym (as_before c).status ∙ is)
      still_dead block (dead_array a in_arrays of_block is) = dead_array a in_arrays of_block is

  pub store_link : RunningWave layout shapes
      (stepped layout shapes w me (StoreLink cell slot_number word (Some (Put src slot_number val))))
  store_link = (call_step layout shapes w.heap w.part w.log me wave (Put src slot_number val) Done None new later
      record {
        inside = inside;
        runs = runs;
        still_runs = runs;
        uncalled = λ at index is. uncalled_else at index is;
        stands = stands;
        who = refl;
        seen = refl;
        mine = refl;
        marks = refl;
        cycle = refl;
        mark_version = refl;
        begun = refl;
        visits = refl;
        stopped = refl;
        period = refl;
        calls = calls_view layout w.heap new w.part me later refl (λ p. refl) wave.calls;
        held = refl;
        round = refl;
        sweeping = refl;
        saw = refl;
        cleared = refl;
        leaves = inl refl;
        dead_words = λ b. refl;
        differs = unsettled_write w.heap w.part region.Slots (index_of_slot layout cell slot_number) word
            (slot_now layout shapes w wave cell slot_number (HasSlot-class layout cell slot_number within fits)
            (live_is_not_dead (state.cells cell).status alive));
        scan = refl;
        known = refl;
        full = refl;
        pushes_none = λ c. (ap (λ d. pushes d c) idle, pushes_barrier (is_cell_word word) cell c);
        grows = λ c g. absurd (subst (λ d. AwaitsLoad d c) idle g.owes);
        barrier = λ c owes. absurd (subst (λ d. StillOwes w.heap d c) idle owes);
        kept = λ p at index other apart is. own_else w.heap p at index (wave.kept.owns p at index other is) ∙
            wave.kept.known p at index other is;
        truer = λ p scan is holds. holds;
        born_before = λ c owes. subst (λ d. OwesColour d c) idle owes;
        born = λ c born. absurd (cc);
        white = λ c owes. absurd (colour_barrier (is_cell_word word) cell c owes);
        awaits = λ marks c owes. absurd (colour_barrier (is_cell_word word) cell c owes);
        owner = wave.born.owner;
        once = λ c owes. absurd (colour_barrier (is_cell_word word) cell c owes);
        once_others = λ p c apart. wave.born.once p c;
        state = subst (λ (x : Val). OfState layout shapes w.heap w.part w.log me wave (Put src slot_number val) Done None
            new later (put_slot state x slot_number value)) (sym source) state_after_store;
      })
    where
      uncalled_else : (at : Region) (index : ℕ) → is_uncalled at ≡ true → new at index ≡ w.heap at index
      uncalled_else at index is = write-other_region w.heap region.Slots at (index_of_slot layout cell slot_number)
          index word
          (ne_eqb (tag at) (tag region.Slots) (λ same. let r = tag-injective at region.Slots same in let also =
          ap is_uncalled r in absurd (cc)))
