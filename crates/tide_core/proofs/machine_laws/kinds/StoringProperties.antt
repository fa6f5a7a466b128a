-- SetProp stores a property of a claimed cell: the wave is kept.
use Rattle.std.proofs.Common.{ℕ, ◌≡◌, ◌≢◌, ◌+◌, ◌<◌, ◌≤◌, ◌⊎◌, refl, sym, ◌∙◌, ap, subst, arith, List, [], inl, inr, length, Option, Some, None}
use Rattle.std.proofs.lemmas.Bool.{cases_eq}
use Rattle.std.specs.Prelude.{Contains, ◌&&◌, slice_get}
use Rattle.tide_words.proofs.tide_layout.SlotPlaces.{index_of_element-alone}
use Rattle.tide_words.specs.tide_layout.Limits.{IsWithinLimits}
use Rattle.tide_words.specs.tide_layout.Slots.{HasElement, index_of_element}
use Rattle.tide_words.specs.tide_layout.declared.region.Region.{Region}
use Rattle.tide_core.proofs.machine_laws.WordLaws.{cell_word_is}
use Rattle.tide_core.proofs.machine_laws.steps.Barriers.{pushes_barrier, colour_barrier, owes_barrier}
use Rattle.tide_core.proofs.machine_laws.steps.CallReadings.{call_reads}
use Rattle.tide_core.proofs.machine_laws.steps.CellCalls.{ShowsCell, cell_call, named_after, words_after, later}
use Rattle.tide_core.proofs.machine_laws.steps.Claimed.{unowed, count_is, array_is}
use Rattle.tide_core.proofs.machine_laws.steps.Lists.{nothing_in}
use Rattle.tide_core.proofs.machine_laws.steps.Owning.{own_alone}
use Rattle.tide_core.proofs.machine_laws.steps.StandingArrays.{array_settled}
use Rattle.tide_core.proofs.machine_laws.steps.SettledNow.{own_now}
use Rattle.tide_core.specs.machine.Kind.{StoreElement}
use Rattle.tide_core.specs.machine.Machine.{stepped}
use Rattle.tide_core.specs.machine.May.{MayCall, barrier_for}
use Rattle.tide_core.specs.machine.Owed.{Owes, owed_word, own_element}
use Rattle.tide_core.specs.machine.RunningWave.{RunningWave}
use Rattle.tide_core.specs.machine.Scanning.{Place, slot, property}
use Rattle.tide_core.specs.machine.Words.{is_cell_word, count_of, cell_named}
use Rattle.tide_core.specs.machine.World.{World, parties}
use Rattle.tide_core.specs.declared.machine.view.View.{View}
use Rattle.tide_core.specs.machine.kinds.StorePrivateElement.{SetsProperty}
use Rattle.tide_core.specs.machine.points.Sweeps.{SweepsAreNamed}
use Rattle.tide_core.specs.machine.points.Arrays.{ArrayStands, ArraysStand}
use Rattle.tide_core.specs.machine.points.Links.{LinkAt}
use Rattle.tide_model.proofs.ClaimLaws.{ClaimsAreOwn-lawful}
use Rattle.tide_model.proofs.ReferenceLaws.{put_at_elim, RefsAreLive-call}
use Rattle.tide_model.specs.Applied.{after_call, at_cell, put_cell, put_property, place_of}
use Rattle.tide_model.specs.History.{state_after}
use Rattle.tide_model.specs.Layout.{Layout}
use Rattle.tide_model.specs.Numbers.{put_at}
use Rattle.tide_model.specs.References.{IsLive, RefsAreLive}
use Rattle.tide_model.specs.Refused.{ShapeLists}
use Rattle.tide_model.specs.State.{State, CellState, live, spent}
use Rattle.tide_model.specs.declared.op.Op.TheVariants.{SetProp}
use Rattle.tide_model.specs.declared.op.Reply.TheVariants.{Done}
use Rattle.tide_model.specs.declared.val.Val.{Val}
use Rattle.tide_model.specs.declared.val.Val.TheVariants.{Cell}
use Rattle.tide_words.proofs.form_laws.FormLaws.{same_from_val_word}
use Rattle.tide_words.proofs.heap_laws.HeapLaws.{write-same, write-other_index}
use Rattle.tide_words.specs.forms.ValueWord.{val_word}
use Rattle.tide_words.specs.heap.Heap.{Heap, write}
use Rattle.tide_words.specs.heap.Reading.{ReadsAs}
use Rattle.tide_core.specs.machine.Duties.{StillOwes}
use Rattle.tide_words.specs.tide_layout.declared.region.Region.TheVariants as region

module _ (layout : Layout) (shapes : ShapeLists) (limits : IsWithinLimits layout)
    (empty_shape : slice_get shapes 0 ≡ Some []) (w : World) (me : ℕ) (inside : me < parties)
    (wave : RunningWave layout shapes w) (src key val place array cell : ℕ)
    (claimed : Contains ((state_after layout w.log).claims me) cell)
    (its_array : ((state_after layout w.log).cells cell).array ≡ Some array) (has : HasElement layout array place)
    (source : (state_after layout w.log).registers me src ≡ Cell cell)
    (is_place : place ≡ place_of ((state_after layout w.log).cells cell).keys key)
    (may : MayCall layout shapes w me (SetProp src key val) Done None) where
  abbrev state : State
  state = state_after layout w.log

  abbrev keys : List ℕ
  keys = (state.cells cell).keys

  abbrev value : Val
  value = state.registers me val

  abbrev word : ℕ
  word = val_word value

  abbrev idx : ℕ
  idx = index_of_element layout array place

  abbrev set : CellState
  set = record (state.cells cell) { properties = put_at (state.cells cell).properties (place_of keys key) value }

  abbrev after : State
  after = put_cell state cell set

  abbrev new : Heap
  new = write w.heap region.Elements idx word

  abbrev next_duty : Rattle.tide_core.specs.declared.machine.view.Duty.Duty
  next_duty = barrier_for cell word

  status_same : (x : ℕ) → (after.cells x).status ≡ (state.cells x).status
  status_same = put_at_elim (λ x (h : CellState). h.status ≡ (state.cells x).status) state.cells cell set refl (λ x
      apart.
      refl)

  pairs_same : (x : ℕ) → (after.cells x).pairs ≡ (state.cells x).pairs
  pairs_same = put_at_elim (λ x (h : CellState). h.pairs ≡ (state.cells x).pairs) state.cells cell set refl (λ x apart.
      refl)

  keys_same : (x : ℕ) → (after.cells x).keys ≡ (state.cells x).keys
  keys_same = put_at_elim (λ x (h : CellState). h.keys ≡ (state.cells x).keys) state.cells cell set refl (λ x apart.
      refl)

  cell_else : (x : ℕ) → x ≢ cell → after.cells x ≡ state.cells x
  cell_else = put_at_elim (λ x (h : CellState). x ≢ cell → h ≡ state.cells x) state.cells cell set (λ apart.
      absurd (apart refl)) (λ x apart other. refl)

  link_after : (x : ℕ) (at : Place) (target : ℕ) → LinkAt after x at target →
      ((x ≡ cell) × (value ≡ Cell target)) ⊎ LinkAt state x at target
  link_after x (slot n) target (is_live, is) = inr (
    sym (status_same x) ∙ is_live,
    put_at_elim (λ x (h : CellState). h.slots n ≡ Cell target → (state.cells x).slots n ≡ Cell target) state.cells cell
        set (λ e. e) (λ x apart e. e) x is,
  )
  link_after x (property n) target (is_live, below, is) =
      put_at_elim (λ x (h : CellState). IsLive state x → n < length (state.cells x).keys → h.properties n ≡ Cell target
      →
      ((x ≡ cell) × (value ≡ Cell target)) ⊎ LinkAt state x (property n) target) state.cells cell set
      (λ is_live below. put_at_elim (λ k (v : Val). k < length keys → v ≡ Cell target →
      ((cell ≡ cell) × (value ≡ Cell target)) ⊎ LinkAt state cell (property k) target) (state.cells cell).properties
      (place_of keys key) value
      (λ below e. inl (refl, e)) (λ k apart below e. inr (is_live, below, e)) n below)
      (λ x apart is_live below e. inr (is_live, below, e)) x (sym (status_same x) ∙ is_live)
      (subst (λ (l : List ℕ). n < length l) (keys_same x) below) is

  becomes : after_call state me (SetProp src key val) Done None ≡ after
  becomes = ap (λ (x : Val). at_cell state x (λ c. put_property state c key value)) source

  reads : ReadsAs layout shapes (write wave.words.settled region.Elements idx word) after
  reads = subst (ReadsAs layout shapes (write wave.words.settled region.Elements idx word)) becomes
      (call_reads layout shapes limits empty_shape w wave me (SetProp src key val) Done None
      (write wave.words.settled region.Elements idx word) may.stands
      (subst (λ (n : ℕ). Rattle.tide_call.specs.CallWords.CallWords layout shapes wave.words.settled state me
      (SetProp src key val) Done None (write wave.words.settled region.Elements (index_of_element layout array n) word))
      (sym is_place) (cell, array, source, its_array, λ other index below. refl)))

  abbrev Shown : Type 0
  Shown = ShowsCell layout shapes w me inside wave may.runner.runs may.between.duty may.between.owed may.between.growth
      (SetProp src key val) Done (λ c. refl) may.stands cell set next_duty region.Elements idx word

  shown : Shown
  shown = record {
    called = refl;
    no_period = refl;
    no_call = refl;
    no_dead = refl;
    settled = own_now layout shapes w wave me region.Elements idx (own_element cell array place claimed its_array has);
    becomes = becomes;
    reads = reads;
    alone = λ p apart own. apart (own_alone layout state (ClaimsAreOwn-lawful layout shapes w.log wave.lawful)
        wave.refs p
        me region.Elements region.Elements idx idx own (own_element cell array place claimed its_array has) refl refl);
    status = refl;
    array = refl;
    pushes_none = λ c. pushes_barrier (is_cell_word word) cell c;
    no_colour = λ c owes. colour_barrier (is_cell_word word) cell c owes;
    links = λ x at target link. elim (link_after x at target link) [
      | inl fresh ↦ inl (subst (StillOwes new next_duty) (sym fresh.0) (owes_barrier new (is_cell_word word)
          cell (cell_word_is word target (ap val_word fresh.1))))
      | inr before ↦ inr before
    ];
    beyond = λ marks x n target link past. elim (link_after x (property n) target link) [
      | inl fresh ↦
          let below = subst (λ (c : ℕ). n < length (after.cells c).keys) fresh.0 link.1 in
          let still = subst (λ (l : List ℕ). n < length l) (keys_same cell) below in
          let many = subst (λ (c : ℕ). count_of (w.heap region.Structure c) ≤ n) fresh.0 past in
          let count = (count_is layout shapes w me wave may.between.owed cell claimed).0 in
          absurd (omega (arith, still, many, count))
      | inr before ↦ (before, past)
    ];
    scans = λ p scan is k. record {
      unread = k.unread;
      array_after = k.array_after;
      grows = k.grows;
      nuked = k.nuked;
      array = k.array;
      room = k.room;
      agreed = k.agreed;
      names_live = λ first a at c is_first is_array below names. status_same c ∙
          elim (cases_eq (index_of_element layout a at) idx) [
            | inl same ↦ wave.refs.in_registers me val c may.stands.is_active (same_from_val_word value (Cell c)
                (sym (write-same w.heap region.Elements idx word) ∙ ap (new region.Elements) (sym same) ∙ names))
            | inr apart ↦ k.names_live first a at c is_first is_array below
                (sym (write-other_index w.heap region.Elements idx (index_of_element layout a at) word apart) ∙ names)
          ];
    };
    truer = λ p scan is holds. holds;
    hidden = λ p c apart is_live h. (
      (λ x at link. elim (link_after x at c link) [
        | inl fresh ↦ h.registers me val (λ e. apart (sym e)) may.stands.is_active fresh.1
        | inr before ↦ h.linked x at before
      ]),
      (λ table k is_live is. h.paired table k is_live
          (ap (λ (f : ℕ → Option Val). f k) (sym (pairs_same table)) ∙ is)),
      (λ at target link. elim (link_after c at target link) [
        | inl fresh ↦ h.claims me (subst (Contains (state.claims me)) (sym fresh.0) claimed)
        | inr before ↦ h.blank at target before
      ]),
    );
  }

  abbrev next_view : View
  next_view = later layout shapes w me inside wave may.runner.runs may.between.duty may.between.owed may.between.growth
      (SetProp src key val) Done (λ c. refl) may.stands cell set next_duty region.Elements idx word

  -- nobody owes a word of a cell that one claims, after its call
  none_owes : (at : Region) (i : ℕ) → Rattle.tide_core.specs.machine.Owed.IsOwnWord layout state me at i → (p x : ℕ) →
      Owes (put_at w.part me next_view p) at i x → ⊥
  none_owes at i own = put_at_elim (λ p u. (x : ℕ) → Owes u at i x → ⊥) w.part me next_view
      (λ x owes. nothing_in (owed_word at i x) owes)
      (λ p apart x owes. unowed layout shapes w me wave may.between.owed at i own p x owes)

  named_then : SweepsAreNamed layout new (put_at w.part me next_view) after
  named_then = named_after layout shapes w me inside wave may.runner.runs may.between.duty may.between.owed may.between.growth
      (SetProp src key val) Done (λ c. refl) may.stands cell set next_duty region.Elements idx word shown

  stands_here : (a : ℕ) → w.heap region.Array cell ≡ a + 1 → ArrayStands layout new after cell a
  stands_here a is =
      let same = array_is layout shapes w me wave may.between.owed cell claimed array its_array a is in
      array_settled layout shapes new (put_at w.part me next_view) after
      (words_after layout shapes w me inside wave may.runner.runs may.between.duty may.between.owed may.between.growth
      (SetProp src key val) Done (λ c. refl) may.stands cell set next_duty region.Elements idx word shown)
      (subst RefsAreLive becomes (RefsAreLive-call layout shapes state me (SetProp src key val) Done None wave.refs
      may.stands.is_active may.stands.answers)) cell a
      (status_same cell ∙ wave.refs.claimed me cell claimed) is
      (none_owes region.Structure cell (Rattle.tide_core.specs.machine.Owed.own_structure cell claimed))
      (none_owes region.Array cell (Rattle.tide_core.specs.machine.Owed.own_array cell claimed))
      (λ n p x has_it. none_owes region.Elements (index_of_element layout a n)
      (own_element cell a n claimed (its_array ∙ ap Some (sym same)) has_it) p x) named_then

  stands_else : (x a : ℕ) → x ≢ cell → IsLive state x → w.heap region.Array x ≡ a + 1 → ArrayStands layout new after x a
  stands_else x a apart alive is =
      let s = wave.arrays.stand x a alive is in
      record {
        own = elim s.own [
          | inl mine ↦ inl (mine.0, ap (λ (h : CellState). h.array) (cell_else x apart) ∙ mine.1)
          | inr replaced ↦ inr replaced
        ];
        few = subst (λ (l : List ℕ). count_of (w.heap region.Structure x) ≤ length l) (sym (keys_same x)) s.few;
        room = s.room;
        named = λ n below. ap (λ (h : CellState). val_word (h.properties n)) (cell_else x apart) ∙ s.named n below
            ∙ sym (write-other_index w.heap region.Elements idx (index_of_element layout a n) word (λ same.
            other_array s (index_of_element-alone layout array a place n has.element_within
            (s.room n below).element_within same).0));
      }
    where
      -- the array is another: the cell's is live, and it is its own
      other_array : ArrayStands layout w.heap state x a → a ≡ array → ⊥
      other_array s same = elim s.own [
        | inl mine ↦ apart (wave.refs.arrays_are_own x cell array alive (wave.refs.claimed me cell claimed)
            (mine.1 ∙ ap Some same) its_array)
        | inr replaced ↦
            let is_live = wave.refs.arrays_are_live cell array (wave.refs.claimed me cell claimed) its_array in
            let clash : live ≡ spent = sym is_live ∙ ap state.arrays (sym same) ∙ replaced in
            absurd (cc)
      ]

  stands : ArraysStand layout new after
  stands = record {
    stand = λ x a alive is. elim (cases_eq x cell) [
      | inl same ↦ subst (λ (c : ℕ). ArrayStands layout new after c a) (sym same)
          (stands_here a (ap (w.heap region.Array) (sym same) ∙ is))
      | inr apart ↦ stands_else x a apart (sym (status_same x) ∙ alive) is
    ];
    bare = λ x alive none. wave.arrays.bare x (sym (status_same x) ∙ alive) none;
  }

  set_kept : RunningWave layout shapes (stepped layout shapes w me (StoreElement array place word (Some (SetProp src key
      val))))
  set_kept = subst (λ (c : ℕ). RunningWave layout shapes (record {
    heap = new;
    part = put_at w.part me (record next_view { duty = barrier_for c word });
    log = next_view.seen;
  })) (sym (ap cell_named source))
      (cell_call layout shapes w me inside wave may.runner.runs may.between.duty may.between.owed may.between.growth
      (SetProp src key val) Done (λ c. refl) may.stands cell set next_duty region.Elements idx word shown stands)

pub set_property : (layout : Layout) (shapes : ShapeLists) → IsWithinLimits layout → slice_get shapes 0 ≡ Some [] →
    (w : World) (me : ℕ) → me < parties → RunningWave layout shapes w → (array place stored src key val : ℕ) →
    SetsProperty layout shapes w me array place stored src key val →
    RunningWave layout shapes (stepped layout shapes w me (StoreElement array place stored (Some (SetProp src key val))))
set_property layout shapes limits empty_shape w me inside wave array place stored src key val s =
    subst (λ (x : ℕ). RunningWave layout shapes
    (stepped layout shapes w me (StoreElement array place x (Some (SetProp src key val))))) (sym s.is_word)
    (set_kept layout shapes limits empty_shape w me inside wave src key val place array s.own.cell s.own.claimed
    s.own.is_array s.own.has s.source s.is_place s.may)
