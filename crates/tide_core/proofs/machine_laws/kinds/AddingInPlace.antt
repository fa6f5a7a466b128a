-- Add stores the structure of a claimed cell whose array has room: the wave is kept.
use Rattle.std.proofs.Common.{ℕ, ◌≡◌, ◌≢◌, ◌+◌, ◌<◌, ◌≤◌, ◌⊎◌, refl, sym, ◌∙◌, ap, subst, arith, Bool, List, [], ◌∷◌, ◌++◌, inl, inr, length, length-append, Option, Some, None}
use Rattle.std.proofs.lemmas.Bool.{cases_eq, eq-eqb}
use Rattle.std.specs.Prelude.{Contains, if◌then◌else◌, ◌&&◌, slice_get}
use Rattle.tide_call.specs.CallWords.{CallWords}
use Rattle.tide_words.specs.tide_layout.Limits.{IsWithinLimits}
use Rattle.tide_words.specs.tide_layout.Slots.{index_of_element}
use Rattle.tide_words.specs.tide_layout.declared.region.Region.{Region}
use Rattle.tide_core.proofs.machine_laws.WordLaws.{cell_word_is}
use Rattle.tide_core.proofs.machine_laws.steps.Barriers.{pushes_barrier, colour_barrier, owes_barrier}
use Rattle.tide_core.proofs.machine_laws.steps.CallReadings.{call_reads}
use Rattle.tide_core.proofs.machine_laws.steps.CellCalls.{ShowsCell, cell_call, named_after, words_after, later}
use Rattle.tide_core.proofs.machine_laws.steps.Claimed.{unowed, count_is, array_is}
use Rattle.tide_core.proofs.machine_laws.steps.Colouring.{write_same}
use Rattle.tide_core.proofs.machine_laws.steps.Lists.{nothing_in}
use Rattle.tide_core.proofs.machine_laws.steps.Owning.{own_alone}
use Rattle.tide_core.proofs.machine_laws.steps.StandingArrays.{array_settled, bare_settled}
use Rattle.tide_core.proofs.machine_laws.steps.SettledNow.{own_now}
use Rattle.tide_core.specs.machine.Kind.{StoreStructure}
use Rattle.tide_core.specs.machine.Machine.{stepped}
use Rattle.tide_core.specs.machine.May.{MayCall, barrier_for}
use Rattle.tide_core.specs.machine.Owed.{Owes, owed_word, IsOwnWord, own_element, own_structure, own_array}
use Rattle.tide_core.specs.machine.RunningWave.{RunningWave}
use Rattle.tide_core.specs.machine.Scanning.{IsTrue, IsStill, Place, slot, property}
use Rattle.tide_core.specs.machine.Words.{is_cell_word, count_of, is_nuked}
use Rattle.tide_core.specs.machine.World.{World, parties}
use Rattle.tide_core.specs.declared.machine.view.Duty.{Duty}
use Rattle.tide_core.specs.declared.machine.view.Scan.{Scan}
use Rattle.tide_core.specs.declared.machine.view.View.{View}
use Rattle.tide_core.specs.machine.kinds.StoreStructure.{AddsInPlace}
use Rattle.tide_core.specs.machine.points.Sweeps.{SweepsAreNamed}
use Rattle.tide_core.specs.machine.points.Arrays.{ArrayStands, ArraysStand}
use Rattle.tide_core.specs.machine.points.Links.{LinkAt}
use Rattle.tide_core.specs.machine.points.Scans.{ScanKnows}
use Rattle.tide_model.proofs.ClaimLaws.{ClaimsAreOwn-lawful}
use Rattle.tide_model.proofs.ReferenceLaws.{put_at_elim, RefsAreLive-call}
use Rattle.tide_model.specs.Applied.{after_call, at_cell, put_cell, add_property}
use Rattle.tide_model.specs.History.{state_after}
use Rattle.tide_model.specs.Layout.{Layout}
use Rattle.tide_model.specs.Numbers.{put_at}
use Rattle.tide_model.specs.References.{IsLive, RefsAreLive}
use Rattle.tide_model.specs.Refused.{ShapeLists}
use Rattle.tide_model.specs.State.{State, CellState}
use Rattle.tide_model.specs.declared.op.Op.TheVariants.{Add}
use Rattle.tide_model.specs.declared.op.Reply.TheVariants.{Done}
use Rattle.tide_model.specs.declared.val.Val.{Val}
use Rattle.tide_model.specs.declared.val.Val.TheVariants.{Cell}
use Rattle.tide_words.proofs.heap_laws.HeapLaws.{write-same, write-other_index}
use Rattle.tide_words.specs.forms.ValueWord.{val_word}
use Rattle.tide_words.specs.heap.Heap.{Heap, write}
use Rattle.tide_words.specs.heap.Reading.{ReadsAs}
use Rattle.tide_core.specs.machine.Duties.{StillOwes}
use Rattle.tide_words.specs.tide_layout.declared.region.Region.TheVariants as region

module _ (layout : Layout) (shapes : ShapeLists) (limits : IsWithinLimits layout)
    (empty_shape : slice_get shapes 0 ≡ Some []) (w : World) (me : ℕ) (inside : me < parties)
    (wave : RunningWave layout shapes w) (cell word src key val : ℕ)
    (adds : AddsInPlace layout shapes w me cell word src key val) where
  abbrev state : State
  state = state_after layout w.log

  abbrev keys : List ℕ
  keys = (state.cells cell).keys

  abbrev added : Val
  added = state.registers me val

  abbrev element : ℕ
  element = index_of_element layout adds.array (length keys)

  abbrev longer : CellState
  longer = record (state.cells cell) {
    keys = keys ++ key ∷ [];
    properties = put_at (state.cells cell).properties (length keys) added;
  }

  abbrev after : State
  after = put_cell state cell longer

  abbrev new : Heap
  new = write w.heap region.Structure cell word

  abbrev next_duty : Duty
  next_duty = barrier_for cell (val_word added)

  may : MayCall layout shapes w me (Add src key val) Done None
  may = adds.may

  more : count_of word ≡ length keys + 1
  more = (let is = adds.is_word in let few = adds.is_shape.few_keys in
      let l = length-append keys (key ∷ []) in omega (arith, is, few, l))

  status_kept : (x : ℕ) → (after.cells x).status ≡ (state.cells x).status
  status_kept = put_at_elim (λ x (h : CellState). h.status ≡ (state.cells x).status) state.cells cell longer refl
      (λ x apart. refl)

  pairs_kept : (x : ℕ) → (after.cells x).pairs ≡ (state.cells x).pairs
  pairs_kept = put_at_elim (λ x (h : CellState). h.pairs ≡ (state.cells x).pairs) state.cells cell longer refl
      (λ x apart. refl)

  cell_else : (x : ℕ) → x ≢ cell → after.cells x ≡ state.cells x
  cell_else = put_at_elim (λ x (h : CellState). x ≢ cell → h ≡ state.cells x) state.cells cell longer (λ apart.
      absurd (apart refl)) (λ x apart other. refl)

  one_more : length (keys ++ key ∷ []) ≡ length keys + 1
  one_more = (let l = length-append keys (key ∷ []) in omega (arith, l))

  here : new region.Structure cell ≡ word
  here = write-same w.heap region.Structure cell word

  there : (x : ℕ) → x ≢ cell → new region.Structure x ≡ w.heap region.Structure x
  there x apart = write-other_index w.heap region.Structure cell x word apart

  link_after : (x : ℕ) (at : Place) (target : ℕ) → LinkAt after x at target →
      ((x ≡ cell) × (added ≡ Cell target)) ⊎ LinkAt state x at target
  link_after x (slot n) target (is_live, is) = inr (
    sym (status_kept x) ∙ is_live,
    put_at_elim (λ x (h : CellState). h.slots n ≡ Cell target → (state.cells x).slots n ≡ Cell target) state.cells cell
        longer (λ e. e) (λ x apart e. e) x is,
  )
  link_after x (property n) target (is_live, below, is) =
      put_at_elim (λ x (h : CellState). IsLive state x → n < length h.keys → h.properties n ≡ Cell target →
      ((x ≡ cell) × (added ≡ Cell target)) ⊎ LinkAt state x (property n) target) state.cells cell longer
      (λ is_live below. put_at_elim (λ k (v : Val). k < length (keys ++ key ∷ []) → v ≡ Cell target →
      ((cell ≡ cell) × (added ≡ Cell target)) ⊎ LinkAt state cell (property k) target) (state.cells cell).properties
      (length keys) added
      (λ below e. inl (refl, e))
      (λ k apart below e. inr (is_live, (let m = one_more in omega (arith, m, below, apart)), e)) n below)
      (λ x apart is_live below e. inr (is_live, below, e)) x (sym (status_kept x) ∙ is_live) below is

  -- no scan that may mark has the new word
  still_was : (x : ℕ) (first : Option ℕ) → x ≡ cell →
      ((f : ℕ) → first ≡ Some f → count_of f ≤ count_of (w.heap region.Structure x)) →
      IsStill first (new region.Structure x) → IsStill first (w.heap region.Structure x)
  still_was x None same few holds = tt
  still_was x (Some f) same few holds =
      let at_most = few f refl in
      let count = ap (λ (c : ℕ). count_of (w.heap region.Structure c)) same ∙
      (count_is layout shapes w me wave may.between.owed cell adds.claimed).0 in
      let now = ap count_of (sym here ∙ ap (new region.Structure) (sym same) ∙ holds.0) in
      let m = more in
      absurd (omega (arith, at_most, count, now, m))

  knows_after : (scan : Scan) → ScanKnows layout w.heap state scan → ScanKnows layout new after scan
  knows_after scan k = elim (cases_eq scan.cell cell) [
    | inl same ↦
        let count = ap (λ (c : ℕ). count_of (w.heap region.Structure c)) same ∙
        (count_is layout shapes w me wave may.between.owed cell adds.claimed).0 in
        let now = ap count_of (ap (new region.Structure) same ∙ here) in
        let m = more in
        record {
          unread = k.unread;
          array_after = k.array_after;
          room = k.room;
          agreed = k.agreed;
          grows = λ first is. (let g = k.grows first is in omega (arith, g, count, now, m));
          nuked = λ first is equal odd. (let g = k.grows first is in absurd (omega (arith, g, count, now, m, equal)));
          array = λ x has holds. k.array x has (still_was scan.cell scan.first same k.grows holds);
          names_live = λ first a at c x y below names. status_kept c ∙ k.names_live first a at c x y below names;
        }
    | inr apart ↦
        let same = there scan.cell apart in
        record {
          unread = k.unread;
          array_after = k.array_after;
          room = k.room;
          agreed = k.agreed;
          grows = λ first is. (let g = k.grows first is in let o = ap count_of same in omega (arith, g, o));
          nuked = λ first is equal odd. ap is_nuked same ∙ k.nuked first is (equal ∙ ap count_of same) odd;
          array = λ x has holds. k.array x has (subst (IsStill scan.first) same holds);
          names_live = λ first a at c x y below names. status_kept c ∙ k.names_live first a at c x y below names;
        }
  ]

  truer_after : (scan : Scan) → ScanKnows layout w.heap state scan → IsTrue scan (new region.Structure scan.cell) →
      IsTrue scan (w.heap region.Structure scan.cell)
  truer_after scan k holds = (
    holds.0,
    elim holds.1 [
      | inl agreed ↦ inl agreed
      | inr still ↦ inr (elim (cases_eq scan.cell cell) [
        | inl same ↦ still_was scan.cell scan.first same k.grows still
        | inr apart ↦ subst (IsStill scan.first) (there scan.cell apart) still
      ])
    ],
  )

  becomes : after_call state me (Add src key val) Done None ≡ after
  becomes = ap (λ (x : Val). at_cell state x (λ c. add_property state c key added None)) adds.source

  -- the element stands by now, so that the structure's word is the last of the call's
  stored_by_now : write wave.words.settled region.Elements element (val_word added) ≡ wave.words.settled
  stored_by_now = subst (λ (x : ℕ). write wave.words.settled region.Elements element x ≡ wave.words.settled)
      (wave.words.known me region.Elements element (val_word added) adds.stored)
      (write_same wave.words.settled region.Elements element)

  reads : ReadsAs layout shapes (write wave.words.settled region.Structure cell word) after
  reads = subst (λ (h : Heap). ReadsAs layout shapes (write h region.Structure cell word) after) stored_by_now
      (subst (ReadsAs layout shapes (write (write wave.words.settled region.Elements element (val_word added))
      region.Structure cell word)) becomes
      (call_reads layout shapes limits empty_shape w wave me (Add src key val) Done None
      (write (write wave.words.settled region.Elements element (val_word added)) region.Structure cell word) may.stands
      words))
    where
      words : CallWords layout shapes wave.words.settled state me (Add src key val) Done None
          (write (write wave.words.settled region.Elements element (val_word added)) region.Structure cell word)
      words = (
        cell,
        adds.source,
        (
          adds.array,
          adds.shape,
          write wave.words.settled region.Elements element (val_word added),
          adds.is_array,
          adds.is_shape,
          (λ other index below. refl),
          (λ other index below. ap (λ (x : ℕ). write (write wave.words.settled region.Elements element (val_word added))
              region.Structure cell x other index) adds.is_word),
        ),
      )

  abbrev Shown : Type 0
  Shown = ShowsCell layout shapes w me inside wave may.runner.runs may.between.duty may.between.owed may.between.growth
      (Add src key val) Done (λ c. refl) may.stands cell longer next_duty region.Structure cell word

  shown : Shown
  shown = record {
    called = refl;
    no_period = refl;
    no_call = refl;
    no_dead = refl;
    settled = own_now layout shapes w wave me region.Structure cell (own_structure cell adds.claimed);
    becomes = becomes;
    reads = reads;
    alone = λ p apart own. apart (own_alone layout state (ClaimsAreOwn-lawful layout shapes w.log wave.lawful)
        wave.refs p
        me region.Structure region.Structure cell cell own (own_structure cell adds.claimed) refl refl);
    status = refl;
    array = refl;
    pushes_none = λ c. pushes_barrier (is_cell_word (val_word added)) cell c;
    no_colour = λ c owes. colour_barrier (is_cell_word (val_word added)) cell c owes;
    links = λ x at target link. elim (link_after x at target link) [
      | inl fresh ↦ inl (subst (StillOwes new next_duty) (sym fresh.0) (owes_barrier new
          (is_cell_word (val_word added)) cell (cell_word_is (val_word added) target (ap val_word fresh.1))))
      | inr before ↦ inr before
    ];
    beyond = λ marks x n target link past. elim (cases_eq x cell) [
      | inl same ↦
          let below = subst (λ (c : ℕ). n < length (after.cells c).keys) same link.1 in
          let longer_is = ap (λ (b : Bool). length (if b then longer else state.cells cell).keys)
          (eq-eqb cell cell refl) in
          let many = subst (λ (c : ℕ). count_of (new region.Structure c) ≤ n) same past in
          let now = ap count_of here in
          let l = one_more in
          let m = more in
          absurd (omega (arith, below, longer_is, many, now, l, m))
      | inr apart ↦ (
        elim (link_after x (property n) target link) [
          | inl fresh ↦ absurd (apart fresh.0)
          | inr before ↦ before
        ],
        subst (λ (word : ℕ). count_of word ≤ n) (there x apart) past,
      )
    ];
    scans = λ p scan is k. knows_after scan k;
    truer = λ p scan is holds. truer_after scan (wave.scans.knows p scan is) holds;
    hidden = λ p c apart is_live h. (
      (λ x at link. elim (link_after x at c link) [
        | inl fresh ↦ h.registers me val (λ e. apart (sym e)) may.stands.is_active fresh.1
        | inr before ↦ h.linked x at before
      ]),
      (λ table k is_live is. h.paired table k is_live
          (ap (λ (f : ℕ → Option Val). f k) (sym (pairs_kept table)) ∙ is)),
      (λ at target link. elim (link_after c at target link) [
        | inl fresh ↦ h.claims me (subst (Contains (state.claims me)) (sym fresh.0) adds.claimed)
        | inr before ↦ h.blank at target before
      ]),
    );
  }

  abbrev next_view : View
  next_view = later layout shapes w me inside wave may.runner.runs may.between.duty may.between.owed may.between.growth
      (Add src key val) Done (λ c. refl) may.stands cell longer next_duty region.Structure cell word

  none_owes : (at : Region) (i : ℕ) → IsOwnWord layout state me at i → (p x : ℕ) →
      Owes (put_at w.part me next_view p) at i x → ⊥
  none_owes at i own = put_at_elim (λ p u. (x : ℕ) → Owes u at i x → ⊥) w.part me next_view
      (λ x owes. nothing_in (owed_word at i x) owes)
      (λ p apart x owes. unowed layout shapes w me wave may.between.owed at i own p x owes)

  named_then : SweepsAreNamed layout new (put_at w.part me next_view) after
  named_then = named_after layout shapes w me inside wave may.runner.runs may.between.duty may.between.owed may.between.growth
      (Add src key val) Done (λ c. refl) may.stands cell longer next_duty region.Structure cell word shown

  stands_here : (a : ℕ) → w.heap region.Array cell ≡ a + 1 → ArrayStands layout new after cell a
  stands_here a is =
      let same = array_is layout shapes w me wave may.between.owed cell adds.claimed adds.array adds.is_array a is in
      array_settled layout shapes new (put_at w.part me next_view) after
      (words_after layout shapes w me inside wave may.runner.runs may.between.duty may.between.owed may.between.growth
      (Add src key val) Done (λ c. refl) may.stands cell longer next_duty region.Structure cell word shown)
      (subst RefsAreLive becomes (RefsAreLive-call layout shapes state me (Add src key val) Done None wave.refs
      may.stands.is_active may.stands.answers)) cell a
      (status_kept cell ∙ wave.refs.claimed me cell adds.claimed) is
      (none_owes region.Structure cell (own_structure cell adds.claimed))
      (none_owes region.Array cell (own_array cell adds.claimed))
      (λ n p x has_it. none_owes region.Elements (index_of_element layout a n)
      (own_element cell a n adds.claimed (adds.is_array ∙ ap Some (sym same)) has_it) p x) named_then

  stands_else : (x a : ℕ) → x ≢ cell → IsLive state x → w.heap region.Array x ≡ a + 1 → ArrayStands layout new after x a
  stands_else x a apart alive is =
      let s = wave.arrays.stand x a alive is in
      let structure = there x apart in
      record {
        own = elim s.own [
          | inl mine ↦ inl (mine.0, ap (λ (h : CellState). h.array) (cell_else x apart) ∙ mine.1)
          | inr replaced ↦ inr replaced
        ];
        few = subst (λ (h : CellState). count_of (new region.Structure x) ≤ length h.keys) (sym (cell_else x apart))
            (subst (λ (word : ℕ). count_of word ≤ length (state.cells x).keys) (sym structure) s.few);
        room = λ n below. s.room n (subst (λ (word : ℕ). n < count_of word) structure below);
        named = λ n below. ap (λ (h : CellState). val_word (h.properties n)) (cell_else x apart)
            ∙ s.named n (subst (λ (word : ℕ). n < count_of word) structure below);
      }

  bare_here : w.heap region.Array cell ≡ 0 → count_of (new region.Structure cell) ≡ 0
  bare_here none = bare_settled layout shapes new (put_at w.part me next_view) after
      (words_after layout shapes w me inside wave may.runner.runs may.between.duty may.between.owed may.between.growth
      (Add src key val) Done (λ c. refl) may.stands cell longer next_duty region.Structure cell word shown) cell
      (status_kept cell ∙ wave.refs.claimed me cell adds.claimed) none
      (none_owes region.Structure cell (own_structure cell adds.claimed))
      (none_owes region.Array cell (own_array cell adds.claimed)) named_then

  stands : ArraysStand layout new after
  stands = record {
    stand = λ x a alive is. elim (cases_eq x cell) [
      | inl same ↦ subst (λ (c : ℕ). ArrayStands layout new after c a) (sym same)
          (stands_here a (ap (w.heap region.Array) (sym same) ∙ is))
      | inr apart ↦ stands_else x a apart (sym (status_kept x) ∙ alive) is
    ];
    bare = λ x alive none. elim (cases_eq x cell) [
      | inl same ↦ ap count_of (ap (new region.Structure) same)
          ∙ bare_here (ap (w.heap region.Array) (sym same) ∙ none)
      | inr apart ↦ ap count_of (there x apart) ∙ wave.arrays.bare x (sym (status_kept x) ∙ alive) none
    ];
  }

  pub add_in_place : RunningWave layout shapes (stepped layout shapes w me (StoreStructure cell word (Some (Add src key
      val))))
  add_in_place = cell_call layout shapes w me inside wave may.runner.runs may.between.duty may.between.owed
      may.between.growth (Add src key val) Done (λ c. refl) may.stands cell longer next_duty region.Structure cell word
      shown stands
