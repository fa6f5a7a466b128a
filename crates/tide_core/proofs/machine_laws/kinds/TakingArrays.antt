-- The take of an array's free bit, at which a cell's growth begins, keeps the wave.
use Rattle.std.proofs.Common.{ℕ, suc, ◌≡◌, ◌≢◌, ◌+◌, ◌%◌, ◌<◌, ◌≤◌, ◌⊎◌, ◌==◌, refl, sym, ◌∙◌, ap, subst, arith, Bool, true, false, List, [], ◌∷◌, ◌++◌, inl, inr, length, length-append, Option, Some, None}
use Rattle.std.proofs.lemmas.Bool.{cases_eq, ne_eqb}
use Rattle.std.specs.Int.{bit_at}
use Rattle.std.specs.Prelude.{Contains, if◌then◌else◌, ◌&&◌, not, slice_get, bit_and}
use Rattle.tide_words.proofs.tide_block.BitLaws.{without_bit-is}
use Rattle.tide_call.proofs.reading_laws.ArrayRoom.{room-taken}
use Rattle.tide_call.specs.Grown.{IsGrown, is_grown_region}
use Rattle.tide_call.specs.Taken.{IsTakenBit}
use Rattle.tide_words.proofs.tide_layout.Places.{tag-injective}
use Rattle.tide_words.proofs.tide_layout.SlotPlaces.{index_of_element-alone}
use Rattle.tide_words.specs.tide_layout.Limits.{IsWithinLimits}
use Rattle.tide_words.specs.tide_layout.Region.{tag}
use Rattle.tide_words.specs.tide_layout.Slots.{HasElement, index_of_element}
use Rattle.tide_words.specs.tide_layout.declared.region.Region.{Region}
use Rattle.tide_core.proofs.machine_laws.WordLaws.{cell_word_is}
use Rattle.tide_core.proofs.machine_laws.kinds.Takes.{free_is_unowed}
use Rattle.tide_core.proofs.machine_laws.steps.Barriers.{pushes_barrier, colour_barrier, owes_barrier, awaits_barrier}
use Rattle.tide_core.proofs.machine_laws.steps.CallReadings.{call_reads}
use Rattle.tide_core.proofs.machine_laws.steps.Calls.{OfState, call_step, is_uncalled}
use Rattle.tide_core.proofs.machine_laws.steps.Claimed.{count_is}
use Rattle.tide_core.proofs.machine_laws.steps.Debts.{debts, paid, debt_cases, paid_stored, paid_else, filled, filled_else, filled_at}
use Rattle.tide_core.proofs.machine_laws.steps.Frames.{each_put, put_here, calls_view}
use Rattle.tide_core.proofs.machine_laws.steps.GrowthsKept.{growth_kept}
use Rattle.tide_core.proofs.machine_laws.steps.Lists.{nothing_in}
use Rattle.tide_core.proofs.machine_laws.steps.Owning.{own_alone}
use Rattle.tide_core.proofs.machine_laws.steps.SettledNow.{free_now}
use Rattle.tide_core.proofs.machine_laws.steps.Unsettled.{given_put, own_is_not_dead, unsettled_write, unsettles_put}
use Rattle.tide_core.specs.machine.Duties.{OwesColour, GrowsAndOwes, AwaitsLoad, StillOwes}
use Rattle.tide_core.specs.machine.Entries.{call_of, added}
use Rattle.tide_core.specs.machine.Kind.{TakeArray}
use Rattle.tide_core.specs.machine.Machine.{stepped}
use Rattle.tide_core.specs.machine.May.{MayCall, barrier_for}
use Rattle.tide_core.specs.machine.Owed.{Owes, owed_word, IsOwnWord, own_register, own_structure, own_array, own_pair, own_element}
use Rattle.tide_core.specs.machine.RunningWave.{RunningWave}
use Rattle.tide_core.specs.machine.Scanning.{Place, slot, property}
use Rattle.tide_core.specs.machine.Views.{with_entry}
use Rattle.tide_core.specs.machine.Words.{is_cell_word, is_nuked, count_of, cell_named, all_but}
use Rattle.tide_core.specs.machine.World.{World, parties, pushes}
use Rattle.tide_core.specs.declared.machine.view.Duty.{Duty}
use Rattle.tide_core.specs.declared.machine.view.Owed.{Owed}
use Rattle.tide_core.specs.declared.machine.view.View.{View}
use Rattle.tide_core.specs.machine.kinds.LoadFree.{looked_view}
use Rattle.tide_core.specs.machine.kinds.TakeArray.{TakesArray, array_at, properties_with, grown_view}
use Rattle.tide_core.specs.machine.points.Arrays.{ArrayStands, ArraysStand}
use Rattle.tide_core.specs.machine.points.Links.{LinkAt}
use Rattle.tide_core.specs.machine.points.SettledWords.{RunningWordsRead}
use Rattle.tide_model.proofs.ClaimLaws.{ClaimsAreOwn-lawful}
use Rattle.tide_model.proofs.ReferenceLaws.{put_at_elim, RefsAreLive-call}
use Rattle.tide_model.specs.Answer.{AtCell, IsAnswerUnless, IsGranted, IsTakenFor}
use Rattle.tide_model.specs.Applied.{after_call, at_cell, add_property, spend}
use Rattle.tide_model.specs.Cycle.{HasDead, dead_cell, dead_array}
use Rattle.tide_model.specs.History.{state_after}
use Rattle.tide_model.specs.Layout.{Layout, block_of_array, cell_count}
use Rattle.tide_model.specs.Numbers.{put_at}
use Rattle.tide_model.specs.References.{ClaimsAreOwn, IsLive, RefsAreLive}
use Rattle.tide_model.specs.Refused.{ShapeLists, refusal_of}
use Rattle.tide_model.specs.State.{State, CellState, Status, live, spent, dead, free}
use Rattle.tide_model.specs.declared.op.Op.{Op}
use Rattle.tide_model.specs.declared.op.Op.TheVariants.{Add}
use Rattle.tide_model.specs.declared.op.Refusal.{Refusal}
use Rattle.tide_model.specs.declared.op.Reply.TheVariants.{Done}
use Rattle.tide_model.specs.declared.val.Val.{Val}
use Rattle.tide_model.specs.declared.val.Val.TheVariants.{Cell}
use Rattle.tide_words.proofs.heap_laws.HeapLaws.{write-same, write-other_index, write-other_region}
use Rattle.tide_words.proofs.heap_laws.ReadingLaws.{live_within}
use Rattle.tide_words.specs.forms.Reference.{array_word}
use Rattle.tide_words.specs.forms.ValueWord.{val_word}
use Rattle.tide_words.specs.heap.Heap.{Heap, write}
use Rattle.tide_words.specs.heap.Reading.{ReadsAs}
use Rattle.tide_words.specs.tide_layout.declared.region.Region.TheVariants as region
use Rattle.tide_core.specs.declared.machine.view.Growth.TheVariants as growth

-- a call that took an array met no refusal
took_granted : (layout : Layout) (state : State) (who : ℕ) (op : Op) (array : ℕ) (refused : Option Refusal) →
    IsAnswerUnless refused layout state who op Done (Some array) → IsGranted layout state who op Done (Some array)
took_granted layout state who op array None granted = granted
took_granted layout state who op array (Some refusal) (none, is) = absurd (cc)

module _ (layout : Layout) (shapes : ShapeLists) (limits : IsWithinLimits layout)
    (empty_shape : slice_get shapes 0 ≡ Some []) (w : World) (me : ℕ) (inside : me < parties)
    (wave : RunningWave layout shapes w) (block k : ℕ) (few : k < 64) (old next src key val : ℕ)
    (t : TakesArray layout shapes w me block k old next src key val) where
  abbrev state : State
  state = state_after layout w.log

  abbrev cell : ℕ
  cell = t.cell

  abbrev array : ℕ
  array = array_at layout block k

  abbrev keys : List ℕ
  keys = (state.cells cell).keys

  abbrev value : Val
  value = state.registers me val

  abbrev after : State
  after = add_property state cell key value (Some array)

  abbrev grown : CellState
  grown = record (state.cells cell) {
    keys = keys ++ key ∷ [];
    properties = put_at (state.cells cell).properties (length keys) value;
    array = Some array;
  }

  abbrev read : ℕ
  read = w.heap region.Free block

  abbrev word : ℕ
  word = bit_and read (all_but k)

  abbrev new : Heap
  new = write w.heap region.Free block word

  abbrev base : Heap
  base = write wave.words.settled region.Free block word

  abbrev n : ℕ
  n = suc (length keys)

  abbrev properties : ℕ → Val
  properties = properties_with state cell value

  may : MayCall layout shapes w me (Add src key val) Done (Some array)
  may = t.may

  alive : IsLive state cell
  alive = wave.refs.claimed me cell t.claimed

  within : cell < cell_count layout
  within = live_within layout shapes wave.words.settled state cell wave.words.reads alive

  taken : IsTakenFor layout state cell (Some array)
  taken = subst (λ (v : Val). AtCell v (λ c. IsTakenFor layout state c (Some array))) t.source
      (took_granted layout state me (Add src key val) array (refusal_of layout shapes state me (Add src key val))
      may.stands.answers)

  was_free : state.arrays array ≡ free
  was_free = taken.1.is_free

  few_keys : length keys < 64
  few_keys = (let most = t.is_shape.few_keys in let l = length-append keys (key ∷ []) in omega (arith, most, l))

  has : (p : ℕ) → p < n → HasElement layout array p
  has p below = let room = room-taken layout state cell array limits taken.1 few_keys in record {
    array_within = room.0;
    element_within = (let wide = room.1 in omega (arith, wide, below));
  }

  in_block : block_of_array layout array ≡ block
  in_block = (let from = t.is_block in omega (arith, from, few))

  its_bit : array % 64 ≡ k
  its_bit = omega (arith, few)

  abbrev owed : List Owed
  owed = debts layout properties array cell next n base has

  abbrev settled : Heap
  settled = paid layout properties array cell next n base has

  -- the words of the growth, all stored
  is_grown : IsGrown layout wave.words.settled settled cell array (state.cells cell).array (length keys) t.shape value
  is_grown = record {
    others = λ at isnt index below. paid_else layout properties array cell next n base has at index
        (λ x debt. no_debt at index x isnt debt)
        ∙ write-other_region wave.words.settled region.Free at block index word (ne_eqb (tag at) (tag region.Free)
        (λ same. let r = tag-injective at region.Free same in let also = ap is_grown_region r in absurd (cc)));
    free_bit = subst (λ (b : ℕ). IsTakenBit layout wave.words.settled settled b (array % 64)) (sym in_block)
        (subst (IsTakenBit layout wave.words.settled settled block) (sym its_bit) (record {
          other_words = λ other below apart. free_word other ∙
              write-other_index wave.words.settled region.Free block other word apart;
          bits = λ other below. ap (λ (x : ℕ). bit_at x other) (free_word block ∙
              write-same wave.words.settled region.Free block word)
              ∙ without_bit-is read k few other below ∙
              ap (λ (x : ℕ). if other == k then 0 else bit_at x other) (sym same_word);
        }));
    structures = λ x below apart. write-other_index (write (filled layout properties array n base) region.Array cell
        (array_word (Some array))) region.Structure cell x next apart
        ∙ filled_else layout properties array n base region.Structure x (λ place less. refl);
    structure = write-same (write (filled layout properties array n base) region.Array cell (array_word (Some array)))
        region.Structure cell next ∙ t.is_word;
    arrays = λ x below apart. write-other_index (filled layout properties array n base) region.Array cell x
        (array_word (Some array)) apart
        ∙ filled_else layout properties array n base region.Array x (λ place less. refl);
    array = write-same (filled layout properties array n base) region.Array cell (array_word (Some array));
    elements = λ other place its apart. filled_else layout properties array n base region.Elements
        (index_of_element layout other place) (λ p less. ne_eqb (index_of_element layout other place)
        (index_of_element layout array p) (λ same. apart (index_of_element-alone layout array other p place
        (has p less).element_within its.element_within same).0));
    copied = λ source place from its below. filled_at layout properties array n base place (omega (arith, below)) has
        ∙ ap (λ (b : Bool). val_word (if b then value else (state.cells cell).properties place))
        (ne_eqb place (length keys) (λ e. omega (arith, e, below))) ∙ stands_before source place from below;
    last = filled_at layout properties array n base (length keys) (omega arith) has
        ∙ ap (λ (b : Bool). val_word (if b then value else (state.cells cell).properties (length keys)))
        (Rattle.std.proofs.lemmas.Bool.eq-eqb (length keys) (length keys) refl);
  }
    where
      same_word : wave.words.settled region.Free block ≡ read
      same_word = sym (wave.words.same region.Free block refl (λ p x owes.
          free_is_unowed layout state p block (wave.words.owns p region.Free block x owes)) (free_now layout shapes w wave block))

      free_word : (b : ℕ) → settled region.Free b ≡ base region.Free b
      free_word b = filled_else layout properties array n base region.Free b (λ place less. refl)

      no_debt : (at : Region) (index x : ℕ) → is_grown_region at ≡ false → Contains owed (owed_word at index x) → ⊥
      no_debt at index x isnt debt = elim (debt_cases layout properties array cell next n base has at index x debt) [
        | inl same ↦ (let also = ap (λ (o : Owed). is_grown_region o.region) same in absurd (cc))
        | inr more ↦ elim more [
          | inl same ↦ (let also = ap (λ (o : Owed). is_grown_region o.region) same in absurd (cc))
          | inr element ↦ (let also = ap (λ (o : Owed). is_grown_region o.region) element.2 in absurd (cc))
        ]
      ]

      stands_before : (source place : ℕ) → (state.cells cell).array ≡ Some source → place < length keys →
          val_word ((state.cells cell).properties place)
          ≡ wave.words.settled region.Elements (index_of_element layout source place)
      stands_before source place from below =
          let (a, its, has_it, held) = (wave.words.reads.parts.cells cell within).properties alive place below in
          let both = sym its ∙ from in
          let same : a ≡ source = cc in
          held.is_word ∙ ap (λ (b : ℕ). wave.words.settled region.Elements (index_of_element layout b place)) same

  becomes : after_call state me (Add src key val) Done (Some array) ≡ after
  becomes = ap (λ (x : Val). at_cell state x (λ c. add_property state c key value (Some array))) t.source

  reads : ReadsAs layout shapes settled after
  reads = subst (ReadsAs layout shapes settled) becomes
      (call_reads layout shapes limits empty_shape w wave me (Add src key val) Done (Some array) settled may.stands
      (cell, t.source, (t.shape, t.is_shape, is_grown)))

  refs : RefsAreLive after
  refs = subst RefsAreLive becomes (RefsAreLive-call layout shapes state me (Add src key val) Done (Some array)
      wave.refs
      may.stands.is_active may.stands.answers)

  abbrev later : View
  later = record (w.part me) {
    owed = owed;
    growth = growth.Filling cell array old next;
    duty = barrier_for cell (val_word value);
    known = [];
    full = [];
    seen = w.log ++ call_of me (Add src key val) Done (Some array) ∷ [];
    mine = (w.part me).mine ++ call_of me (Add src key val) Done (Some array) ∷ [];
  }

  claims_own : ClaimsAreOwn layout state
  claims_own = ClaimsAreOwn-lawful layout shapes w.log wave.lawful

  own_now : ClaimsAreOwn layout after
  own_now = record {
    of_mutators = claims_own.of_mutators;
    one_claims = claims_own.one_claims;
    once = claims_own.once;
  }

  status_same : (x : ℕ) → (after.cells x).status ≡ (state.cells x).status
  status_same = put_at_elim (λ x (h : CellState). h.status ≡ (state.cells x).status) state.cells cell grown refl
      (λ x apart. refl)

  pairs_same : (x : ℕ) → (after.cells x).pairs ≡ (state.cells x).pairs
  pairs_same = put_at_elim (λ x (h : CellState). h.pairs ≡ (state.cells x).pairs) state.cells cell grown refl
      (λ x apart. refl)

  cell_else : (x : ℕ) → x ≢ cell → after.cells x ≡ state.cells x
  cell_else x apart = ap (λ (b : Bool). if b then grown else state.cells x) (ne_eqb x cell apart)

  cell_here : after.cells cell ≡ grown
  cell_here = ap (λ (b : Bool). if b then grown else state.cells cell)
      (Rattle.std.proofs.lemmas.Bool.eq-eqb cell cell refl)

  array_here : (after.cells cell).array ≡ Some array
  array_here = ap (λ (h : CellState). h.array) cell_here

  not_its : (p c : ℕ) → p ≢ me → Contains (state.claims p) c → c ≢ cell
  not_its p c apart at e =
      apart (claims_own.one_claims p me cell (subst (Contains (state.claims p)) e at) t.claimed)

  own_still : (p : ℕ) (at : Region) (index : ℕ) → p ≢ me → IsOwnWord layout state p at index →
      IsOwnWord layout after p at index
  own_still p _ _ apart (own_register r a b) = own_register r a b
  own_still p _ _ apart (own_structure c at) = own_structure c at
  own_still p _ _ apart (own_array c at) = own_array c at
  own_still p _ _ apart (own_pair tb j at one has_it) = own_pair tb j at one has_it
  own_still p _ _ apart (own_element c a j at is has_it) =
      own_element c a j at (ap (λ (h : CellState). h.array) (cell_else c (not_its p c apart at)) ∙ is) has_it

  free_else : (h : Heap) (p : ℕ) (at : Region) (index : ℕ) → IsOwnWord layout state p at index →
      write h region.Free block word at index ≡ h at index
  free_else h p _ _ (own_register r a b) = refl
  free_else h p _ _ (own_structure c at) = refl
  free_else h p _ _ (own_array c at) = refl
  free_else h p _ _ (own_pair tb j at one has_it) = refl
  free_else h p _ _ (own_element c a j at is has_it) = refl

  -- each debt is an own word
  debt_owned : (at : Region) (index x : ℕ) → Contains owed (owed_word at index x) → IsOwnWord layout after me at index
  debt_owned at index x debt = elim (debt_cases layout properties array cell next n base has at index x debt) [
    | inl same ↦ subst (λ (o : Owed). IsOwnWord layout after me o.region o.index) same (own_structure cell t.claimed)
    | inr more ↦ elim more [
      | inl same ↦ subst (λ (o : Owed). IsOwnWord layout after me o.region o.index) same (own_array cell t.claimed)
      | inr element ↦ subst (λ (o : Owed). IsOwnWord layout after me o.region o.index) element.2
          (own_element cell array element.0 t.claimed array_here (has element.0 element.1))
    ]
  ]

  -- so no debt is another's word
  settled_else : (p : ℕ) (at : Region) (index : ℕ) → p ≢ me → IsOwnWord layout state p at index →
      settled at index ≡ wave.words.settled at index
  settled_else p at index apart own = paid_else layout properties array cell next n base has at index (λ x debt.
      apart (own_alone layout after own_now refs p me at at index index (own_still p at index apart own)
      (debt_owned at index x debt) refl refl)) ∙ free_else wave.words.settled p at index own

  words_after : RunningWordsRead layout shapes new (put_at w.part me later) after
  words_after = record {
    settled = settled;
    reads = reads;
    same = λ at index read free swept.
        ap (λ (z : ℕ). if (tag at == tag region.Free) && (index == block) then word else z)
        (wave.words.same at index read (λ p x owes. free p x (back p at index x owes))
        (unsettles_put w.part me later refl at index swept))
        ∙ sym (paid_else layout properties array cell next n base has at index (λ x debt.
        free me x (subst (λ (u : View). Owes u at index x) (sym (put_here w.part me later)) debt)));
    owed = put_at_elim (λ p u. (at : Region) (index x : ℕ) → Owes u at index x → settled at index ≡ x) w.part me later
        (paid_stored layout properties array cell next n base has)
        (λ p apart at index x owes. settled_else p at index apart (wave.words.owns p at index x owes) ∙
        wave.words.owed p at index x owes);
    given = given_put settled w.part me later refl (λ p g is gave. paid_else layout properties array cell next n base has
        region.Dead g.block (λ x debt. own_is_not_dead layout after me region.Dead g.block (debt_owned region.Dead g.block x debt)
        refl) ∙ wave.words.given p g is gave);
    known = put_at_elim (λ p u. (at : Region) (index x : ℕ) → Contains u.known (owed_word at index x) →
        settled at index ≡ x) w.part me later
        (λ at index x is. absurd (nothing_in (owed_word at index x) is))
        (λ p apart at index x is. settled_else p at index apart (wave.kept.owns p at index x is) ∙
        wave.words.known p at index x is);
    owns = put_at_elim (λ p u. (at : Region) (index x : ℕ) → Owes u at index x → IsOwnWord layout after p at index)
        w.part me later debt_owned
        (λ p apart at index x owes. own_still p at index apart (wave.words.owns p at index x owes));
  }
    where
      back : (p : ℕ) (at : Region) (index x : ℕ) → Owes (w.part p) at index x →
          Owes (put_at w.part me later p) at index x
      back = put_at_elim (λ p u. (at : Region) (index x : ℕ) → Owes (w.part p) at index x → Owes u at index x) w.part me
          later (λ at index x owes. absurd (nothing_in (owed_word at index x)
          (subst (λ (l : List Owed). Contains l (owed_word at index x)) may.between.owed owes)))
          (λ p apart at index x owes. owes)

  one_more : length (keys ++ key ∷ []) ≡ length keys + 1
  one_more = (let l = length-append keys (key ∷ []) in omega (arith, l))

  link_later : (x : ℕ) (at : Place) (target : ℕ) → LinkAt after x at target →
      ((x ≡ cell) × (value ≡ Cell target)) ⊎ LinkAt state x at target
  link_later x (slot i) target (is_live, is) = inr (
    sym (status_same x) ∙ is_live,
    put_at_elim (λ x (h : CellState). h.slots i ≡ Cell target → (state.cells x).slots i ≡ Cell target) state.cells cell
        grown (λ e. e) (λ x apart e. e) x is,
  )
  link_later x (property i) target (is_live, below, is) =
      put_at_elim (λ x (h : CellState). IsLive state x → i < length h.keys → h.properties i ≡ Cell target →
      ((x ≡ cell) × (value ≡ Cell target)) ⊎ LinkAt state x (property i) target) state.cells cell grown
      (λ is_live below. put_at_elim (λ j (v : Val). j < length (keys ++ key ∷ []) → v ≡ Cell target →
      ((cell ≡ cell) × (value ≡ Cell target)) ⊎ LinkAt state cell (property j) target) (state.cells cell).properties
      (length keys) value
      (λ below e. inl (refl, e))
      (λ j apart below e. inr (is_live, (let m = one_more in omega (arith, m, below, apart)), e)) i below)
      (λ x apart is_live below e. inr (is_live, below, e)) x (sym (status_same x) ∙ is_live) below is

  owes_now : (target : ℕ) → value ≡ Cell target → StillOwes new later.duty cell
  owes_now target is = owes_barrier new (is_cell_word (val_word value)) cell (cell_word_is (val_word value) target (ap val_word is))

  awaits_now : (target : ℕ) → value ≡ Cell target → AwaitsLoad later.duty cell
  awaits_now target is = awaits_barrier (is_cell_word (val_word value)) cell (cell_word_is (val_word value) target (ap val_word is))

  -- what becomes of an array: the taken one is live, the cell's old one spent, and no other changes
  array_cases : (a : ℕ) → ((a ≡ array) × (after.arrays a ≡ live))
      ⊎ (((state.cells cell).array ≡ Some a) × (after.arrays a ≡ spent))
      ⊎ ((a ≢ array) × ((state.cells cell).array ≢ Some a) × (after.arrays a ≡ state.arrays a))
  array_cases = put_at_elim (λ a (s : Status). ((a ≡ array) × (s ≡ live))
      ⊎ (((state.cells cell).array ≡ Some a) × (s ≡ spent))
      ⊎ ((a ≢ array) × ((state.cells cell).array ≢ Some a) × (s ≡ state.arrays a)))
      (spend state.arrays (state.cells cell).array) array live (inl (refl, refl))
      (λ a apart. by_old (state.cells cell).array a apart)
    where
      by_old : (o : Option ℕ) (a : ℕ) → a ≢ array → ((a ≡ array) × (spend state.arrays o a ≡ live))
          ⊎ ((o ≡ Some a) × (spend state.arrays o a ≡ spent))
          ⊎ ((a ≢ array) × (o ≢ Some a) × (spend state.arrays o a ≡ state.arrays a))
      by_old None a apart = inr (inr (apart, (λ e. absurd (cc)), refl))
      by_old (Some b) a apart = inr (elim (cases_eq a b) [
        | inl same ↦ inl (
          ap (λ (x : ℕ). Some x) (sym same),
          ap (λ (c : Bool). if c then spent else state.arrays a)
              (Rattle.std.proofs.lemmas.Bool.eq-eqb a b same),
        )
        | inr other ↦ inr (
          apart,
          (λ e. other (let same : b ≡ a = cc in sym same)),
          ap (λ (c : Bool). if c then spent else state.arrays a) (ne_eqb a b other),
        )
      ])

  arrays_after : (a : ℕ) → (state.arrays a ≡ live) ⊎ (state.arrays a ≡ spent) →
      (after.arrays a ≡ live) ⊎ (after.arrays a ≡ spent)
  arrays_after a was = elim (array_cases a) [
    | inl now ↦ inl now.1
    | inr more ↦ elim more [
      | inl replaced ↦ inr replaced.1
      | inr same ↦ elim was [ inl is ↦ inl (same.2 ∙ is) | inr is ↦ inr (same.2 ∙ is) ]
    ]
  ]

  -- an array that was live or spent isn't the taken one
  not_taken : (a : ℕ) → (state.arrays a ≡ live) ⊎ (state.arrays a ≡ spent) → a ≢ array
  not_taken a was same = elim was [
    | inl is ↦ (let clash : free ≡ live = sym was_free ∙ ap state.arrays (sym same) ∙ is in absurd (cc))
    | inr is ↦ (let clash : free ≡ spent = sym was_free ∙ ap state.arrays (sym same) ∙ is in absurd (cc))
  ]

  stand_after : (x a : ℕ) → IsLive after x → new region.Array x ≡ a + 1 → ArrayStands layout new after x a
  stand_after x a alive_x is = elim (cases_eq x cell) [
    | inl same ↦ subst (λ (c : ℕ). ArrayStands layout new after c a) (sym same)
        (here (ap (w.heap region.Array) (sym same) ∙ is))
    | inr apart ↦ elsewhere apart (sym (status_same x) ∙ alive_x)
  ]
    where
      -- the cell's word names its old array, which is spent now
      here : w.heap region.Array cell ≡ a + 1 → ArrayStands layout new after cell a
      here word_is =
          let s = wave.arrays.stand cell a alive word_is in
          record {
            own = inr (elim s.own [
              | inl mine ↦ elim (array_cases a) [
                | inl now ↦ absurd (not_taken a (inl mine.0) now.0)
                | inr more ↦ elim more [ inl replaced ↦ replaced.1 | inr other ↦ absurd (other.1 mine.1) ]
              ]
              | inr replaced ↦ elim (array_cases a) [
                | inl now ↦ absurd (not_taken a (inr replaced) now.0)
                | inr more ↦ elim more [ inl also ↦ also.1 | inr other ↦ other.2 ∙ replaced ]
              ]
            ]);
            few = (let told = s.few in let long = ap (λ (h : CellState). length h.keys) cell_here in
                let m = one_more in omega (arith, told, long, m));
            room = s.room;
            named = λ place below. ap (λ (h : CellState). val_word (h.properties place)) cell_here
                ∙ ap (λ (b : Bool). val_word (if b then value else (state.cells cell).properties place))
                (ne_eqb place (length keys) (λ e. let told = s.few in omega (arith, e, told, below)))
                ∙ s.named place below;
          }

      elsewhere : x ≢ cell → IsLive state x → ArrayStands layout new after x a
      elsewhere apart live_before =
          let s = wave.arrays.stand x a live_before is in
          record {
            own = elim s.own [
              | inl mine ↦ inl (
                elim (array_cases a) [
                  | inl now ↦ now.1
                  | inr more ↦ elim more [
                    | inl replaced ↦ absurd (apart (wave.refs.arrays_are_own x cell a live_before alive mine.1
                        replaced.0))
                    | inr other ↦ other.2 ∙ mine.0
                  ]
                ],
                ap (λ (h : CellState). h.array) (cell_else x apart) ∙ mine.1,
              )
              | inr replaced ↦ inr (elim (array_cases a) [
                | inl now ↦ absurd (not_taken a (inr replaced) now.0)
                | inr more ↦ elim more [ inl also ↦ also.1 | inr other ↦ other.2 ∙ replaced ]
              ])
            ];
            few = subst (λ (h : CellState). count_of (w.heap region.Structure x) ≤ length h.keys)
                (sym (cell_else x apart)) s.few;
            room = s.room;
            named = λ place below. ap (λ (h : CellState). val_word (h.properties place)) (cell_else x apart)
                ∙ s.named place below;
          }

  stands : ArraysStand layout new after
  stands = record {
    stand = stand_after;
    bare = λ x alive_x none. wave.arrays.bare x (sym (status_same x) ∙ alive_x) none;
  }

  still_dead : (b : ℕ) → HasDead layout after b → HasDead layout state b
  still_dead b (dead_cell c in_cells of_block is) = dead_cell c in_cells of_block (sym (status_same c) ∙ is)
  still_dead b (dead_array a in_arrays of_block is) = elim (array_cases a) [
    | inl now ↦ (let clash : live ≡ dead = sym now.1 ∙ is in absurd (cc))
    | inr more ↦ elim more [
      | inl replaced ↦ (let clash : spent ≡ dead = sym replaced.1 ∙ is in absurd (cc))
      | inr other ↦ dead_array a in_arrays of_block (sym other.2 ∙ is)
    ]
  ]

  old_is : w.heap region.Structure cell ≡ old
  old_is = wave.kept.known me region.Structure cell old t.knows

  of_state : OfState layout shapes w.heap w.part w.log me wave (Add src key val) Done (Some array) new later after
  of_state = record {
    words = words_after;
    refs = refs;
    alive = λ x is. status_same x ∙ is;
    arrays = arrays_after;
    scans = λ p scan is. let k = wave.scans.knows p scan is in record {
      unread = k.unread;
      array_after = k.array_after;
      grows = k.grows;
      nuked = k.nuked;
      array = k.array;
      room = k.room;
      agreed = k.agreed;
      names_live = λ first a at c x y below names. status_same c ∙ k.names_live first a at c x y below names;
    };
    links = λ x at target link black white. elim (link_later x at target link) [
      | inl fresh ↦ inl (subst (StillOwes new later.duty) (sym fresh.0) (owes_now target fresh.1))
      | inr before ↦ inr before
    ];
    beyond = λ marks x i target link past. elim (link_later x (property i) target link) [
      | inl fresh ↦ inl (subst (GrowsAndOwes later) (sym fresh.0)
          (record { grows = refl; owes = awaits_now target fresh.1 }))
      | inr before ↦ inr (before, past)
    ];
    awaited = λ c owes. absurd (colour_barrier (is_cell_word (val_word value)) cell c owes);
    growth = (
      record {
        claimed = t.claimed;
        has = array_here;
        stands = old_is;
        even = ap is_nuked (sym old_is) ∙ (count_is layout shapes w me wave may.between.owed cell t.claimed).1;
        fresh = next_is.1;
        more = (let now = next_is.0 in let before = ap count_of (sym old_is) ∙
            (count_is layout shapes w me wave may.between.owed cell t.claimed).0 in omega (arith, now, before));
        owes = (0, omega arith, refl);
      },
      (1, omega arith, refl),
    );
    growths = λ p apart. growth_kept w.heap new state after p (w.part p) (w.part p) (λ c mine. refl) (λ c mine. refl)
        (λ c at. at) (λ c a mine is. ap (λ (h : CellState). h.array) (cell_else c (not_its p c apart mine)) ∙ is)
        (λ c x o. o) (λ c x o. o) (λ i x o. o) (w.part p).growth (wave.growths.knows p);
    owns = own_still;
    hidden = λ p c apart is_live h. record {
      registers = h.registers;
      strong = h.strong;
      weak = h.weak;
      claims = h.claims;
      linked = λ x at link. elim (link_later x at c link) [
        | inl fresh ↦ h.registers me val (λ e. apart (sym e)) may.stands.is_active fresh.1
        | inr before ↦ h.linked x at before
      ];
      paired = λ table j is_live is. h.paired table j (sym (status_same table) ∙ is_live)
          (ap (λ (f : ℕ → Option Val). f j) (sym (pairs_same table)) ∙ is);
      blank = λ at target link. elim (link_later c at target link) [
        | inl fresh ↦ h.claims me (subst (Contains (state.claims me)) (sym fresh.0) t.claimed)
        | inr before ↦ h.blank at target before
      ];
    };
    stands = stands;
    inactive = each_put (λ p u. u.left ≡ not (state.active p)) w.part me later (wave.left me) wave.left;
    dead = λ b its. still_dead b its;
  }
    where
      -- the next structure's word tells one key more, and isn't nuked
      next_is : (count_of next ≡ length keys + 1) × (is_nuked next ≡ false)
      next_is = (let is = t.is_word in let most = few_keys in (
        omega (arith, is, most),
        ne_eqb (next % 2) 1 (λ e. omega (arith, is, e)),
      ))

  take_array : RunningWave layout shapes (record {
    heap = new;
    part = put_at w.part me later;
    log = w.log ++ call_of me (Add src key val) Done (Some array) ∷ [];
  })
  take_array = call_step layout shapes w.heap w.part w.log me wave (Add src key val) Done (Some array) new later record {
    inside = inside;
    runs = may.runner.runs;
    still_runs = may.runner.runs;
    uncalled = λ at index is. write-other_region w.heap region.Free at block index word
        (ne_eqb (tag at) (tag region.Free) (λ same. let r = tag-injective at region.Free same in let also =
        ap is_uncalled r in absurd (cc)));
    stands = may.stands;
    who = refl;
    seen = refl;
    mine = refl;
    marks = refl;
    cycle = refl;
    mark_version = refl;
    begun = refl;
    visits = refl;
    stopped = refl;
    period = refl;
    calls = calls_view layout w.heap new w.part me later refl (λ p. refl) wave.calls;
    held = refl;
    round = refl;
    sweeping = refl;
    saw = refl;
    cleared = refl;
    leaves = inl refl;
    dead_words = λ b. refl;
    differs = unsettled_write w.heap w.part region.Free block word (free_now layout shapes w wave block);
    scan = refl;
    known = refl;
    full = refl;
    pushes_none = λ c. (
      ap (λ (d : Duty). pushes d c) may.between.duty,
      pushes_barrier (is_cell_word (val_word value)) cell c,
    );
    grows = λ c g. absurd (subst (λ (d : Duty). AwaitsLoad d c) may.between.duty g.owes);
    barrier = λ c owes. absurd (subst (λ (d : Duty). StillOwes w.heap d c) may.between.duty owes);
    kept = λ p at index x apart is. free_else w.heap p at index (wave.kept.owns p at index x is) ∙
        wave.kept.known p at index x is;
    truer = λ p scan is holds. holds;
    born_before = λ c owes. subst (λ (d : Duty). OwesColour d c) may.between.duty owes;
    born = λ c born. absurd (cc);
    white = λ c owes. absurd (colour_barrier (is_cell_word (val_word value)) cell c owes);
    awaits = λ marks c owes. absurd (colour_barrier (is_cell_word (val_word value)) cell c owes);
    owner = wave.born.owner;
    once = λ c owes. absurd (colour_barrier (is_cell_word (val_word value)) cell c owes);
    once_others = λ p c apart. wave.born.once p c;
    state = subst (OfState layout shapes w.heap w.part w.log me wave (Add src key val) Done (Some array) new later)
        (sym becomes) of_state;
  }

  pub array_taken : (bit_at read k == 1) ≡ true →
      RunningWave layout shapes (stepped layout shapes w me (TakeArray block k old next (Some (Add src key val))))
  array_taken set = subst (λ (b : Bool). RunningWave layout shapes (record {
    heap = new;
    part = put_at w.part me (with_entry w.log
        (if b then Some (call_of me (Add src key val) Done (Some array))
        else None)
        (if b then grown_view layout state (cell_named (state.registers me src)) array value old next (w.part me)
        else looked_view w.log block read (w.part me)));
    log = added w.log (if b then Some (call_of me (Add src key val) Done (Some array)) else None);
  })) (sym set)
      (subst (λ (c : ℕ). RunningWave layout shapes (record {
        heap = new;
        part = put_at w.part me (with_entry w.log (Some (call_of me (Add src key val) Done (Some array)))
            (grown_view layout state c array value old next (w.part me)));
        log = w.log ++ call_of me (Add src key val) Done (Some array) ∷ [];
      })) (sym (ap cell_named t.source)) take_array)
