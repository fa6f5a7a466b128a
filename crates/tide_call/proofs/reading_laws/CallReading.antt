-- After a call the words read as what it leaves.
use Rattle.std.proofs.Common.{ℕ, ◌≡◌, ◌≢◌, ◌<◌, refl, sym, ◌∙◌, ap, subst, arith, Bool, true, false, List, [], ◌∷◌, ◌++◌, Option, Some, None, length, length-append, inl, inr}
use Rattle.std.proofs.lemmas.Bool.{eqb-true}
use Rattle.std.proofs.lemmas.Bool.Decides.{nat_tests}
use Rattle.std.proofs.lemmas.Map.Keys.{IsDistinct-head}
use Rattle.std.proofs.lemmas.List.Elements.{All-contains, All-from_recursion}
use Rattle.std.proofs.lemmas.Option.{none-some}
use Rattle.std.specs.Prelude.{◌⊎◌, ◌==◌, ◌&&◌, Contains, nat_eq, nat_le, nat_lt, not, slice_get, if◌then◌else◌}
use Rattle.std.specs.List.{IsDistinct}
use Rattle.tide_model.specs.declared.op.Op.{Op}
use Rattle.tide_model.specs.declared.op.Op.TheVariants.{Alloc, Table, Get, Put, Move, Set, Drop, Claim, Release, Unclaim, Add, GetProp, SetProp, StrongSet, StrongGet, WeakSet, WeakGet, PairSet, PairGet, PairDel, Group, Collect, Retire}
use Rattle.tide_model.specs.declared.op.Refusal.{Refusal}
use Rattle.tide_model.specs.declared.op.Refusal.TheVariants.{IsTable, NotTable, NoSlot, NotHeld, Absent, ClaimsFull}
use Rattle.tide_model.specs.declared.op.Reply.{Reply}
use Rattle.tide_model.specs.declared.op.Reply.TheVariants.{Done, Born, Seen, Asked, Refused}
use Rattle.tide_model.specs.declared.val.Val.{Val}
use Rattle.tide_model.specs.declared.val.Val.TheVariants.{Empty, Int, Cell}
use Rattle.tide_model.specs.Answer.{AtCell, IsAnswer, IsAnswerUnless, IsFreeCellOf, IsGranted, IsTakenFor}
use Rattle.tide_model.specs.Applied.{add_property, after_call, at_cell, pair_of, place_of, property_of, put_cell, put_claims, put_pair, put_property, put_register, put_slot, slot_of}
use Rattle.tide_model.specs.declared.entry.Entry.TheVariants.{Call}
use Rattle.tide_model.specs.History.{state_after}
use Rattle.tide_model.specs.Lawful.{FitsLayout}
use Rattle.tide_model.specs.Layout.{Layout, block_of_cell, cell_count, class_of, slots_of}
use Rattle.tide_model.specs.References.{ClaimsAreOwn, IsLive, RefsAreLive}
use Rattle.tide_model.specs.Refused.{ShapeLists, claims_most, first_of, has_key, held_by, holders_of, holds, is_table, pair_refusal, property_refusal, refusal_at, refusal_of, refuse_if, slot_refusal, table_class}
use Rattle.tide_model.specs.State.{State, blank_cell, is_free, live}
use Rattle.tide_model.proofs.ClaimLaws.{ClaimsAreOwn-lawful, nobody_claims}
use Rattle.tide_model.proofs.Histories.{state_after-push}
use Rattle.tide_model.proofs.NumberLaws.{contains_from_among}
use Rattle.tide_model.proofs.LawfulReferences.{RefsAreLive-lawful}
use Rattle.tide_call.specs.Laws.{CallsReadBack, HistoriesReadBack}
use Rattle.tide_model.proofs.ReferenceLaws.{after_call-refused, place_of-below}
use Rattle.tide_words.specs.tide_layout.declared.region.Region.TheVariants as region
use Rattle.tide_words.specs.tide_layout.declared.region.Region.{Region}
use Rattle.tide_words.specs.heap.Heap.{Heap, SameIn, write}
use Rattle.tide_words.proofs.heap_laws.Frames.{ReadsAs-same}
use Rattle.tide_words.specs.tide_layout.Limits.{IsWithinLimits}
use Rattle.tide_words.specs.heap.Reading.{CellReads, ReadsAs, TakenReads}
use Rattle.tide_words.specs.tide_layout.Region.{index_of_register, tag}
use Rattle.tide_words.specs.heap.Written.{IsWritten}
use Rattle.tide_words.specs.forms.ValueWord.{HasU32, val_word}
use Rattle.tide_words.proofs.tide_layout.LimitLaws.{few_cells}
use Rattle.tide_words.proofs.heap_laws.ReadingLaws.{live_within}
use Rattle.tide_words.proofs.tide_block.PlaceLaws.{block_of_cells}
use Rattle.tide_call.proofs.reading_laws.ArrayRoom.{HasElement-next, room-taken}
use Rattle.tide_call.proofs.reading_laws.BirthReading.{Reading-birth}
use Rattle.tide_call.specs.CallWords.{Adds, Bears, CallWords, Fills}
use Rattle.tide_call.proofs.reading_laws.ClaimReading.{Reading-claim, Reading-release, Reading-unclaim}
use Rattle.tide_call.proofs.reading_laws.GrowthReading.{Reading-grown}
use Rattle.tide_call.proofs.reading_laws.PairReading.{Reading-pair_gone, Reading-pair_new, Reading-pair_same}
use Rattle.tide_call.proofs.reading_laws.PropertyReading.{IsOwnArray, Reading-appended, Reading-property}
use Rattle.tide_call.proofs.reading_laws.RootReading.{Reading-register, Reading-retire, Reading-strong, Reading-weak}
use Rattle.tide_call.proofs.reading_laws.SlotReading.{Reading-group, Reading-slot}

-- what isn't refused, by the cell that its register holds
pub allowed_at : (value : Val) (register cell : ℕ) (refusal : ℕ → Option Refusal) → value ≡ Cell cell → refusal_at value register refusal ≡ None → refusal cell ≡ None
allowed_at value register cell refusal is none = subst (λ (v : Val). refusal_at v register refusal ≡ None) is none

pub slot_allowed : (layout : Layout) (value : Val) (register slot cell : ℕ) → value ≡ Cell cell → slot_refusal layout value register slot ≡ None → slot < slots_of (class_of layout cell)
slot_allowed layout value register slot cell is none = by_tests (class_of layout cell == 4) (nat_lt slot (slots_of (class_of layout cell))) refl (subst (λ (v : Val). slot_refusal layout v register slot ≡ None) is none)
  where
    by_tests : (t l : Bool) → nat_lt slot (slots_of (class_of layout cell)) ≡ l → (if t then Some IsTable else if l then None else Some (NoSlot slot)) ≡ None → slot < slots_of (class_of layout cell)
    by_tests true l e h = absurd (cc)
    by_tests false true e h = grind (arith, nat_tests)
    by_tests false false e h = absurd (cc)

-- the last of three refusals that don't come
pub third_allowed : (a b : Bool) (r s : Refusal) (c : Bool) (t : Refusal) → first_of (refuse_if a r ∷ refuse_if b s ∷ refuse_if (not c) t ∷ []) ≡ None → c ≡ true
third_allowed true b r s c t h = absurd (cc)
third_allowed false true r s c t h = absurd (cc)
third_allowed false false r s true t h = refl
third_allowed false false r s false t h = absurd (cc)

first_allowed : (a : Bool) (r : Refusal) (others : List (Option Refusal)) → first_of (refuse_if (not a) r ∷ others) ≡ None → a ≡ true
first_allowed true r others h = refl
first_allowed false r others h = absurd (cc)

only_allowed : (a : Bool) (r : Refusal) → refuse_if (not a) r ≡ None → a ≡ true
only_allowed true r h = refl
only_allowed false r h = absurd (cc)

no_holders : (holders : List ℕ) (full : Option Refusal) → first_of (held_by holders ∷ full ∷ []) ≡ None → holders ≡ []
no_holders [] full h = refl
no_holders (h ∷ hs) full e = absurd (cc)

-- two words are written, one after the other
two_writes : (layout : Layout) (old between new : Heap) (first second : Region) (index at word other : ℕ) → IsWritten layout old between first index word →
    IsWritten layout between new second at other → (region : Region) → SameIn layout region (write (write old first index word) second at other) new
two_writes layout old between new first second index at word other one two region n below =
    two region n below ∙ ap (λ (before : ℕ). if (tag region == tag second) && (n == at) then other else before) (one region n below)

module _ (layout : Layout) (shapes : ShapeLists) (heap : Heap) (state : State) (who : ℕ) (limits : IsWithinLimits layout) (empty_shape : slice_get shapes 0 ≡ Some [])
    (is_mutator : who < layout.mutators) (active : state.active who ≡ true) (refs : RefsAreLive state) (own : ClaimsAreOwn layout state) (reads : ReadsAs layout shapes heap state) where
  alive : (register cell : ℕ) → state.registers who register ≡ Cell cell → IsLive state cell
  alive register cell is = refs.in_registers who register cell active is

  inside : (cell : ℕ) → IsLive state cell → cell < cell_count layout
  inside cell is_live = live_within layout shapes heap state cell reads is_live

  fits : (register : ℕ) → register < layout.registers → HasU32 (state.registers who register)
  fits register below = (reads.roots.registers who register is_mutator below).number

  read : (cell : ℕ) → IsLive state cell → CellReads layout shapes heap cell (state.cells cell)
  read cell is_live = reads.parts.cells cell (inside cell is_live)

  taken : (cell : ℕ) → IsLive state cell → TakenReads layout shapes heap cell (state.cells cell)
  taken cell is_live = (read cell is_live).taken (ap is_free is_live)

  own_array : (cell array : ℕ) → IsLive state cell → (state.cells cell).array ≡ Some array → IsOwnArray state cell array
  own_array cell array is_live is other apart other_is_live other_is = apart (refs.arrays_are_own other cell array other_is_live is_live other_is is)

  -- other mutators don't claim what this one does
  alone : (cell : ℕ) → Contains (state.claims who) cell → (w : ℕ) → w ≢ who → Contains (state.claims w) cell → ⊥
  alone cell at w apart again = apart (own.one_claims w who cell again at)

  -- what a call leaves, told of one heap and another name of the state
  told : (new one : Heap) (after : State) → ((region : Region) → SameIn layout region one new) → ReadsAs layout shapes one after → ReadsAs layout shapes new after
  told new one after same law = ReadsAs-same layout shapes one new after (λ region read. same region) law

  at_its_cell : (new : Heap) (value : Val) (cell : ℕ) (change : ℕ → State) → value ≡ Cell cell → ReadsAs layout shapes new (change cell) → ReadsAs layout shapes new (at_cell state value change)
  at_its_cell new value cell change is law = subst (λ (v : Val). ReadsAs layout shapes new (at_cell state v change)) (sym is) law

  fill : (new : Heap) (dst : ℕ) (value : Val) → dst < layout.registers → HasU32 value → Fills layout heap who dst value new → ReadsAs layout shapes new (put_register state who dst value)
  fill new dst value below small same = told new (write heap region.Registers (index_of_register layout who dst) (val_word value)) (put_register state who dst value) same
      (Reading-register layout shapes heap state reads who dst value is_mutator below small)

  bear : (new : Heap) (dst class cell : ℕ) → dst < layout.registers → class < 5 → IsFreeCellOf layout state class cell → Bears layout heap who dst cell new →
      ReadsAs layout shapes new (put_register (put_cell state cell (blank_cell live)) who dst (Cell cell))
  bear new dst class cell below few is_one (taken, bit, same) =
      let block = block_of_cells layout class (block_of_cell cell) limits.five_cell_classes few is_one.of_class in
      let within : cell < cell_count layout = omega (arith, block) in
      let most = few_cells layout limits in
      told new (write taken region.Registers (index_of_register layout who dst) (val_word (Cell cell))) (put_register (put_cell state cell (blank_cell live)) who dst (Cell cell)) same
      (Reading-register layout shapes taken (put_cell state cell (blank_cell live))
      (Reading-birth layout shapes heap taken state cell within is_one.is_free empty_shape bit reads) who dst (Cell cell) is_mutator below (omega (arith, within, most)))

  -- a value that is seen is a u32's
  seen_slot : (value : Val) (register slot : ℕ) → ((cell : ℕ) → value ≡ Cell cell → IsLive state cell) → slot_refusal layout value register slot ≡ None → HasU32 (slot_of state value slot)
  seen_slot Empty register slot is_live none = tt
  seen_slot (Int n) register slot is_live none = tt
  seen_slot (Cell cell) register slot is_live none = ((taken cell (is_live cell refl)).slots slot (slot_allowed layout (Cell cell) register slot cell refl none)).number

  place_allowed : (register cell key : ℕ) → state.registers who register ≡ Cell cell → property_refusal layout state who register key ≡ None → place_of (state.cells cell).keys key < length (state.cells cell).keys
  place_allowed register cell key is none = place_of-below (state.cells cell).keys key (third_allowed (is_table layout cell) (not (holds state who cell)) IsTable NotHeld (has_key state cell key) Absent
      (allowed_at (state.registers who register) register cell (λ c. first_of (refuse_if (is_table layout c) IsTable ∷ refuse_if (not (holds state who c)) NotHeld ∷ refuse_if (not (has_key state c key)) Absent ∷ [])) is none))

  seen_property : (register key : ℕ) → property_refusal layout state who register key ≡ None → HasU32 (property_of state (state.registers who register) key)
  seen_property register key none = by_value (state.registers who register) refl
    where
      by_value : (value : Val) → state.registers who register ≡ value → HasU32 (property_of state value key)
      by_value Empty is = tt
      by_value (Int n) is = tt
      by_value (Cell cell) is =
          let is_live = alive register cell is in
          let (array, has_array, has, value) = (read cell is_live).properties is_live (place_of (state.cells cell).keys key) (place_allowed register cell key is none) in
          value.number

  table_allowed : (register key_register table cell : ℕ) (refusal : ℕ → ℕ → Option Refusal) → state.registers who register ≡ Cell table → state.registers who key_register ≡ Cell cell →
      pair_refusal layout state who register key_register refusal ≡ None → is_table layout table ≡ true
  table_allowed register key_register table cell refusal is_t is_k none =
      first_allowed (is_table layout table) NotTable (refuse_if (not (holds state who table)) NotHeld ∷ refusal table cell ∷ [])
      (allowed_at (state.registers who key_register) key_register cell (λ k. first_of (refuse_if (not (is_table layout table)) NotTable ∷ refuse_if (not (holds state who table)) NotHeld ∷ refusal table k ∷ [])) is_k
      (allowed_at (state.registers who register) register table (λ t. refusal_at (state.registers who key_register) key_register (λ k. first_of (refuse_if (not (is_table layout t)) NotTable ∷ refuse_if (not (holds state who t)) NotHeld ∷ refusal t k ∷ []))) is_t none))

  seen_pair : (register key_register : ℕ) (value : Val) (refusal : ℕ → ℕ → Option Refusal) → pair_refusal layout state who register key_register refusal ≡ None →
      AtCell (state.registers who register) (λ table. pair_of state table (state.registers who key_register) ≡ Some value) → HasU32 value
  seen_pair register key_register value refusal none granted = by_table (state.registers who register) refl granted
    where
      by_key : (table : ℕ) (held : Val) → state.registers who register ≡ Cell table → state.registers who key_register ≡ held → pair_of state table held ≡ Some value → HasU32 value
      by_key table Empty is is_k at = absurd (none-some value at)
      by_key table (Int n) is is_k at = absurd (none-some value at)
      by_key table (Cell key) is is_k at =
          let (place, has, pair) = ((taken table (alive register table is)).table (table_allowed register key_register table key refusal is is_k none)).stands key value at in
          pair.number

      by_table : (held : Val) → state.registers who register ≡ held → AtCell held (λ table. pair_of state table (state.registers who key_register) ≡ Some value) → HasU32 value
      by_table Empty is at = absurd at
      by_table (Int n) is at = absurd at
      by_table (Cell table) is at = by_key table (state.registers who key_register) is refl at

  add : (new : Heap) (src key val cell : ℕ) (took : Option ℕ) → val < layout.registers → state.registers who src ≡ Cell cell → IsTakenFor layout state cell took →
      Adds layout shapes heap state cell key (state.registers who val) took new → ReadsAs layout shapes new (add_property state cell key (state.registers who val) took)
  add new src key val cell None below is room (array, shape, stored, has_array, is_shape, element, structure) =
      let is_live = alive src cell is in
      told new _ (add_property state cell key (state.registers who val) None) (two_writes layout heap stored new region.Elements region.Structure _ cell _ _ element structure)
      (Reading-appended layout shapes heap state cell array (inside cell is_live) is_live has_array (own_array cell array is_live has_array) reads key shape (state.registers who val)
      (HasElement-next layout heap (state.cells cell) array has_array ((read cell is_live).properties is_live) room) is_shape (fits val below))
  add new src key val cell (Some array) below is full (shape, is_shape, grown) =
      let is_live = alive src cell is in
      let longer = length-append (state.cells cell).keys (key ∷ []) in
      let few = is_shape.few_keys in
      let room = room-taken layout state cell array limits full.1 (omega (arith, longer, few)) in
      Reading-grown layout shapes heap new state cell array key shape (state.registers who val) (inside cell is_live) is_live refs room.0 room.1 full.1.is_free is_shape (fits val below) grown reads

  -- a call that is granted
  granted-reads : (op : Op) (reply : Reply) (took : Option ℕ) (new : Heap) → FitsLayout layout op → refusal_of layout shapes state who op ≡ None → IsGranted layout state who op reply took →
      CallWords layout shapes heap state who op reply took new → ReadsAs layout shapes new (after_call state who op reply took)
  granted-reads op (Refused refusal) took new within none granted words =
      told new heap (after_call state who op (Refused refusal) took) words (subst (ReadsAs layout shapes heap) (sym (after_call-refused state who op refusal took)) reads)
  granted-reads (Alloc dst class) (Born cell) took new within none granted words = bear new dst class cell within.0 (let few = within.1 in omega (arith, few)) granted.1 words
  granted-reads (Table dst) (Born cell) took new within none granted words = bear new dst table_class cell within (omega arith) granted.1 words
  granted-reads (Get dst src slot) (Seen value) took new within none granted words =
      fill new dst value within.0 (subst HasU32 (sym granted.1) (seen_slot (state.registers who src) src slot (λ cell is. alive src cell is) none)) words
  granted-reads (Put src slot val) Done took new within none granted (cell, is, same) =
      told new _ (put_slot state (state.registers who src) slot (state.registers who val)) same
      (subst (λ (v : Val). ReadsAs layout shapes (write heap region.Slots (Rattle.tide_words.specs.tide_layout.Slots.index_of_slot layout cell slot) (val_word (state.registers who val))) (put_slot state v slot (state.registers who val))) (sym is)
      (Reading-slot layout shapes heap state cell (inside cell (alive src cell is)) (alive src cell is) reads slot (state.registers who val)
      (slot_allowed layout (state.registers who src) src slot cell is none) (fits val within.1)))
  granted-reads (Move dst src) Done took new within none granted words = fill new dst (state.registers who src) within.0 (fits src within.1) words
  granted-reads (Set dst n) Done took new within none granted words = fill new dst (Int n) within.0 within.1 words
  granted-reads (Drop dst) Done took new within none granted words = fill new dst Empty within tt words
  granted-reads (Claim src) Done took new within none granted (cell, is, same) =
      at_its_cell new (state.registers who src) cell (λ c. put_claims state who (state.claims who ++ c ∷ [])) is (told new _ (put_claims state who (state.claims who ++ cell ∷ [])) same
      (Reading-claim layout shapes heap state who cell is_mutator (inside cell (alive src cell is)) (alive src cell is) reads
      (nobody_claims layout state cell own (no_holders (holders_of layout state cell) (refuse_if (nat_le claims_most (length (state.claims who))) ClaimsFull)
      (allowed_at (state.registers who src) src cell (λ c. first_of (held_by (holders_of layout state c) ∷ refuse_if (nat_le claims_most (length (state.claims who))) ClaimsFull ∷ [])) is none)))))
  granted-reads (Release src) Done took new within none granted (cell, is, same) =
      at_its_cell new (state.registers who src) cell (λ c. put_claims state who (Rattle.std.specs.Prelude.filter (λ claimed. not (claimed == c)) (state.claims who))) is (told new _ _ same
      (Reading-release layout shapes heap state who cell is_mutator (inside cell (alive src cell is)) (alive src cell is) reads
      (alone cell (contains_from_among (state.claims who) cell (only_allowed (holds state who cell) NotHeld (allowed_at (state.registers who src) src cell (λ c. refuse_if (not (holds state who c)) NotHeld) is none))))))
  granted-reads Unclaim Done took new within none granted (cell, others, is, same) =
      told new _ _ same (Reading-unclaim layout shapes heap state who cell is_mutator (inside cell (refs.claimed who cell has)) (refs.claimed who cell has) reads others is once (alone cell has))
    where
      has : Contains (state.claims who) cell
      has = subst (λ (claims : List ℕ). Contains claims cell) (sym is) (contains_from_among (cell ∷ others) cell (ap (λ (b : Bool). Rattle.std.specs.Prelude.◌||◌ b (Rattle.tide_model.specs.Numbers.is_among others cell)) (Rattle.std.proofs.lemmas.Bool.eq-eqb cell cell refl)))

      once : Contains others cell → ⊥
      once at = (let isnt = All-contains (λ y. nat_eq cell y ≡ false) others cell (All-from_recursion (λ y. nat_eq cell y ≡ false) others (IsDistinct-head nat_eq cell others (subst (IsDistinct nat_eq) is (own.once who)))) at in
          let one = Rattle.std.proofs.lemmas.Bool.eq-eqb cell cell refl in absurd (cc))
  granted-reads (Add src key val) Done took new within none granted (cell, is, words) =
      at_its_cell new (state.registers who src) cell (λ c. add_property state c key (state.registers who val) took) is
      (add new src key val cell took within.1 is (subst (λ (v : Val). AtCell v (λ c. IsTakenFor layout state c took)) is granted) words)
  granted-reads (GetProp dst src key) (Seen value) took new within none granted words = fill new dst value within.0 (subst HasU32 (sym granted.1) (seen_property src key none)) words
  granted-reads (SetProp src key val) Done took new within none granted (cell, array, is, has_array, same) =
      at_its_cell new (state.registers who src) cell (λ c. put_property state c key (state.registers who val)) is (told new _ _ same
      (Reading-property layout shapes heap state cell array (inside cell (alive src cell is)) (alive src cell is) has_array (own_array cell array (alive src cell is) has_array) reads
      (place_of (state.cells cell).keys key) (state.registers who val) (place_allowed src cell key is none) (fits val within.1)))
  granted-reads (StrongSet at val) Done took new within none granted words = told new _ _ words (Reading-strong layout shapes heap state reads at (state.registers who val) within.0 (fits val within.1))
  granted-reads (StrongGet dst at) (Seen value) took new within none granted words = fill new dst value within.0 (subst HasU32 (sym granted.1) (reads.roots.strong at within.1).number) words
  granted-reads (WeakSet at val) Done took new within none granted words = told new _ _ words (Reading-weak layout shapes heap state reads at (state.registers who val) within.0 (fits val within.1))
  granted-reads (WeakGet dst at) (Seen value) took new within none granted words = fill new dst value within.0 (subst HasU32 (sym granted.1) (reads.roots.weak at within.1).number) words
  granted-reads (PairSet src key val) Done took new within none granted (table, cell, place, is_t, is_k, has, stood, same) =
      at_its_cell new (state.registers who src) table (λ t. at_cell state (state.registers who key) (λ c. put_pair state t c (Some (state.registers who val)))) is_t
      (at_its_cell new (state.registers who key) cell (λ c. put_pair state table c (Some (state.registers who val))) is_k (told new _ _ same (elim stood [
        | inl absent ↦ Reading-pair_new layout shapes heap state table place cell has (alive src table is_t) is_one reads (state.registers who val)
            (let most = few_cells layout limits in let below = inside cell (alive key cell is_k) in omega (arith, most, below)) (fits val within.2) absent.1.0 absent.0
        | inr (old, is_old) ↦ Reading-pair_same layout shapes heap state table place cell has (alive src table is_t) is_one reads (state.registers who val) old (fits val within.2) is_old
      ])))
    where
      is_one : is_table layout table ≡ true
      is_one = table_allowed src key table cell _ is_t is_k none
  granted-reads (PairGet dst src key) (Seen value) took new within none granted words = fill new dst value within.0 (seen_pair src key value _ none granted.1) words
  granted-reads (PairDel src key) Done took new within none granted (table, cell, place, is_t, is_k, has, (old, is_old), same) =
      at_its_cell new (state.registers who src) table (λ t. at_cell state (state.registers who key) (λ c. put_pair state t c None)) is_t
      (at_its_cell new (state.registers who key) cell (λ c. put_pair state table c None) is_k (told new _ _ same
      (Reading-pair_gone layout shapes heap state table place cell has (alive src table is_t) (table_allowed src key table cell _ is_t is_k none) reads old is_old)))
  granted-reads (Group src n) Done took new within none granted (cell, is, same) =
      at_its_cell new (state.registers who src) cell (λ c. put_cell state c (record (state.cells c) { group = n })) is (told new _ _ same
      (Reading-group layout shapes heap state cell (inside cell (alive src cell is)) (alive src cell is) reads n within.1))
  granted-reads Collect Asked took new within none granted words = told new heap state words reads
  granted-reads Retire Done took new within none granted words = told new _ _ words (Reading-retire layout shapes heap state reads who is_mutator)
  granted-reads op reply took new within none granted words = absurd granted

  -- a call that stands, refused or granted
  pub Reading-call : (op : Op) (reply : Reply) (took : Option ℕ) (new : Heap) → FitsLayout layout op → IsAnswer layout shapes state who op reply took →
      CallWords layout shapes heap state who op reply took new → ReadsAs layout shapes new (after_call state who op reply took)
  Reading-call op reply took new within answers words = step (refusal_of layout shapes state who op) refl answers
    where
      step : (refused : Option Refusal) → refusal_of layout shapes state who op ≡ refused → IsAnswerUnless refused layout state who op reply took → ReadsAs layout shapes new (after_call state who op reply took)
      step None none granted = granted-reads op reply took new within none granted words
      step (Some refusal) is answer =
          subst (λ (r : Reply). CallWords layout shapes heap state who op r took new → ReadsAs layout shapes new (after_call state who op r took)) (sym answer.1)
          (λ same. told new heap (after_call state who op (Refused refusal) took) same (subst (ReadsAs layout shapes heap) (sym (after_call-refused state who op refusal took)) reads)) words

-- all that, of a call that may be made
pub calls_read_back : CallsReadBack
calls_read_back layout shapes old new state who op reply took may refs words reads =
    Reading-call layout shapes old state who may.limits may.empty_shape may.is_mutator may.is_active refs may.claims reads
    op reply took new may.fits may.answers words

-- and of one that stands in a lawful history
pub histories_read_back : HistoriesReadBack
histories_read_back layout shapes old new before who op reply took limits empty_shape lawful stands words reads =
    subst (ReadsAs layout shapes new) (sym (state_after-push layout before (record { entry = Call who op reply; took = took })))
    (Reading-call layout shapes old (state_after layout before) who limits empty_shape stands.is_mutator stands.is_active
    (RefsAreLive-lawful layout shapes before lawful) (ClaimsAreOwn-lawful layout shapes before lawful) reads
    op reply took new stands.fits stands.answers words)
