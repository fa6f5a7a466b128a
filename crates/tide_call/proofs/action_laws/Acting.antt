-- Who carries out an action answers the call that it is of, and writes its words.
use Rattle.std.proofs.Common.{ℕ, ◌≡◌, ◌+◌, ◌<◌, refl, sym, ◌∙◌, ap, subst, Bool, true, false, List, [], ◌∷◌, length, Option, None, Some, inl, inr}
use Rattle.std.specs.Int.{bit_at}
use Rattle.std.specs.Prelude.{◌==◌, nat_le, not, if◌then◌else◌}
use Rattle.tide_words.specs.tide_layout.declared.region.Region.TheVariants as region
use Rattle.tide_words.specs.tide_layout.Slots.{HasSlot, index_of_element}
use Rattle.tide_model.specs.declared.op.Op.{Op}
use Rattle.tide_model.specs.declared.op.Op.TheVariants.{Alloc, Table, Get, Put, Move, Set, Drop, Claim, Release, Unclaim, Add, GetProp, SetProp, StrongSet, StrongGet, WeakSet, WeakGet, PairSet, PairGet, PairDel, Group, Collect, Retire}
use Rattle.tide_model.specs.declared.op.Refusal.{Refusal}
use Rattle.tide_model.specs.declared.op.Refusal.TheVariants.{Absent, ClaimsFull, Full, Held, IsTable, NotHeld}
use Rattle.tide_model.specs.declared.op.Reply.{Reply}
use Rattle.tide_model.specs.declared.op.Reply.TheVariants.{Asked, Born, Done, Refused, Seen}
use Rattle.tide_model.specs.declared.val.Val.{Val}
use Rattle.tide_model.specs.declared.val.Val.TheVariants.{Cell}
use Rattle.tide_model.specs.Answer.{AtCell, IsAnswer, IsAnswerUnless, IsGranted, IsTakenFor, next_array_class}
use Rattle.tide_model.specs.Applied.{is_array_full, pair_of, place_of, property_of, slot_of}
use Rattle.tide_model.specs.Lawful.{FitsLayout}
use Rattle.tide_model.specs.Layout.{Layout, block_of_array, block_of_cell, cell_count, class_of}
use Rattle.tide_model.specs.References.{ClaimsAreOwn, IsLive, RefsAreLive}
use Rattle.tide_model.specs.Refused.{claims_most, first_of, has_key, holds, is_table, property_refusal, refusal_of, refuse_if, slot_refusal, table_class}
use Rattle.tide_model.specs.State.{State, Status, dead, free, is_free, live, spent}
use Rattle.tide_model.proofs.ReferenceLaws.{place_of-below}
use Rattle.tide_words.specs.forms.ValueWord.{val_word}
use Rattle.tide_words.specs.heap.Heap.{Heap}
use Rattle.tide_words.specs.heap.Reading.{CellReads, IsNamedAmong, IsValueOf, ReadsAs, TakenReads, element_word}
use Rattle.tide_words.specs.heap.Written.{IsWritten}
use Rattle.tide_words.proofs.form_laws.FormLaws.{same_from_val_word}
use Rattle.tide_words.proofs.heap_laws.ReadingLaws.{live_within}
use Rattle.tide_call.specs.declared.action.Addition.{Addition}
use Rattle.tide_call.specs.declared.action.Action.{Action}
use Rattle.tide_call.specs.declared.action.Action.TheVariants as action
use Rattle.tide_call.specs.Callers.{Planner, IsCallerOf}
use Rattle.tide_words.specs.forms.Reference.{claim_word}
use Rattle.tide_call.specs.CallWords.{CallWords, Fills, HasPairAt, IsPlaceFor}
use Rattle.tide_call.specs.Grown.{IsGrown}
use Rattle.tide_call.specs.Laws.{IsClaimTold, ActionsAreCalls}
use Rattle.tide_call.specs.Actions.{DoesAdd, DoesSo, IsAddition, IsAction}
use Rattle.tide_call.specs.ActionWords.{IsFreeArrayIn, IsFreeCellIn, ActionWords}
use Rattle.tide_call.specs.ShapeWord.{whole_word}
use Rattle.tide_call.proofs.action_laws.ClaimActions.{claims_are_told}
use Rattle.tide_call.proofs.reading_laws.CallReading.{allowed_at, slot_allowed, third_allowed}

module _ (caller : Planner) (heap new : Heap) (state : State) (took : Option ℕ) (is_caller : IsCallerOf caller state)
    (active : state.active caller.who ≡ true) (refs : RefsAreLive state) (own : ClaimsAreOwn caller.layout state)
    (reads : ReadsAs caller.layout caller.shapes heap state) where
  abbrev layout : Layout
  layout = caller.layout

  abbrev who : ℕ
  who = caller.who

  -- acting answers the operation, and writes its words
  abbrev Granted : Op → Reply → Type 0
  Granted op reply = IsGranted caller.layout state caller.who op reply took × CallWords caller.layout caller.shapes heap state caller.who op reply took new

  abbrev Acts : Action → Reply → Type 0
  Acts does reply = ActionWords caller.layout heap caller.who does reply took new

  acts : (does other : Action) (reply : Reply) → does ≡ other → Acts does reply → Acts other reply
  acts does other reply same words = subst (λ (one : Action). ActionWords caller.layout heap caller.who one reply took new) same words

  alive : (register cell : ℕ) → state.registers caller.who register ≡ Cell cell → IsLive state cell
  alive register cell is = refs.in_registers caller.who register cell active is

  read : (cell : ℕ) → IsLive state cell → CellReads caller.layout caller.shapes heap cell (state.cells cell)
  read cell is_live = reads.parts.cells cell (live_within caller.layout caller.shapes heap state cell reads is_live)

  -- what was read is what the words say
  same_value : (one other : Val) (word : ℕ) → IsValueOf one word → IsValueOf other word → one ≡ other
  same_value one other word is also = same_from_val_word one other (is.is_word ∙ sym also.is_word)

  cell_free : (class cell : ℕ) → IsFreeCellIn caller.layout heap class cell → (state.cells cell).status ≡ free
  cell_free class cell is = (reads.parts.cells cell is.within).status
      ∙ ap (λ (b : ℕ). if b == 1 then free else if bit_at (heap region.Dead (block_of_cell cell)) (Rattle.std.specs.Prelude.◌%◌ cell 64) == 1 then dead else live) is.free_bit

  array_free : (class array : ℕ) → IsFreeArrayIn caller.layout heap class array → state.arrays array ≡ free
  array_free class array is = reads.parts.arrays.unnamed array is.within not_named ∙ by_bit spent
    where
      by_bit : (otherwise : Status) → Rattle.tide_words.specs.heap.Reading.array_status caller.layout heap array otherwise ≡ free
      by_bit otherwise = ap (λ (b : ℕ). if b == 1 then free else if bit_at (heap region.Dead (block_of_array caller.layout array)) (Rattle.std.specs.Prelude.◌%◌ array 64) == 1 then dead else otherwise) is.free_bit

      not_named : IsNamedAmong state.cells array → ⊥
      not_named (cell, is_live, has) = absurd (
          let was_live = sym (refs.arrays_are_live cell array is_live has) ∙ reads.parts.arrays.named array is.within (cell, is_live, has) ∙ by_bit live in cc)

  alloc : (dst class : ℕ) (reply : Reply) → Acts (action.Allocate dst class) reply → Granted (Alloc dst class) reply
  alloc dst class (Born cell) (none, is, bears) = ((none, record { of_class = is.of_class; is_free = cell_free class cell is }), bears)
  alloc dst class (Refused (Full full)) (none, same, left) = ((none, same), left)
  alloc dst class reply words = absurd words

  table : (dst : ℕ) (reply : Reply) → Acts (action.Allocate dst table_class) reply → Granted (Table dst) reply
  table dst (Born cell) (none, is, bears) = ((none, record { of_class = is.of_class; is_free = cell_free table_class cell is }), bears)
  table dst (Refused (Full full)) (none, same, left) = ((none, same), left)
  table dst reply words = absurd words

  get : (dst src slot cell : ℕ) → state.registers caller.who src ≡ Cell cell →
      slot_refusal caller.layout (state.registers caller.who src) src slot ≡ None → (reply : Reply) →
      Acts (action.LoadSlot dst cell slot) reply → Granted (Get dst src slot) reply
  get dst src slot cell is granted (Seen value) (none, is_value, filled) =
      let below = slot_allowed caller.layout (state.registers caller.who src) src slot cell is granted in
      let is_live = alive src cell is in (
        (
          none,
          same_value value ((state.cells cell).slots slot) _ is_value (((read cell is_live).taken (ap is_free is_live)).slots slot below)
              ∙ ap (λ (v : Val). slot_of state v slot) (sym is),
        ),
        filled,
      )
  get dst src slot cell is granted reply words = absurd words

  put : (src slot val cell : ℕ) → state.registers caller.who src ≡ Cell cell → (reply : Reply) →
      Acts (action.StoreSlot cell slot (state.registers caller.who val)) reply → Granted (Put src slot val) reply
  put src slot val cell is Done (none, written) = (none, (cell, is, written))
  put src slot val cell is reply words = absurd words

  move : (dst src : ℕ) (reply : Reply) → Acts (action.Fill dst (state.registers caller.who src)) reply → Granted (Move dst src) reply
  move dst src Done (none, filled) = (none, filled)
  move dst src reply words = absurd words

  set : (dst n : ℕ) (reply : Reply) → Acts (action.Fill dst (Rattle.tide_model.specs.declared.val.Val.TheVariants.Int n)) reply → Granted (Set dst n) reply
  set dst n Done (none, filled) = (none, filled)
  set dst n reply words = absurd words

  drop_value : (dst : ℕ) (reply : Reply) → Acts (action.Fill dst Rattle.tide_model.specs.declared.val.Val.TheVariants.Empty) reply → Granted (Drop dst) reply
  drop_value dst Done (none, filled) = (none, filled)
  drop_value dst reply words = absurd words

  release : (src cell : ℕ) → state.registers caller.who src ≡ Cell cell → (reply : Reply) → Acts (action.Release cell) reply → Granted (Release src) reply
  release src cell is Done (none, written) = (none, (cell, is, written))
  release src cell is reply words = absurd words

  unclaim : (cell : ℕ) (others : List ℕ) → caller.claims ≡ cell ∷ others → (reply : Reply) → Acts (action.Release cell) reply → Granted Unclaim reply
  unclaim cell others is Done (none, written) = (none, (cell, others, is_caller.claims ∙ is, written))
  unclaim cell others is reply words = absurd words

  get_property : (dst src key cell array : ℕ) → state.registers caller.who src ≡ Cell cell → (state.cells cell).array ≡ Some array →
      property_refusal caller.layout state caller.who src key ≡ None → (reply : Reply) →
      Acts (action.LoadElement dst array (place_of (state.cells cell).keys key)) reply → Granted (GetProp dst src key) reply
  get_property dst src key cell array is has granted (Seen value) (none, is_value, filled) =
      let place = place_of (state.cells cell).keys key in
      let below = place_of-below (state.cells cell).keys key (third_allowed (is_table caller.layout cell) (not (holds state caller.who cell)) IsTable NotHeld (has_key state cell key) Absent
      (allowed_at (state.registers caller.who src) src cell (λ c. first_of (refuse_if (is_table caller.layout c) IsTable ∷ refuse_if (not (holds state caller.who c)) NotHeld ∷ refuse_if (not (has_key state c key)) Absent ∷ [])) is granted)) in
      let is_live = alive src cell is in
      let (other, own_array, inside, stands) = (read cell is_live).properties is_live place below in
      let here : IsValueOf ((state.cells cell).properties place) (element_word caller.layout heap array place) =
      subst (λ (a : ℕ). IsValueOf ((state.cells cell).properties place) (element_word caller.layout heap a place))
      (Rattle.std.proofs.lemmas.Option.same_Some other array (sym own_array ∙ has)) stands in
      ((none, same_value value ((state.cells cell).properties place) _ is_value here ∙ ap (λ (v : Val). property_of state v key) (sym is)), filled)
  get_property dst src key cell array is has granted reply words = absurd words

  set_property : (src key val cell array : ℕ) → state.registers caller.who src ≡ Cell cell → (state.cells cell).array ≡ Some array → (reply : Reply) →
      Acts (action.StoreElement cell array (place_of (state.cells cell).keys key) (state.registers caller.who val)) reply → Granted (SetProp src key val) reply
  set_property src key val cell array is has Done (none, written) = (none, (cell, array, is, has, written))
  set_property src key val cell array is has reply words = absurd words

  at_cell_of : (src cell : ℕ) (holds : ℕ → Type 0) → state.registers caller.who src ≡ Cell cell → holds cell → AtCell (state.registers caller.who src) holds
  at_cell_of src cell holds is here = subst (λ (v : Val). AtCell v holds) (sym is) here

  append : (src key val array : ℕ) (addition : Addition) → state.registers caller.who src ≡ Cell addition.cell → IsAddition caller state key addition →
      (state.cells addition.cell).array ≡ Some array → is_array_full (state.cells addition.cell) ≡ false → (reply : Reply) →
      Acts (action.Append addition array (state.registers caller.who val)) reply → Granted (Add src key val) reply
  append src key val array addition is of has room Done (none, (stored, element, structure)) = (
    at_cell_of src addition.cell (λ c. IsTakenFor caller.layout state c took) is (subst (λ (t : Option ℕ). IsTakenFor caller.layout state addition.cell t) (sym none) room),
    (
      addition.cell,
      is,
      subst (λ (t : Option ℕ). Rattle.tide_call.specs.CallWords.Adds caller.layout caller.shapes heap state addition.cell key (state.registers caller.who val) t new) (sym none) (
        array,
        addition.next,
        stored,
        has,
        of.after,
        subst (λ (count : ℕ). IsWritten caller.layout heap stored region.Elements (index_of_element caller.layout array count) (val_word (state.registers caller.who val))) of.is_count element,
        subst (λ (count : ℕ). IsWritten caller.layout stored new region.Structure addition.cell (whole_word addition.next (count + 1))) of.is_count structure,
      ),
    ),
  )
  append src key val array addition is of has room reply words = absurd words

  grow : (src key val class : ℕ) (array : Option ℕ) (addition : Addition) → state.registers caller.who src ≡ Cell addition.cell →
      IsAddition caller state key addition → (state.cells addition.cell).array ≡ array →
      is_array_full (state.cells addition.cell) ≡ true → class ≡ next_array_class state addition.cell → (reply : Reply) →
      Acts (action.Grow addition array class (state.registers caller.who val)) reply → Granted (Add src key val) reply
  grow src key val class array addition is of has full is_class (Refused (Full other)) (none, same, left) =
      ((none, at_cell_of src addition.cell (λ c. (is_array_full (state.cells c) ≡ true) × (other ≡ next_array_class state c)) is (full, same ∙ is_class)), left)
  grow src key val class array addition is of has full is_class Done words = by_took took words
    where
      by_took : (took : Option ℕ) → ActionWords caller.layout heap caller.who (action.Grow addition array class (state.registers caller.who val)) Done took new →
          IsGranted caller.layout state caller.who (Add src key val) Done took × CallWords caller.layout caller.shapes heap state caller.who (Add src key val) Done took new
      by_took None words = absurd words
      by_took (Some taken) (is_one, grown) = (
        at_cell_of src addition.cell (λ c. IsTakenFor caller.layout state c (Some taken)) is (
          full,
          record {
            of_class = subst (λ (k : ℕ). Rattle.tide_model.specs.Layout.IsBlockOf caller.layout k (block_of_array caller.layout taken)) is_class is_one.of_class;
            is_free = array_free class taken is_one;
          },
        ),
        (
          addition.cell,
          is,
          (
            addition.next,
            of.after,
            subst (λ (count : ℕ). IsGrown caller.layout heap new addition.cell taken (state.cells addition.cell).array count addition.next (state.registers caller.who val)) of.is_count
                (subst (λ (from : Option ℕ). IsGrown caller.layout heap new addition.cell taken from addition.count addition.next (state.registers caller.who val)) (sym has) grown),
          ),
        ),
      )
  grow src key val class array addition is of has full is_class reply words = absurd words

  add : (src key val : ℕ) (addition : Addition) (does : Action) → state.registers caller.who src ≡ Cell addition.cell → IsAddition caller state key addition →
      DoesAdd caller state addition (state.registers caller.who val) does → (reply : Reply) → Acts does reply → Granted (Add src key val) reply
  add src key val addition does is of (inl (array, room, same)) reply words =
      append src key val array addition is of room.is_its room.not_full reply (acts does _ reply same words)
  add src key val addition does is of (inr (class, array, needs, same)) reply words =
      grow src key val class array addition is of needs.is_its needs.full needs.is_class reply (acts does _ reply same words)

  set_strong : (at val : ℕ) (reply : Reply) → Acts (action.StoreStrong at (state.registers caller.who val)) reply → Granted (StrongSet at val) reply
  set_strong at val Done (none, written) = (none, written)
  set_strong at val reply words = absurd words

  get_strong : (dst at : ℕ) → at < caller.layout.strong → (reply : Reply) → Acts (action.LoadStrong dst at) reply → Granted (StrongGet dst at) reply
  get_strong dst at below (Seen value) (none, is_value, filled) = ((none, same_value value (state.strong at) _ is_value (reads.roots.strong at below)), filled)
  get_strong dst at below reply words = absurd words

  set_weak : (at val : ℕ) (reply : Reply) → Acts (action.StoreWeak at (state.registers caller.who val)) reply → Granted (WeakSet at val) reply
  set_weak at val Done (none, written) = (none, written)
  set_weak at val reply words = absurd words

  get_weak : (dst at : ℕ) → at < caller.layout.weak → (reply : Reply) → Acts (action.LoadWeak dst at) reply → Granted (WeakGet dst at) reply
  get_weak dst at below (Seen value) (none, is_value, filled) = ((none, same_value value (state.weak at) _ is_value (reads.roots.weak at below)), filled)
  get_weak dst at below reply words = absurd words

  set_pair : (src key val table_cell cell place : ℕ) → state.registers caller.who src ≡ Cell table_cell → state.registers caller.who key ≡ Cell cell →
      HasSlot caller.layout table_cell place → IsPlaceFor caller.layout heap state table_cell place cell → (reply : Reply) →
      Acts (action.StorePair table_cell place cell (state.registers caller.who val)) reply → Granted (PairSet src key val) reply
  set_pair src key val table_cell cell place is_t is_k has stood Done (none, written) = (none, (table_cell, cell, place, is_t, is_k, has, stood, written))
  set_pair src key val table_cell cell place is_t is_k has stood reply words = absurd words

  get_pair : (dst src key table_cell cell place : ℕ) (value : Val) → state.registers caller.who src ≡ Cell table_cell → state.registers caller.who key ≡ Cell cell →
      (state.cells table_cell).pairs cell ≡ Some value → (reply : Reply) → Acts (action.Show dst table_cell place value) reply → Granted (PairGet dst src key) reply
  get_pair dst src key table_cell cell place value is_t is_k has (Seen seen) (none, same, filled) = (
    (
      none,
      at_cell_of src table_cell (λ t. pair_of state t (state.registers caller.who key) ≡ Some seen) is_t
          (ap (λ (v : Val). pair_of state table_cell v) is_k ∙ has ∙ ap (λ (v : Val). Some v) (sym same)),
    ),
    subst (λ (v : Val). Fills caller.layout heap caller.who dst v new) (sym same) filled,
  )
  get_pair dst src key table_cell cell place value is_t is_k has reply words = absurd words

  clear_pair : (src key table_cell cell place : ℕ) → state.registers caller.who src ≡ Cell table_cell → state.registers caller.who key ≡ Cell cell →
      HasSlot caller.layout table_cell place → HasPairAt caller.layout heap table_cell place cell → (reply : Reply) →
      Acts (action.ClearPair table_cell place) reply → Granted (PairDel src key) reply
  clear_pair src key table_cell cell place is_t is_k has stood Done (none, written) = (none, (table_cell, cell, place, is_t, is_k, has, stood, written))
  clear_pair src key table_cell cell place is_t is_k has stood reply words = absurd words

  join : (src n cell : ℕ) → state.registers caller.who src ≡ Cell cell → (reply : Reply) → Acts (action.Join cell n) reply → Granted (Group src n) reply
  join src n cell is Done (none, written) = (none, (cell, is, written))
  join src n cell is reply words = absurd words

  ask : (reply : Reply) → Acts action.Ask reply → Granted Collect reply
  ask Asked (none, left) = (none, left)
  ask reply words = absurd words

  retire : caller.claims ≡ [] → (reply : Reply) → Acts action.Retire reply → Granted Retire reply
  retire none Done (no_array, written) = ((no_array, is_caller.claims ∙ none), written)
  retire none reply words = absurd words

  -- of an operation that nothing refuses
  granted-acts : (op : Op) (does : Action) (reply : Reply) → FitsLayout caller.layout op → (op ≡ Retire → caller.claims ≡ []) →
      refusal_of caller.layout caller.shapes state caller.who op ≡ None → DoesSo caller heap state op does → Acts does reply → Granted op reply
  granted-acts (Alloc dst class) does reply fits spare none is words = alloc dst class reply (acts does _ reply is words)
  granted-acts (Table dst) does reply fits spare none is words = table dst reply (acts does _ reply is words)
  granted-acts (Get dst src slot) does reply fits spare none (cell, holds, has, is) words = get dst src slot cell holds none reply (acts does _ reply is words)
  granted-acts (Put src slot val) does reply fits spare none (cell, holds, has, is) words = put src slot val cell holds reply (acts does _ reply is words)
  granted-acts (Move dst src) does reply fits spare none is words = move dst src reply (acts does _ reply is words)
  granted-acts (Set dst n) does reply fits spare none is words = set dst n reply (acts does _ reply is words)
  granted-acts (Drop dst) does reply fits spare none is words = drop_value dst reply (acts does _ reply is words)
  granted-acts (Claim src) does reply fits spare none is words = absurd is
  granted-acts (Release src) does reply fits spare none (cell, holds, is) words = release src cell holds reply (acts does _ reply is words)
  granted-acts Unclaim does reply fits spare none (cell, others, are, is) words = unclaim cell others are reply (acts does _ reply is words)
  granted-acts (Add src key val) does reply fits spare none (addition, holds, of, so) words = add src key val addition does holds of so reply words
  granted-acts (GetProp dst src key) does reply fits spare none (cell, array, holds, has, inside, is) words =
      get_property dst src key cell array holds has none reply (acts does _ reply is words)
  granted-acts (SetProp src key val) does reply fits spare none (cell, array, holds, has, inside, is) words =
      set_property src key val cell array holds has reply (acts does _ reply is words)
  granted-acts (StrongSet at val) does reply fits spare none is words = set_strong at val reply (acts does _ reply is words)
  granted-acts (StrongGet dst at) does reply fits spare none is words = get_strong dst at fits.1 reply (acts does _ reply is words)
  granted-acts (WeakSet at val) does reply fits spare none is words = set_weak at val reply (acts does _ reply is words)
  granted-acts (WeakGet dst at) does reply fits spare none is words = get_weak dst at fits.1 reply (acts does _ reply is words)
  granted-acts (PairSet src key val) does reply fits spare none (table_cell, cell, place, is_t, is_k, has, stood, is) words =
      set_pair src key val table_cell cell place is_t is_k has stood reply (acts does _ reply is words)
  granted-acts (PairGet dst src key) does reply fits spare none (table_cell, cell, place, value, is_t, is_k, slot, pair, has, is) words =
      get_pair dst src key table_cell cell place value is_t is_k has reply (acts does _ reply is words)
  granted-acts (PairDel src key) does reply fits spare none (table_cell, cell, place, is_t, is_k, has, stood, is) words =
      clear_pair src key table_cell cell place is_t is_k has stood reply (acts does _ reply is words)
  granted-acts (Group src n) does reply fits spare none (cell, holds, is) words = join src n cell holds reply (acts does _ reply is words)
  granted-acts Collect does reply fits spare none is words = ask reply (acts does _ reply is words)
  granted-acts Retire does reply fits spare none is words = retire (spare refl) reply (acts does _ reply is words)

  -- an answer of an operation by its first refusal, if it has one
  abbrev Answered : Op → Reply → Type 0
  Answered op reply = IsAnswer caller.layout caller.shapes state caller.who op reply took × CallWords caller.layout caller.shapes heap state caller.who op reply took new

  unless : (op : Op) (reply : Reply) (refused : Option Refusal) → refusal_of caller.layout caller.shapes state caller.who op ≡ refused →
      IsAnswerUnless refused caller.layout state caller.who op reply took → IsAnswer caller.layout caller.shapes state caller.who op reply took
  unless op reply refused is answer = subst (λ (r : Option Refusal). IsAnswerUnless r caller.layout state caller.who op reply took) (sym is) answer

  told : (src cell : ℕ) → state.registers caller.who src ≡ Cell cell → IsClaimTold caller.layout caller.shapes heap state caller.who src cell
  told src cell is = claims_are_told caller.layout caller.shapes heap state caller.who src cell own reads is (is_caller.cells src cell is)

  free_word : (src cell : ℕ) (full : Bool) → state.registers caller.who src ≡ Cell cell → full ≡ nat_le claims_most (length caller.claims) →
      heap region.Claim cell ≡ claim_word None → refusal_of caller.layout caller.shapes state caller.who (Claim src) ≡ refuse_if full ClaimsFull
  free_word src cell full is is_full word =
      (told src cell is).free word
      ∙ ap (λ (claims : List ℕ). refuse_if (nat_le claims_most (length claims)) ClaimsFull) is_caller.claims
      ∙ ap (λ (b : Bool). refuse_if b ClaimsFull) (sym is_full)

  claim : (src cell : ℕ) (full : Bool) → state.registers caller.who src ≡ Cell cell → full ≡ nat_le claims_most (length caller.claims) → (reply : Reply) →
      Acts (action.Claim cell full) reply → Answered (Claim src) reply
  claim src cell full is is_full (Refused (Held holder)) (none, word, left) =
      (unless (Claim src) (Refused (Held holder)) (Some (Held holder)) ((told src cell is).held holder word) (none, refl), left)
  claim src cell full is is_full (Refused ClaimsFull) (none, word, full_now, left) =
      (unless (Claim src) (Refused ClaimsFull) (Some ClaimsFull) (free_word src cell full is is_full word ∙ ap (λ (b : Bool). refuse_if b ClaimsFull) full_now) (none, refl), left)
  claim src cell full is is_full Done (none, word, room, written) =
      (unless (Claim src) Done None (free_word src cell full is is_full word ∙ ap (λ (b : Bool). refuse_if b ClaimsFull) room) none, (cell, is, written))
  claim src cell full is is_full reply words = absurd words

  step : (op : Op) (does : Action) (reply : Reply) → FitsLayout caller.layout op → (op ≡ Retire → caller.claims ≡ []) →
      IsAction caller heap state op does → Acts does reply → Answered op reply
  step op (action.Refuse refusal) (Refused other) fits spare is (none, same, left) =
      (unless op (Refused other) (Some refusal) is (none, ap Refused same), left)
  step op (action.Refuse refusal) reply fits spare is words = absurd words
  step (Claim src) (action.Claim cell full) reply fits spare is words = claim src cell full is.0 is.1 reply words
  step op does reply fits spare is words =
      let both = granted-acts op does reply fits spare is.0 is.1 words in (unless op reply None is.0 both.0, both.1)

pub actions_are_calls : ActionsAreCalls
actions_are_calls caller heap new state op does reply took fits is_caller active spare refs own reads is words =
    step caller heap new state took is_caller active refs own reads op does reply fits spare is words
