-- PairSet, PairDel and PairGet: the step on the pair's word makes the call.
use Rattle.std.proofs.Common.{ℕ, ◌≡◌, refl, sym, ◌∙◌, ap, subst, arith, Bool, true, false, List, [], ◌∷◌, None, Option, Some, inl, inr}
use Rattle.std.specs.Prelude.{◌&&◌, nat_le, not}
use Rattle.tide_heap.specs.tide_call.CallWords.{HasPairAt, IsPlaceFor}
use Rattle.tide_heap.specs.tide_call.Callers.{Planner}
use Rattle.tide_heap.specs.tide_call.ActionWords.{ActionWords}
use Rattle.tide_heap.specs.tide_call.Actions.{IsAction}
use Rattle.tide_heap.specs.tide_call.declared.action.Action.TheVariants as action
use Rattle.tide_heap.specs.tide_layout.Region.{index_of_register}
use Rattle.tide_heap.specs.tide_layout.Slots.{HasSlot, index_of_slot}
use Rattle.tide_heap.specs.tide_layout.declared.region.Region.TheVariants as region
use Rattle.tide_heap.proofs.tide_core.machine_laws.WordLaws.{value_of_pair_word}
use Rattle.tide_heap.specs.tide_core.machine.Kind.{LoadPair, StorePair}
use Rattle.tide_heap.specs.tide_core.machine.May.{MayCall, called}
use Rattle.tide_heap.specs.tide_core.machine.Moment.{Moment}
use Rattle.tide_heap.specs.tide_core.machine.Owed.{filled_register, own_pair, owed_register}
use Rattle.tide_heap.specs.tide_core.machine.RunningWave.{RunningWave}
use Rattle.tide_heap.specs.tide_core.machine.Words.{value_of_pair}
use Rattle.tide_heap.specs.tide_core.machine.World.{World}
use Rattle.tide_heap.specs.tide_core.declared.machine.view.Duty.TheVariants.{Nothing}
use Rattle.tide_heap.specs.tide_core.declared.machine.view.View.{View}
use Rattle.tide_heap.specs.tide_core.machine.kinds.StorePlainWord.{IsOwnPair, MayLoadPair, MayStorePair, paired_view}
use Rattle.tide_model.proofs.NumberLaws.{contains_from_among}
use Rattle.tide_model.specs.History.{state_after}
use Rattle.tide_model.specs.Layout.{Layout}
use Rattle.tide_model.specs.Refused.{ShapeLists, first_of, has_pair, holds, is_table, pair_count, pair_refusal, pairs_most, refusal_at, refuse_if}
use Rattle.tide_model.specs.State.{State}
use Rattle.tide_model.specs.declared.entry.Event.{Event}
use Rattle.tide_model.specs.declared.op.Op.{Op}
use Rattle.tide_model.specs.declared.op.Op.TheVariants.{Add, Claim, PairDel, PairGet, PairSet}
use Rattle.tide_model.specs.declared.op.Refusal.{Refusal}
use Rattle.tide_model.specs.declared.op.Refusal.TheVariants.{Absent, NotHeld, NotTable, PairsFull}
use Rattle.tide_model.specs.declared.op.Reply.TheVariants.{Done, Seen}
use Rattle.tide_model.specs.declared.val.Val.{Val}
use Rattle.tide_model.specs.declared.val.Val.TheVariants.{Cell}
use Rattle.tide_mutator.proofs.owed_laws.Entering.{made_by, may_call, none_born}
use Rattle.tide_mutator.proofs.cells_laws.OwnFound.{own_found}
use Rattle.tide_mutator.proofs.owed_laws.Standing.{moment_in, stands_then}
use Rattle.tide_mutator.specs.owed.Calling.{IsCalling}
use Rattle.tide_mutator.specs.owed.Made.{HasMade}
use Rattle.tide_mutator.specs.owed.Standing.{IsPlanned, caller_of}
use Rattle.tide_heap.specs.steps.Follows.{Follows, FollowsSome, MayStep}
use Rattle.tide_heap.specs.tide_words.forms.PairWord.{pair_word}
use Rattle.tide_heap.specs.tide_words.forms.ValueWord.{val_word}
use Rattle.tide_heap.specs.tide_words.heap.Heap.{Heap, write}
use Rattle.tide_heap.specs.tide_words.heap.Reading.{IsPairOf, slot_word}

-- the value in a pair's word
pair_value : (key : ℕ) (value : Val) (word : ℕ) → IsPairOf key value word → value_of_pair word ≡ value
pair_value key value word is = ap value_of_pair (sym is.is_word) ∙ value_of_pair_word key value is.number

-- the table of an operation that nothing refuses: the mutator claims it
record HasTable (caller : Planner) (state : State) (src register table key : ℕ) : Type 0 where
  source : state.registers caller.who src ≡ Cell table
  is_key : state.registers caller.who register ≡ Cell key
  is_one : is_table caller.layout table ≡ true
  held : holds state caller.who table ≡ true

has_table : (caller : Planner) (state : State) (src register table key : ℕ) (further : ℕ → ℕ → Option Refusal) →
    state.registers caller.who src ≡ Cell table → state.registers caller.who register ≡ Cell key →
    pair_refusal caller.layout state caller.who src register further ≡ None →
    HasTable caller state src register table key
has_table caller state src register table key further source is_key none =
    let both = by_tests (is_table caller.layout table) (holds state caller.who table)
    (subst (λ (k : Val). refusal_at k register (λ cell. first_of (refuse_if (not (is_table caller.layout table)) NotTable
    ∷ refuse_if (not (holds state caller.who table)) NotHeld ∷ further table cell ∷ [])) ≡ None) is_key
    (subst (λ (t : Val). refusal_at t src (λ one. refusal_at (state.registers caller.who register) register (λ cell.
    first_of (refuse_if (not (is_table caller.layout one)) NotTable
    ∷ refuse_if (not (holds state caller.who one)) NotHeld ∷ further one cell ∷ []))) ≡ None) source none)) in
    record { source = source; is_key = is_key; is_one = both.0; held = both.1 }
  where
    by_tests : (t h : Bool) → first_of (refuse_if (not t) NotTable ∷ refuse_if (not h) NotHeld ∷ further table key ∷ []) ≡ None →
        (t ≡ true) × (h ≡ true)
    by_tests true true is = (refl, refl)
    by_tests true false is = absurd (cc)
    by_tests false h is = absurd (cc)

-- which operation has such an action
record IsSet (caller : Planner) (heap : Heap) (state : State) (op : Op) (table place key : ℕ) (value : Val) : Type 0 where
  src : ℕ
  register : ℕ
  val : ℕ
  same : op ≡ PairSet src register val
  of : HasTable caller state src register table key
  is_value : value ≡ state.registers caller.who val
  is_place : IsPlaceFor caller.layout heap state table place key

is_set : (caller : Planner) (heap : Heap) (state : State) (op : Op) (table place key : ℕ) (value : Val) →
    IsAction caller heap state op (action.StorePair table place key value) → IsSet caller heap state op table place key value
is_set caller heap state (PairSet src register val) table place key value
    (granted, (t, k, p, source, is_key, has, stood, is)) =
    let same_table : t ≡ table = cc in
    let same_place : p ≡ place = cc in
    let same_key : k ≡ key = cc in
    let given : value ≡ state.registers caller.who val = cc in record {
      src = src;
      register = register;
      val = val;
      same = refl;
      of = has_table caller state src register table key (λ one cell. refuse_if (not (has_pair state one cell)
          && nat_le pairs_most (pair_count caller.layout state one)) PairsFull) (source ∙ ap Cell same_table)
          (is_key ∙ ap Cell same_key) granted;
      is_value = given;
      is_place = subst (λ (x : ℕ). IsPlaceFor caller.layout heap state x place key) same_table
          (subst (λ (x : ℕ). IsPlaceFor caller.layout heap state t x key) same_place
          (subst (λ (x : ℕ). IsPlaceFor caller.layout heap state t p x) same_key stood));
    }
is_set caller heap state (Claim src) table place key value is = absurd is.1
is_set caller heap state (Add src name val) table place key value is = elim is.1.3 [
  | inl (array, room, same) ↦ absurd (cc)
  | inr (class, array, needs, same) ↦ absurd (cc)
]
is_set caller heap state op table place key value is = absurd (cc)

record IsDrop (caller : Planner) (heap : Heap) (state : State) (op : Op) (table place : ℕ) : Type 0 where
  src : ℕ
  register : ℕ
  key : ℕ
  same : op ≡ PairDel src register
  of : HasTable caller state src register table key
  stands : HasPairAt caller.layout heap table place key

is_drop : (caller : Planner) (heap : Heap) (state : State) (op : Op) (table place : ℕ) →
    IsAction caller heap state op (action.ClearPair table place) → IsDrop caller heap state op table place
is_drop caller heap state (PairDel src register) table place (granted, (t, k, p, source, is_key, has, stood, is)) =
    let same_table : t ≡ table = cc in
    let same_place : p ≡ place = cc in record {
      src = src;
      register = register;
      key = k;
      same = refl;
      of = has_table caller state src register table k (λ one cell. refuse_if (not (has_pair state one cell)) Absent)
          (source ∙ ap Cell same_table) is_key granted;
      stands = subst (λ (x : ℕ). HasPairAt caller.layout heap x place k) same_table
          (subst (λ (x : ℕ). HasPairAt caller.layout heap t x k) same_place stood);
    }
is_drop caller heap state (Claim src) table place is = absurd is.1
is_drop caller heap state (Add src name val) table place is = elim is.1.3 [
  | inl (array, room, same) ↦ absurd (cc)
  | inr (class, array, needs, same) ↦ absurd (cc)
]
is_drop caller heap state op table place is = absurd (cc)

record IsSeen (caller : Planner) (heap : Heap) (state : State) (op : Op) (dst table place : ℕ) (value : Val) : Type 0
  where
    src : ℕ
    register : ℕ
    key : ℕ
    same : op ≡ PairGet dst src register
    of : HasTable caller state src register table key
    stands : IsPairOf key value (slot_word caller.layout heap table place)

is_seen : (caller : Planner) (heap : Heap) (state : State) (op : Op) (dst table place : ℕ) (value : Val) →
    IsAction caller heap state op (action.Show dst table place value) → IsSeen caller heap state op dst table place value
is_seen caller heap state (PairGet d src register) dst table place value
    (granted, (t, k, p, x, source, is_key, has, stood, said, is)) =
    let same_register : d ≡ dst = cc in
    let same_table : t ≡ table = cc in
    let same_place : p ≡ place = cc in
    let same_value : x ≡ value = cc in record {
      src = src;
      register = register;
      key = k;
      same = ap (λ (r : ℕ). PairGet r src register) same_register;
      of = has_table caller state src register table k (λ one cell. refuse_if (not (has_pair state one cell)) Absent)
          (source ∙ ap Cell same_table) is_key granted;
      stands = subst (λ (one : ℕ). IsPairOf k value (slot_word caller.layout heap one place)) same_table
          (subst (λ (one : ℕ). IsPairOf k value (slot_word caller.layout heap t one)) same_place
          (subst (λ (one : Val). IsPairOf k one (slot_word caller.layout heap t p)) same_value stood));
    }
is_seen caller heap state (Claim src) dst table place value is = absurd is.1
is_seen caller heap state (Add src name val) dst table place value is = elim is.1.3 [
  | inl (array, room, same) ↦ absurd (cc)
  | inr (class, array, needs, same) ↦ absurd (cc)
]
is_seen caller heap state op dst table place value is = absurd (cc)

module _ (layout : Layout) (shapes : ShapeLists) (v : View) (op : Op) (table place : ℕ) (has : HasSlot layout table place)
    (calling : IsCalling layout v op) where
  abbrev at : ℕ
  at = index_of_slot layout table place

  -- the table is its own
  own_there : (w : World) (src register key : ℕ) →
      HasTable (caller_of layout shapes v) (state_after layout w.log) src register table key →
      IsOwnPair layout w v.who table place
  own_there w src register key of = record {
    claimed = contains_from_among ((state_after layout w.log).claims v.who) table of.held;
    is_one = of.is_one;
    has = has;
  }

  -- and its words are settled
  module _ (w : World) (running : RunningWave layout shapes w) (is : w.part v.who ≡ v)
      (own : IsOwnPair layout w v.who table place) where
    settled_there : (other : ℕ) → HasSlot layout table other →
        slot_word layout running.words.settled table other ≡ slot_word layout w.heap table other
    settled_there other slot = own_found layout shapes v w.log region.Slots (index_of_slot layout table other)
        (w.heap region.Slots (index_of_slot layout table other)) refl calling.between.owed
        (own_pair table other own.claimed own.is_one slot)
        (moment_in layout shapes w v region.Slots (index_of_slot layout table other) running is)

    place_there : (key : ℕ) → IsPlaceFor layout running.words.settled (state_after layout w.log) table place key →
        IsPlaceFor layout w.heap (state_after layout w.log) table place key
    place_there key stood = elim stood [
      | inl (none, (empty, earlier)) ↦ inl (
        none,
        (
          sym (settled_there place has) ∙ empty,
          λ before below zero. earlier before below (settled_there before record {
            cell_within = has.cell_within;
            slot_within = (let inside = has.slot_within in omega (arith, inside, below));
          } ∙ zero),
        ),
      )
      | inr (value, pair) ↦ inr (value, subst (IsPairOf key value) (settled_there place has) pair)
    ]

    pair_there : (key : ℕ) → HasPairAt layout running.words.settled table place key →
        HasPairAt layout w.heap table place key
    pair_there key (value, pair) = (value, subst (IsPairOf key value) (settled_there place has) pair)

  -- storing
  module _ (key : ℕ) (value : Val) (planned : IsPlanned layout shapes v op (action.StorePair table place key value)) where
    may_set : MayStep layout shapes v (StorePair table place (pair_word key value) (Some op))
    may_set w running is =
        let read = w.heap region.Slots at in
        let m = moment_in layout shapes w v region.Slots at running is in
        let here = is_set (caller_of layout shapes v) m.settled (state_after layout w.log) op table place key value
        (planned m.settled w.log (stands_then layout shapes v w.log region.Slots at read calling.stays m)) in
        let own = own_there w here.src here.register key here.of in
        subst (λ (o : Op). MayStorePair layout shapes w v.who table place (pair_word key value) (Some o)) (sym here.same)
        record {
          own = own;
          source = here.of.source;
          cell = key;
          is_key = here.of.is_key;
          is_word = ap (pair_word key) here.is_value;
          is_place = place_there w running is own key here.is_place;
          may = subst (λ (o : Op). MayCall layout shapes w v.who o Done None) here.same
              (may_call layout shapes w v op (action.StorePair table place key value) Done None region.Slots at read is calling
              planned m (write m.settled region.Slots at (pair_word key value)) (refl, λ other index within. refl)
              (λ class full. absurd (cc)));
        }

    set_made : (u : View) → FollowsSome layout shapes (StorePair table place (pair_word key value) (Some op)) v u →
        HasMade layout shapes op (action.StorePair table place key value) Done v u [] Nothing
    set_made u f = record {
      made = made_by layout shapes op (action.StorePair table place key value) Done None v u (called [] v) f.1.log region.Slots
          at f.0 calling f.1.moment f.1.lawful f.1.own f.1.view
          (write f.1.moment.settled region.Slots at (pair_word key value)) (refl, λ other index within. refl) refl refl
          (λ stays. refl) (λ is. absurd (cc)) (none_born v.born);
      owed = ap (λ (x : View). x.owed) f.1.view;
      duty = ap (λ (x : View). x.duty) f.1.view ∙ calling.between.duty;
    }

    -- so it is of a word that is the pair's
    module _ (word : ℕ) (is : word ≡ pair_word key value) where
      pub may_put_pair : MayStep layout shapes v (StorePair table place word (Some op))
      may_put_pair = subst (λ (x : ℕ). MayStep layout shapes v (StorePair table place x (Some op))) (sym is) may_set

      pub put_pair_by : (u : View) → FollowsSome layout shapes (StorePair table place word (Some op)) v u →
          HasMade layout shapes op (action.StorePair table place key value) Done v u [] Nothing
      put_pair_by u f = set_made u
          (subst (λ (x : ℕ). FollowsSome layout shapes (StorePair table place x (Some op)) v u) is f)

  -- dropping
  module _ (planned : IsPlanned layout shapes v op (action.ClearPair table place)) where
    pub may_drop_pair : MayStep layout shapes v (StorePair table place 0 (Some op))
    may_drop_pair w running is =
        let read = w.heap region.Slots at in
        let m = moment_in layout shapes w v region.Slots at running is in
        let here = is_drop (caller_of layout shapes v) m.settled (state_after layout w.log) op table place
        (planned m.settled w.log (stands_then layout shapes v w.log region.Slots at read calling.stays m)) in
        let own = own_there w here.src here.register here.key here.of in
        subst (λ (o : Op). MayStorePair layout shapes w v.who table place 0 (Some o)) (sym here.same) record {
          own = own;
          source = here.of.source;
          cell = here.key;
          is_key = here.of.is_key;
          is_word = refl;
          has_pair = pair_there w running is own here.key here.stands;
          may = subst (λ (o : Op). MayCall layout shapes w v.who o Done None) here.same
              (may_call layout shapes w v op (action.ClearPair table place) Done None region.Slots at read is calling
              planned m (write m.settled region.Slots at 0) (refl, λ other index within. refl)
              (λ class full. absurd (cc)));
        }

    pub drop_pair_by : (u : View) → FollowsSome layout shapes (StorePair table place 0 (Some op)) v u →
        HasMade layout shapes op (action.ClearPair table place) Done v u [] Nothing
    drop_pair_by u f = record {
      made = made_by layout shapes op (action.ClearPair table place) Done None v u (called [] v) f.1.log region.Slots at f.0
          calling f.1.moment f.1.lawful f.1.own f.1.view (write f.1.moment.settled region.Slots at 0)
          (refl, λ other index within. refl) refl refl (λ stays. refl) (λ is. absurd (cc)) (none_born v.born);
      owed = ap (λ (x : View). x.owed) f.1.view;
      duty = ap (λ (x : View). x.duty) f.1.view ∙ calling.between.duty;
    }

  -- seeing
  module _ (dst : ℕ) (value : Val) (planned : IsPlanned layout shapes v op (action.Show dst table place value)) where
    module _ (log : List Event) (read : ℕ) (m : Moment layout shapes v log region.Slots at read) where
      seen_here : IsSeen (caller_of layout shapes v) m.settled (state_after layout log) op dst table place value
      seen_here = is_seen (caller_of layout shapes v) m.settled (state_after layout log) op dst table place value
          (planned m.settled log (stands_then layout shapes v log region.Slots at read calling.stays m))

      pair_found : slot_word layout m.settled table place ≡ read
      pair_found = own_found layout shapes v log region.Slots at read refl calling.between.owed
          (own_pair table place (contains_from_among ((state_after layout log).claims v.who) table seen_here.of.held)
          seen_here.of.is_one has) m

      value_seen : value_of_pair read ≡ value
      value_seen = ap value_of_pair (sym pair_found)
          ∙ pair_value seen_here.key value (slot_word layout m.settled table place) seen_here.stands

      seen_words : ActionWords layout m.settled v.who (action.Show dst table place value) (Seen (value_of_pair read)) None
          (write m.settled region.Registers (index_of_register layout v.who dst) (val_word value))
      seen_words = (refl, value_seen, λ other index within. refl)

    pub may_get_pair : MayStep layout shapes v (LoadPair table place (Some op))
    may_get_pair w running is =
        let read = w.heap region.Slots at in
        let m = moment_in layout shapes w v region.Slots at running is in
        let here = seen_here w.log read m in
        subst (λ (o : Op). MayLoadPair layout shapes w v.who table place read (Some o)) (sym here.same) (
          own_there w here.src here.register here.key here.of,
          here.of.source,
          subst (λ (o : Op). MayCall layout shapes w v.who o (Seen (value_of_pair read)) None) here.same
              (may_call layout shapes w v op (action.Show dst table place value) (Seen (value_of_pair read)) None region.Slots at
              read is calling planned m
              (write m.settled region.Registers (index_of_register layout v.who dst) (val_word value))
              (seen_words w.log read m) (λ class full. absurd (cc))),
        )

    pub got_pair_by : (read : ℕ) (u : View) → Follows layout shapes (LoadPair table place (Some op)) v read u →
        HasMade layout shapes op (action.Show dst table place value) (Seen value) v u
        (owed_register layout v.who (Some dst) value) Nothing
    got_pair_by read u f = subst (λ (x : Val). HasMade layout shapes op (action.Show dst table place value) (Seen x) v u
        (owed_register layout v.who (Some dst) x) Nothing) (value_seen f.log read f.moment) record {
          made = made_by layout shapes op (action.Show dst table place value) (Seen (value_of_pair read)) None v u
              (paired_view layout v.who table place read (Some op) v) f.log region.Slots at read calling f.moment f.lawful
              f.own f.view
              (write f.moment.settled region.Registers (index_of_register layout v.who dst) (val_word value))
              (seen_words f.log read f.moment) refl refl (λ stays. refl) (λ is. absurd (cc)) (none_born v.born);
          owed = ap (λ (x : View). x.owed) f.view
              ∙ ap (λ (o : Op). owed_register layout v.who (filled_register o) (value_of_pair read))
              (seen_here f.log read f.moment).same;
          duty = ap (λ (x : View). x.duty) f.view ∙ calling.between.duty;
        }
