-- Add where the array has room: the element is stored past the keys, and the store of the structure makes the call.
use Rattle.std.proofs.Common.{ℕ, suc, ◌≡◌, ◌+◌, refl, sym, ◌∙◌, ap, subst, arith, Bool, true, false, List, [], ◌∷◌, length, None, Some, inl, inr}
use Rattle.std.specs.Prelude.{◌==◌, ◌&&◌, not}
use Rattle.tide_mutator.proofs.owed_laws.Entering.{made_by, may_call, none_born, runs_there}
use Rattle.tide_mutator.proofs.owed_laws.Standing.{moment_in, stands_then}
use Rattle.tide_mutator.specs.owed.Calling.{IsCalling}
use Rattle.tide_mutator.specs.owed.Made.{HasMade, IsMade, Shown}
use Rattle.tide_mutator.specs.owed.Standing.{IsPlanned, MutatorStandsAt, caller_of}
use Rattle.tide_heap.specs.tide_call.Callers.{Planner}
use Rattle.tide_heap.specs.tide_call.ActionWords.{ActionWords}
use Rattle.tide_heap.specs.tide_call.Actions.{HasRoomIn, IsAddition, IsAction}
use Rattle.tide_heap.specs.tide_call.ShapeWord.{whole_word}
use Rattle.tide_heap.specs.tide_call.declared.action.Addition.{Addition}
use Rattle.tide_heap.specs.tide_call.declared.action.Action.{Action}
use Rattle.tide_heap.specs.tide_call.declared.action.Action.TheVariants as action
use Rattle.tide_heap.specs.tide_layout.Region.{tag}
use Rattle.tide_heap.specs.tide_layout.Slots.{HasElement, index_of_element}
use Rattle.tide_heap.specs.tide_layout.declared.region.Region.{Region}
use Rattle.tide_heap.specs.tide_layout.declared.region.Region.TheVariants as region
use Rattle.tide_heap.proofs.tide_core.machine_laws.steps.Paying.{in_filter}
use Rattle.tide_heap.specs.tide_core.machine.Entries.{call_of}
use Rattle.tide_heap.specs.tide_core.machine.Kind.{StoreElement, StoreStructure}
use Rattle.tide_heap.specs.tide_core.machine.May.{MayCall, barrier_for, called}
use Rattle.tide_heap.specs.tide_core.machine.Moment.{Moment}
use Rattle.tide_heap.specs.tide_core.machine.Owed.{Knows, is_at, owed_word, without_word}
use Rattle.tide_heap.specs.tide_core.machine.Views.{with_entry}
use Rattle.tide_heap.specs.tide_core.declared.machine.view.Owed.{Owed}
use Rattle.tide_heap.specs.tide_core.declared.machine.view.View.{View}
use Rattle.tide_heap.specs.tide_core.machine.kinds.StoreStructure.{MayStoreStructure, structured_view}
use Rattle.tide_model.proofs.NumberLaws.{contains_from_among}
use Rattle.tide_model.specs.History.{state_after}
use Rattle.tide_model.specs.Layout.{Layout}
use Rattle.tide_model.specs.Refused.{ShapeLists, first_of, has_key, holds, is_table, may_add, refusal_at, refusal_of, refuse_if}
use Rattle.tide_model.specs.State.{State}
use Rattle.tide_model.specs.declared.entry.Event.{Event}
use Rattle.tide_model.specs.declared.op.Op.{Op}
use Rattle.tide_model.specs.declared.op.Op.TheVariants.{Add, Claim}
use Rattle.tide_model.specs.declared.op.Refusal.TheVariants.{IsTable, NoShape, NotHeld, Present}
use Rattle.tide_model.specs.declared.op.Reply.TheVariants.{Done}
use Rattle.tide_model.specs.declared.val.Val.{Val}
use Rattle.tide_model.specs.declared.val.Val.TheVariants.{Cell}
use Rattle.tide_heap.specs.steps.Follows.{FollowsSome, MayStep}
use Rattle.tide_heap.specs.tide_words.forms.ValueWord.{val_word}
use Rattle.tide_heap.specs.tide_words.heap.Heap.{Heap, write}

-- an addition that nothing refuses is to a cell that its caller claims
held_by : (caller : Planner) (state : State) (src key val cell : ℕ) → state.registers caller.who src ≡ Cell cell →
    refusal_of caller.layout caller.shapes state caller.who (Add src key val) ≡ None →
    holds state caller.who cell ≡ true
held_by caller state src key val cell source none =
    by_tests (is_table caller.layout cell) (holds state caller.who cell) (subst (λ (v : Val). refusal_at v src (λ c.
    first_of (refuse_if (is_table caller.layout c) IsTable ∷ refuse_if (not (holds state caller.who c)) NotHeld
    ∷ refuse_if (has_key state c key) Present ∷ refuse_if (not (may_add caller.shapes state c key)) NoShape ∷ []))
    ≡ None) source none)
  where
    by_tests : (t h : Bool) → first_of (refuse_if t IsTable ∷ refuse_if (not h) NotHeld
        ∷ refuse_if (has_key state cell key) Present ∷ refuse_if (not (may_add caller.shapes state cell key)) NoShape
        ∷ []) ≡ None → h ≡ true
    by_tests true h is = absurd (cc)
    by_tests false true is = refl
    by_tests false false is = absurd (cc)

-- which operation has such an action
record IsAppend (caller : Planner) (state : State) (op : Op) (addition : Addition) (array : ℕ) (value : Val)
    : Type 0 where
  src : ℕ
  key : ℕ
  val : ℕ
  same : op ≡ Add src key val
  source : state.registers caller.who src ≡ Cell addition.cell
  held : holds state caller.who addition.cell ≡ true
  adds : IsAddition caller state key addition
  room : HasRoomIn caller state addition.cell array
  is_value : value ≡ state.registers caller.who val

is_append : (caller : Planner) (heap : Heap) (state : State) (op : Op) (addition : Addition) (array : ℕ) (value : Val) →
    IsAction caller heap state op (action.Append addition array value) → IsAppend caller state op addition array value
is_append caller heap state (Add src key val) addition array value (granted, (one, source, adds, does)) = elim does [
  | inl (its, room, same) ↦
      let same_addition : one ≡ addition = cc in
      let same_array : its ≡ array = cc in
      let given : value ≡ state.registers caller.who val = cc in
      let holds_cell : state.registers caller.who src ≡ Cell addition.cell =
      source ∙ ap (λ (a : Addition). Cell a.cell) same_addition in record {
        src = src;
        key = key;
        val = val;
        same = refl;
        source = holds_cell;
        held = held_by caller state src key val addition.cell holds_cell granted;
        adds = subst (IsAddition caller state key) same_addition adds;
        room = subst (λ (x : ℕ). HasRoomIn caller state addition.cell x) same_array
            (subst (λ (a : Addition). HasRoomIn caller state a.cell its) same_addition room);
        is_value = given;
      }
  | inr (class, its, needs, same) ↦ absurd (cc)
]
is_append caller heap state (Claim src) addition array value is = absurd is.1
is_append caller heap state op addition array value is = absurd (cc)

module _ (layout : Layout) (shapes : ShapeLists) (v : View) (op : Op) (addition : Addition) (array : ℕ) (value : Val)
    (has : HasElement layout array addition.count) (calling : IsCalling layout v op)
    (planned : IsPlanned layout shapes v op (action.Append addition array value)) where
  abbrev at : ℕ
  at = index_of_element layout array addition.count

  abbrev does : Action
  does = action.Append addition array value

  abbrev whole : ℕ
  whole = whole_word addition.next (addition.count + 1)

  append_here : (log : List Event) (r : Region) (index read : ℕ) → Moment layout shapes v log r index read →
      IsAppend (caller_of layout shapes v) (state_after layout log) op addition array value
  append_here log r index read m = is_append (caller_of layout shapes v) m.settled (state_after layout log) op addition
      array value (planned m.settled log (stands_then layout shapes v log r index read calling.stays m))

  -- the element may be stored, of which no key tells yet
  may_store : MayStep layout shapes v (StoreElement array addition.count (val_word value) None)
  may_store w running is =
      let read = w.heap region.Elements at in
      let m = moment_in layout shapes w v region.Elements at running is in
      let here = append_here w.log region.Elements at read m in inr (record {
        runner = runs_there layout w v op is calling;
        own = record {
          cell = addition.cell;
          claimed = contains_from_among ((state_after layout w.log).claims v.who) addition.cell here.held;
          is_array = here.room.is_its;
          has = has;
        };
        grows_not = ap (λ (x : View). x.growth) is ∙ calling.between.growth;
        owes_not = ap (λ (x : View). x.owed) is ∙ calling.between.owed;
        value = record {
          active = (stands_then layout shapes v w.log region.Elements at read calling.stays m).active;
          register = here.val;
          is_word = ap val_word here.is_value;
        };
        past = (let count = here.adds.is_count in omega (arith, count));
      })

  pub may_store_past : (word : ℕ) → word ≡ val_word value →
      MayStep layout shapes v (StoreElement array addition.count word None)
  may_store_past word is =
      subst (λ (x : ℕ). MayStep layout shapes v (StoreElement array addition.count x None)) (sym is) may_store

  -- with the element stored, the structure with one key more makes the call
  module _ (knows : Knows v region.Elements at (val_word value)) where
    add_words : (settled : Heap) → ActionWords layout settled v.who does Done None
        (write (write settled region.Elements at (val_word value)) region.Structure addition.cell whole)
    add_words settled = (
      refl,
      (
        write settled region.Elements at (val_word value),
        λ other index within. refl,
        λ other index within. refl,
      ),
    )

    may_add_key : MayStep layout shapes v (StoreStructure addition.cell whole (Some op))
    may_add_key w running is =
        let read = w.heap region.Structure addition.cell in
        let m = moment_in layout shapes w v region.Structure addition.cell running is in
        let here = append_here w.log region.Structure addition.cell read m in
        let state = state_after layout w.log in
        subst (λ (o : Op). MayStoreStructure layout shapes w v.who addition.cell whole (Some o)) (sym here.same)
        record {
          claimed = contains_from_among (state.claims v.who) addition.cell here.held;
          source = here.source;
          array = array;
          is_array = here.room.is_its;
          stored = subst (λ (x : View). Knows x region.Elements
              (index_of_element layout array (length (state.cells addition.cell).keys))
              (val_word (state.registers v.who here.val))) (sym is)
              (subst (λ (n : ℕ). Knows v region.Elements (index_of_element layout array n)
              (val_word (state.registers v.who here.val))) here.adds.is_count
              (subst (λ (x : Val). Knows v region.Elements at (val_word x)) here.is_value knows));
          shape = addition.next;
          is_shape = here.adds.after;
          is_word = ap (λ (n : ℕ). whole_word addition.next (n + 1)) here.adds.is_count;
          may = subst (λ (o : Op). MayCall layout shapes w v.who o Done None) here.same
              (may_call layout shapes w v op does Done None region.Structure addition.cell read is calling planned m
              (write (write m.settled region.Elements at (val_word value)) region.Structure addition.cell whole)
              (add_words m.settled) (λ class full. absurd (cc)));
        }

    abbrev added_view : View
    added_view = record (called [] v) { duty = barrier_for addition.cell (val_word value) }

    added : (u : View) → FollowsSome layout shapes (StoreStructure addition.cell whole (Some op)) v u →
        HasMade layout shapes op does Done v u [] (barrier_for addition.cell (val_word value))
    added u f =
        let here = append_here f.1.log region.Structure addition.cell f.0 f.1.moment in
        let state = state_after layout f.1.log in
        let event = call_of v.who op Done None in
        let view : u ≡ record (with_entry f.1.log (Some event) added_view) { found = f.0 } =
        f.1.view ∙ ap (λ (o : Op). record (with_entry f.1.log (Some event)
        (structured_view state v.who addition.cell (Some o) v)) { found = f.0 }) here.same
        ∙ ap (λ (x : Val). record (with_entry f.1.log (Some event)
        (record (called [] v) { duty = barrier_for addition.cell (val_word x) })) { found = f.0 })
        (sym here.is_value) in record {
          made = made_by layout shapes op does Done None v u added_view f.1.log region.Structure addition.cell f.0
              calling f.1.moment f.1.lawful f.1.own view
              (write (write f.1.moment.settled region.Elements at (val_word value)) region.Structure addition.cell
              whole)
              (add_words f.1.moment.settled) refl refl (λ stays. refl) (λ is. absurd (cc)) (none_born v.born);
          owed = ap (λ (x : View). x.owed) view;
          duty = ap (λ (x : View). x.duty) view;
        }

-- what the store of the element leaves: the call is planned as it was
module _ (layout : Layout) (shapes : ShapeLists) (v : View) (op : Op) (addition : Addition) (array : ℕ) (value : Val)
    (has : HasElement layout array addition.count) (calling : IsCalling layout v op)
    (planned : IsPlanned layout shapes v op (action.Append addition array value)) (word : ℕ) (is : word ≡ val_word value)
    (u : View) (f : FollowsSome layout shapes (StoreElement array addition.count word None) v u) where
  abbrev place : ℕ
  place = index_of_element layout array addition.count

  abbrev stored_view : View
  stored_view = record v {
    owed = without_word region.Elements place v.owed;
    known = owed_word region.Elements place word ∷ without_word region.Elements place v.known;
    found = f.0;
  }

  pub is_stored : u ≡ stored_view
  is_stored = f.1.view

  -- what it knew of other words it knows
  knows_others : (at : Region) (index x : ℕ) → (tag at == tag region.Elements) ≡ false → Knows v at index x →
      Knows stored_view at index x
  knows_others at index x apart knew =
      let (k, below, there) = in_filter (λ (o : Owed). not (is_at region.Elements place o)) v.known
      (owed_word at index x) (ap (λ (b : Bool). not (b && (index == place))) apart) knew in
      (suc k, omega (arith, below), there)

  stood_before : (heap : Heap) (log : List Event) → MutatorStandsAt layout shapes stored_view heap log →
      MutatorStandsAt layout shapes v heap log
  stood_before heap log s = record {
    lawful = s.lawful;
    own = s.own;
    active = s.active;
    claims = s.claims;
    refs = s.refs;
    reads = s.reads;
    known = λ at index x apart knew. s.known at index x apart (knows_others at index x apart knew);
  }

  calling_still : IsCalling layout u op
  calling_still = subst (λ (x : View). IsCalling layout x op) (sym is_stored) record {
    limits = calling.limits;
    is_mutator = calling.is_mutator;
    runs = calling.runs;
    stays = calling.stays;
    between = record {
      owed = ap (without_word region.Elements place) calling.between.owed;
      duty = calling.between.duty;
      growth = calling.between.growth;
      sweeping = calling.between.sweeping;
      calls = calling.between.calls;
    };
    own = calling.own;
    fits = calling.fits;
    bare = calling.bare;
  }

  planned_still : IsPlanned layout shapes u op (action.Append addition array value)
  planned_still = subst (λ (x : View). IsPlanned layout shapes x op (action.Append addition array value)) (sym is_stored)
      (λ heap log s. planned heap log (stood_before heap log s))

  knows_it : Knows u region.Elements place (val_word value)
  knows_it = subst (λ (x : View). Knows x region.Elements place (val_word value)) (sym is_stored)
      (subst (λ (x : ℕ). Knows stored_view region.Elements place x) is (0, omega arith, refl))

  pub stored_runs : u.runs ≡ true
  stored_runs = calling_still.runs

  -- a call that was made after it, was made of the view before it
  made_before : (after : Shown) → IsMade layout shapes op (action.Append addition array value) Done stored_view after →
      IsMade layout shapes op (action.Append addition array value) Done v after
  made_before after m = record {
    took = m.took;
    log = m.log;
    heap = m.heap;
    new = m.new;
    stands = stood_before m.heap m.log m.stands;
    words = m.words;
    before = m.before;
    seen = m.seen;
    mine = m.mine;
    lawful = m.lawful;
    own = m.own;
    kept = m.kept;
    left = m.left;
    gone = m.gone;
    births = m.births;
  }

  module _ (structure : ℕ) (same : structure ≡ whole_word addition.next (addition.count + 1)) where
    pub may_add_stored : MayStep layout shapes u (StoreStructure addition.cell structure (Some op))
    may_add_stored = subst (λ (x : ℕ). MayStep layout shapes u (StoreStructure addition.cell x (Some op))) (sym same)
        (may_add_key layout shapes u op addition array value has calling_still planned_still knows_it)

    pub added_by : (after : View) →
        FollowsSome layout shapes (StoreStructure addition.cell structure (Some op)) u after →
        HasMade layout shapes op (action.Append addition array value) Done v after []
        (barrier_for addition.cell (val_word value))
    added_by after g =
        let made = subst (λ (x : View). HasMade layout shapes op (action.Append addition array value) Done x after []
        (barrier_for addition.cell (val_word value))) is_stored
        (added layout shapes u op addition array value has calling_still planned_still knows_it after
        (subst (λ (x : ℕ). FollowsSome layout shapes (StoreStructure addition.cell x (Some op)) u after) same g)) in
        record {
          made = made_before _ made.made;
          owed = made.owed;
          duty = made.duty;
        }
