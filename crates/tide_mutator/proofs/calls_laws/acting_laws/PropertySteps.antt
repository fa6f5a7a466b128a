-- GetProp and SetProp: the step on the element makes the call.
use Rattle.std.proofs.Common.{ℕ, ◌≡◌, ◌<◌, refl, sym, ◌∙◌, ap, subst, Bool, true, false, List, [], ◌∷◌, None, Some, inl, inr}
use Rattle.std.specs.Prelude.{not}
use Rattle.tide_mutator.proofs.owed_laws.Entering.{made_by, may_call, none_born}
use Rattle.tide_mutator.proofs.calls_laws.acting_laws.Fitting.{fits_there}
use Rattle.tide_mutator.proofs.cells_laws.OwnFound.{own_found}
use Rattle.tide_mutator.proofs.owed_laws.Standing.{moment_in, stands_then}
use Rattle.tide_mutator.proofs.cells_laws.Values.{value_read}
use Rattle.tide_mutator.specs.owed.Calling.{IsCalling, Kept}
use Rattle.tide_mutator.specs.owed.Made.{HasMade}
use Rattle.tide_mutator.specs.owed.Standing.{IsPlanned, caller_of}
use Rattle.tide_heap.specs.tide_call.Callers.{Planner}
use Rattle.tide_heap.specs.tide_call.ActionWords.{ActionWords}
use Rattle.tide_heap.specs.tide_call.Actions.{IsAction}
use Rattle.tide_heap.specs.tide_call.declared.action.Action.TheVariants as action
use Rattle.tide_heap.specs.tide_layout.Region.{index_of_register}
use Rattle.tide_heap.specs.tide_layout.Slots.{HasElement, index_of_element}
use Rattle.tide_heap.specs.tide_layout.declared.region.Region.TheVariants as region
use Rattle.tide_heap.specs.tide_core.machine.Entries.{call_of}
use Rattle.tide_heap.specs.tide_core.machine.Kind.{LoadElement, StoreElement}
use Rattle.tide_heap.specs.tide_core.machine.May.{MayCall, barrier_for, called}
use Rattle.tide_heap.specs.tide_core.machine.Moment.{Moment}
use Rattle.tide_heap.specs.tide_core.machine.Owed.{filled_register, own_element, owed_register}
use Rattle.tide_heap.specs.tide_core.machine.Views.{with_entry}
use Rattle.tide_heap.specs.tide_core.machine.Words.{cell_named, value_of}
use Rattle.tide_heap.specs.tide_core.machine.World.{World}
use Rattle.tide_heap.specs.tide_core.declared.machine.view.Duty.TheVariants.{Nothing}
use Rattle.tide_heap.specs.tide_core.declared.machine.view.View.{View}
use Rattle.tide_heap.specs.tide_core.machine.kinds.StorePrivateElement.{IsOwnElement, MayLoadElement, MayStoreElement, element_view, stored_element_view}
use Rattle.tide_model.proofs.NumberLaws.{contains_from_among}
use Rattle.tide_model.specs.Applied.{place_of}
use Rattle.tide_model.specs.History.{state_after}
use Rattle.tide_model.specs.Layout.{Layout}
use Rattle.tide_model.specs.Refused.{ShapeLists, first_of, has_key, holds, is_table, property_refusal, refusal_at, refuse_if}
use Rattle.tide_model.specs.State.{State}
use Rattle.tide_model.specs.declared.entry.Event.{Event}
use Rattle.tide_model.specs.declared.op.Op.{Op}
use Rattle.tide_model.specs.declared.op.Op.TheVariants.{Add, Claim, GetProp, SetProp}
use Rattle.tide_model.specs.declared.op.Refusal.TheVariants.{Absent, IsTable, NotHeld}
use Rattle.tide_model.specs.declared.op.Reply.TheVariants.{Done, Seen}
use Rattle.tide_model.specs.declared.val.Val.{Val}
use Rattle.tide_model.specs.declared.val.Val.TheVariants.{Cell}
use Rattle.tide_heap.specs.steps.Follows.{Follows, FollowsSome, MayStep}
use Rattle.tide_heap.specs.tide_words.forms.ValueWord.{val_word}
use Rattle.tide_heap.specs.tide_words.heap.Heap.{Heap, write}
use Rattle.tide_heap.specs.tide_words.heap.Reading.{IsValueOf, element_word}

-- a property that nothing refuses: the mutator claims its cell, and its element is of the cell's array
record HasProperty (caller : Planner) (state : State) (src key cell array place : ℕ) : Type 0 where
  source : state.registers caller.who src ≡ Cell cell
  held : holds state caller.who cell ≡ true
  is_array : (state.cells cell).array ≡ Some array
  is_place : place ≡ place_of (state.cells cell).keys key

-- an operation on a property that nothing refuses is on a cell that its caller claims
held_by : (caller : Planner) (state : State) (src key cell : ℕ) → state.registers caller.who src ≡ Cell cell →
    property_refusal caller.layout state caller.who src key ≡ None → holds state caller.who cell ≡ true
held_by caller state src key cell source none =
    by_tests (is_table caller.layout cell) (holds state caller.who cell) (subst (λ (v : Val). refusal_at v src (λ c.
    first_of (refuse_if (is_table caller.layout c) IsTable ∷ refuse_if (not (holds state caller.who c)) NotHeld
    ∷ refuse_if (not (has_key state c key)) Absent ∷ [])) ≡ None) source none)
  where
    by_tests : (t h : Bool) → first_of (refuse_if t IsTable ∷ refuse_if (not h) NotHeld
        ∷ refuse_if (not (has_key state cell key)) Absent ∷ []) ≡ None → h ≡ true
    by_tests true h is = absurd (cc)
    by_tests false true is = refl
    by_tests false false is = absurd (cc)

-- which operation has such an action
record IsRead (caller : Planner) (state : State) (op : Op) (dst array place : ℕ) : Type 0 where
  src : ℕ
  key : ℕ
  cell : ℕ
  same : op ≡ GetProp dst src key
  of : HasProperty caller state src key cell array place

is_read_op : (caller : Planner) (heap : Heap) (state : State) (op : Op) (dst array place : ℕ) →
    IsAction caller heap state op (action.LoadElement dst array place) → IsRead caller state op dst array place
is_read_op caller heap state (GetProp d src key) dst array place (granted, (c, a, source, its, has, is)) =
    let same_register : d ≡ dst = cc in
    let same_array : a ≡ array = cc in
    let same_place : place ≡ place_of (state.cells c).keys key = cc in record {
      src = src;
      key = key;
      cell = c;
      same = ap (λ (r : ℕ). GetProp r src key) same_register;
      of = record {
        source = source;
        held = held_by caller state src key c source granted;
        is_array = its ∙ ap (λ (x : ℕ). Some x) same_array;
        is_place = same_place;
      };
    }
is_read_op caller heap state (Claim src) dst array place is = absurd is.1
is_read_op caller heap state (Add src name val) dst array place is = elim is.1.3 [
  | inl (one, room, same) ↦ absurd (cc)
  | inr (class, one, needs, same) ↦ absurd (cc)
]
is_read_op caller heap state op dst array place is = absurd (cc)

record IsWrite (caller : Planner) (state : State) (op : Op) (cell array place : ℕ) (value : Val) : Type 0 where
  src : ℕ
  key : ℕ
  val : ℕ
  same : op ≡ SetProp src key val
  of : HasProperty caller state src key cell array place
  is_value : value ≡ state.registers caller.who val

is_write_op : (caller : Planner) (heap : Heap) (state : State) (op : Op) (cell array place : ℕ) (value : Val) →
    IsAction caller heap state op (action.StoreElement cell array place value) →
    IsWrite caller state op cell array place value
is_write_op caller heap state (SetProp src key val) cell array place value (granted, (c, a, source, its, has, is)) =
    let same_cell : c ≡ cell = cc in
    let same_array : a ≡ array = cc in
    let same_place : place ≡ place_of (state.cells c).keys key = cc in
    let given : value ≡ state.registers caller.who val = cc in
    let holds_cell : state.registers caller.who src ≡ Cell cell = source ∙ ap Cell same_cell in record {
      src = src;
      key = key;
      val = val;
      same = refl;
      of = record {
        source = holds_cell;
        held = held_by caller state src key cell holds_cell granted;
        is_array = subst (λ (x : ℕ). (state.cells x).array ≡ Some array) same_cell (its ∙ ap (λ (x : ℕ). Some x) same_array);
        is_place = subst (λ (x : ℕ). place ≡ place_of (state.cells x).keys key) same_cell same_place;
      };
      is_value = given;
    }
is_write_op caller heap state (Claim src) cell array place value is = absurd is.1
is_write_op caller heap state (Add src name val) cell array place value is = elim is.1.3 [
  | inl (one, room, same) ↦ absurd (cc)
  | inr (class, one, needs, same) ↦ absurd (cc)
]
is_write_op caller heap state op cell array place value is = absurd (cc)

module _ (layout : Layout) (shapes : ShapeLists) (v : View) (op : Op) (array place : ℕ)
    (has : HasElement layout array place) (calling : IsCalling layout v op) where
  abbrev at : ℕ
  at = index_of_element layout array place

  -- the element is its own
  abbrev own_there : (w : World) (src key cell : ℕ) →
      HasProperty (caller_of layout shapes v) (state_after layout w.log) src key cell array place →
      IsOwnElement layout w v.who array place
  own_there w src key cell of = record {
    cell = cell;
    claimed = contains_from_among ((state_after layout w.log).claims v.who) cell of.held;
    is_array = of.is_array;
    has = has;
  }

  -- reading
  module _ (dst : ℕ) (planned : IsPlanned layout shapes v op (action.LoadElement dst array place)) where
    module _ (log : List Event) (read : ℕ) (m : Moment layout shapes v log region.Elements at read) where
      read_here : IsRead (caller_of layout shapes v) (state_after layout log) op dst array place
      read_here = is_read_op (caller_of layout shapes v) m.settled (state_after layout log) op dst array place
          (planned m.settled log (stands_then layout shapes v log region.Elements at read calling.stays m))

      element_found : element_word layout m.settled array place ≡ read
      element_found = own_found layout shapes v log region.Elements at read refl calling.between.owed
          (own_element read_here.cell array place
          (contains_from_among ((state_after layout log).claims v.who) read_here.cell read_here.of.held)
          read_here.of.is_array has) m

      -- what the element's word says
      pub element_value : IsValueOf (value_of read) read
      element_value =
          let (value, is) = (fits_there layout shapes v op (action.LoadElement dst array place) m.settled log calling.limits
          calling.fits calling.is_mutator
          (stands_then layout shapes v log region.Elements at read calling.stays m) planned).2 in
          value_read value read (subst (λ (word : ℕ). IsValueOf value word) element_found is)

      read_words : ActionWords layout m.settled v.who (action.LoadElement dst array place) (Seen (value_of read)) None
          (write m.settled region.Registers (index_of_register layout v.who dst) (val_word (value_of read)))
      read_words = (
        refl,
        subst (λ (word : ℕ). IsValueOf (value_of read) word) (sym element_found) element_value,
        λ other index within. refl,
      )

    pub may_get_property : MayStep layout shapes v (LoadElement array place (Some op))
    may_get_property w running is =
        let read = w.heap region.Elements at in
        let m = moment_in layout shapes w v region.Elements at running is in
        let here = read_here w.log read m in
        subst (λ (o : Op). MayLoadElement layout shapes w v.who array place read (Some o)) (sym here.same) record {
          own = own_there w here.src here.key here.cell here.of;
          source = here.of.source;
          is_place = here.of.is_place;
          may = subst (λ (o : Op). MayCall layout shapes w v.who o (Seen (value_of read)) None) here.same
              (may_call layout shapes w v op (action.LoadElement dst array place) (Seen (value_of read)) None region.Elements at
              read is calling planned m
              (write m.settled region.Registers (index_of_register layout v.who dst) (val_word (value_of read)))
              (read_words w.log read m) (λ class full. absurd (cc)));
        }

    pub got_property_by : (read : ℕ) (u : View) → Follows layout shapes (LoadElement array place (Some op)) v read u →
        HasMade layout shapes op (action.LoadElement dst array place) (Seen (value_of read)) v u
        (owed_register layout v.who (Some dst) (value_of read)) Nothing
    got_property_by read u f = record {
      made = made_by layout shapes op (action.LoadElement dst array place) (Seen (value_of read)) None v u
          (element_view layout v.who array place read (Some op) v) f.log region.Elements at read calling f.moment f.lawful
          f.own f.view
          (write f.moment.settled region.Registers (index_of_register layout v.who dst) (val_word (value_of read)))
          (read_words f.log read f.moment) refl refl (λ stays. refl) (λ is. absurd (cc)) (none_born v.born);
      owed = ap (λ (x : View). x.owed) f.view
          ∙ ap (λ (o : Op). owed_register layout v.who (filled_register o) (value_of read))
          (read_here f.log read f.moment).same;
      duty = ap (λ (x : View). x.duty) f.view ∙ calling.between.duty;
    }

  -- storing
  module _ (cell : ℕ) (value : Val) (planned : IsPlanned layout shapes v op (action.StoreElement cell array place value))
    where
      write_here : (log : List Event) (read : ℕ) → Moment layout shapes v log region.Elements at read →
          IsWrite (caller_of layout shapes v) (state_after layout log) op cell array place value
      write_here log read m = is_write_op (caller_of layout shapes v) m.settled (state_after layout log) op cell array place
          value (planned m.settled log (stands_then layout shapes v log region.Elements at read calling.stays m))

      may_write : MayStep layout shapes v (StoreElement array place (val_word value) (Some op))
      may_write w running is =
          let read = w.heap region.Elements at in
          let m = moment_in layout shapes w v region.Elements at running is in
          let here = write_here w.log read m in
          subst (λ (o : Op). MayStoreElement layout shapes w v.who array place (val_word value) (Some o)) (sym here.same)
          record {
            own = own_there w here.src here.key cell here.of;
            source = here.of.source;
            is_place = here.of.is_place;
            is_word = ap val_word here.is_value;
            may = subst (λ (o : Op). MayCall layout shapes w v.who o Done None) here.same
                (may_call layout shapes w v op (action.StoreElement cell array place value) Done None region.Elements at read is
                calling planned m (write m.settled region.Elements at (val_word value)) (refl, λ other index within. refl)
                (λ class full. absurd (cc)));
          }

      abbrev written_view : View
      written_view = record (called [] v) { duty = barrier_for cell (val_word value) }

      wrote : (u : View) → FollowsSome layout shapes (StoreElement array place (val_word value) (Some op)) v u →
          HasMade layout shapes op (action.StoreElement cell array place value) Done v u []
          (barrier_for cell (val_word value))
      wrote u f =
          let here = write_here f.1.log f.0 f.1.moment in
          let state = state_after layout f.1.log in
          let event = call_of v.who op Done None in
          let view : u ≡ record (with_entry f.1.log (Some event) written_view) { found = f.0 } =
          f.1.view ∙ ap (λ (o : Op). record (with_entry f.1.log (Some event)
          (stored_element_view layout state v.who array place (val_word value) (Some o) v)) { found = f.0 }) here.same
          ∙ ap (λ (x : Val). record (with_entry f.1.log (Some event)
          (record (called [] v) { duty = barrier_for (cell_named x) (val_word value) })) { found = f.0 })
          here.of.source in record {
            made = made_by layout shapes op (action.StoreElement cell array place value) Done None v u written_view f.1.log
                region.Elements at f.0 calling f.1.moment f.1.lawful f.1.own view
                (write f.1.moment.settled region.Elements at (val_word value)) (refl, λ other index within. refl) refl refl
                (λ stays. refl) (λ is. absurd (cc)) (none_born v.born);
            owed = ap (λ (x : View). x.owed) view;
            duty = ap (λ (x : View). x.duty) view;
          }

      -- so it is of a word that is the value's
      module _ (word : ℕ) (is : word ≡ val_word value) where
        pub may_put_property : MayStep layout shapes v (StoreElement array place word (Some op))
        may_put_property = subst (λ (x : ℕ). MayStep layout shapes v (StoreElement array place x (Some op))) (sym is) may_write

        pub put_property_by : (u : View) → FollowsSome layout shapes (StoreElement array place word (Some op)) v u →
            HasMade layout shapes op (action.StoreElement cell array place value) Done v u []
            (barrier_for cell (val_word value))
        put_property_by u f =
            wrote u (subst (λ (x : ℕ). FollowsSome layout shapes (StoreElement array place x (Some op)) v u) is f)
