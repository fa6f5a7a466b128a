-- Get and Put: the step on the slot makes the call.
use Rattle.std.proofs.Common.{ℕ, ◌≡◌, ◌<◌, refl, sym, ◌∙◌, ap, subst, Bool, true, List, [], None, Some}
use Rattle.tide_heap.proofs.tide_call.reading_laws.CallReading.{slot_allowed}
use Rattle.tide_heap.specs.tide_call.Callers.{Planner}
use Rattle.tide_heap.specs.tide_call.ActionWords.{ActionWords}
use Rattle.tide_heap.specs.tide_call.Actions.{IsAction, is_told_by_registers}
use Rattle.tide_heap.specs.tide_call.declared.action.Action.TheVariants as action
use Rattle.tide_heap.specs.tide_layout.Region.{index_of_register}
use Rattle.tide_heap.specs.tide_layout.Slots.{index_of_slot}
use Rattle.tide_heap.specs.tide_layout.declared.region.Region.TheVariants as region
use Rattle.tide_heap.specs.tide_core.machine.Kind.{LoadLink, StoreLink}
use Rattle.tide_heap.specs.tide_core.machine.May.{MayCall, barrier_for}
use Rattle.tide_heap.specs.tide_core.machine.Moment.{Moment}
use Rattle.tide_heap.specs.tide_core.machine.Owed.{filled_register, owed_register}
use Rattle.tide_heap.specs.tide_core.machine.Words.{value_of}
use Rattle.tide_heap.specs.tide_core.declared.machine.view.Duty.TheVariants.{Nothing}
use Rattle.tide_heap.specs.tide_core.declared.machine.view.View.{View}
use Rattle.tide_heap.specs.tide_core.machine.kinds.LoadLink.{MayLoadLink}
use Rattle.tide_heap.specs.tide_core.machine.kinds.StoreLink.{MayStoreLink, linked_view}
use Rattle.tide_heap.specs.tide_core.machine.kinds.StoreRootWord.{seen_view}
use Rattle.tide_model.specs.History.{state_after}
use Rattle.tide_model.specs.Layout.{Layout, class_of, slots_of}
use Rattle.tide_model.specs.Refused.{ShapeLists}
use Rattle.tide_model.specs.State.{State, is_free}
use Rattle.tide_model.specs.declared.entry.Event.{Event}
use Rattle.tide_model.specs.declared.op.Op.{Op}
use Rattle.tide_model.specs.declared.op.Op.TheVariants.{Claim, Get, Put}
use Rattle.tide_model.specs.declared.op.Reply.TheVariants.{Done, Seen}
use Rattle.tide_model.specs.declared.val.Val.{Val}
use Rattle.tide_model.specs.declared.val.Val.TheVariants.{Cell}
use Rattle.tide_mutator.proofs.owed_laws.Entering.{made_by, may_call, none_born}
use Rattle.tide_mutator.proofs.owed_laws.Standing.{moment_in, stands_then}
use Rattle.tide_mutator.proofs.cells_laws.Unowned.{slot_found}
use Rattle.tide_mutator.proofs.cells_laws.Values.{value_read}
use Rattle.tide_mutator.specs.owed.Calling.{IsCalling}
use Rattle.tide_mutator.specs.owed.Made.{HasMade}
use Rattle.tide_mutator.specs.owed.Standing.{IsPlanned, MutatorStandsAt, caller_of}
use Rattle.tide_heap.specs.steps.Follows.{Follows, FollowsSome, MayStep}
use Rattle.tide_heap.proofs.tide_words.heap_laws.ReadingLaws.{live_within}
use Rattle.tide_heap.specs.tide_words.forms.ValueWord.{val_word}
use Rattle.tide_heap.specs.tide_words.heap.Heap.{Heap, write}
use Rattle.tide_heap.specs.tide_words.heap.Reading.{IsValueOf, slot_word}

-- which operation has such an action, and that its cell has the slot
record IsGet (caller : Planner) (state : State) (op : Op) (dst cell slot : ℕ) : Type 0 where
  src : ℕ
  same : op ≡ Get dst src slot
  source : state.registers caller.who src ≡ Cell cell
  below : slot < slots_of (class_of caller.layout cell)

is_get : (caller : Planner) (heap : Heap) (state : State) (op : Op) (dst cell slot : ℕ) → is_told_by_registers op ≡ true →
    IsAction caller heap state op (action.LoadSlot dst cell slot) → IsGet caller state op dst cell slot
is_get caller heap state (Get d src n) dst cell slot told (granted, (at, source, has, is)) =
    let register : d ≡ dst = cc in
    let number : n ≡ slot = cc in
    let same : at ≡ cell = cc in
    let holds : state.registers caller.who src ≡ Cell cell = source ∙ ap Cell same in record {
      src = src;
      same = ap (λ (r : ℕ). Get r src n) register ∙ ap (Get dst src) number;
      source = holds;
      below = subst (λ (k : ℕ). k < slots_of (class_of caller.layout cell)) number
          (slot_allowed caller.layout (state.registers caller.who src) src n cell holds granted);
    }
is_get caller heap state (Claim src) dst cell slot told is = absurd is.1
is_get caller heap state op dst cell slot told is = absurd (cc)

record IsPut (caller : Planner) (state : State) (op : Op) (cell slot : ℕ) (value : Val) : Type 0 where
  src : ℕ
  val : ℕ
  same : op ≡ Put src slot val
  source : state.registers caller.who src ≡ Cell cell
  held : value ≡ state.registers caller.who val
  below : slot < slots_of (class_of caller.layout cell)

is_put : (caller : Planner) (heap : Heap) (state : State) (op : Op) (cell slot : ℕ) (value : Val) →
    is_told_by_registers op ≡ true → IsAction caller heap state op (action.StoreSlot cell slot value) →
    IsPut caller state op cell slot value
is_put caller heap state (Put src n val) cell slot value told (granted, (at, source, has, is)) =
    let number : n ≡ slot = cc in
    let same : at ≡ cell = cc in
    let given : value ≡ state.registers caller.who val = cc in
    let holds : state.registers caller.who src ≡ Cell cell = source ∙ ap Cell same in record {
      src = src;
      val = val;
      same = ap (λ (k : ℕ). Put src k val) number;
      source = holds;
      held = given;
      below = subst (λ (k : ℕ). k < slots_of (class_of caller.layout cell)) number
          (slot_allowed caller.layout (state.registers caller.who src) src n cell holds granted);
    }
is_put caller heap state (Claim src) cell slot value told is = absurd is.1
is_put caller heap state op cell slot value told is = absurd (cc)

-- seeing
module _ (layout : Layout) (shapes : ShapeLists) (v : View) (op : Op) (dst cell slot : ℕ)
    (calling : IsCalling layout v op) (told : is_told_by_registers op ≡ true)
    (planned : IsPlanned layout shapes v op (action.LoadSlot dst cell slot)) where
  abbrev at : ℕ
  at = index_of_slot layout cell slot

  get_there : (heap : Heap) (log : List Event) → MutatorStandsAt layout shapes v heap log →
      IsGet (caller_of layout shapes v) (state_after layout log) op dst cell slot
  get_there heap log stands =
      is_get (caller_of layout shapes v) heap (state_after layout log) op dst cell slot told (planned heap log stands)

  -- what the word of the slot says
  pub slot_value : (log : List Event) (read : ℕ) → (m : Moment layout shapes v log region.Slots at read) →
      IsValueOf (value_of read) read × (slot_word layout m.settled cell slot ≡ read)
  slot_value log read m =
      let state = state_after layout log in
      let stands = stands_then layout shapes v log region.Slots at read calling.stays m in
      let is = get_there m.settled log stands in
      let alive = m.refs.in_registers v.who is.src cell stands.active is.source in
      let within = live_within layout shapes m.settled state cell m.reads alive in
      let found = slot_found layout shapes v log cell slot read within is.below alive m in (
        value_read ((state.cells cell).slots slot) read
            (subst (λ (word : ℕ). IsValueOf ((state.cells cell).slots slot) word) found
            (((m.reads.parts.cells cell within).taken (ap is_free alive)).slots slot is.below)),
        found,
      )

  get_words : (log : List Event) (read : ℕ) → (m : Moment layout shapes v log region.Slots at read) →
      ActionWords layout m.settled v.who (action.LoadSlot dst cell slot) (Seen (value_of read)) None
      (write m.settled region.Registers (index_of_register layout v.who dst) (val_word (value_of read)))
  get_words log read m =
      let (is, found) = slot_value log read m in
      (refl, subst (λ (word : ℕ). IsValueOf (value_of read) word) (sym found) is, λ other index within. refl)

  pub may_get : MayStep layout shapes v (LoadLink cell slot (Some op))
  may_get w running is =
      let read = w.heap region.Slots at in
      let m = moment_in layout shapes w v region.Slots at running is in
      let here = get_there m.settled w.log (stands_then layout shapes v w.log region.Slots at read calling.stays m) in
      subst (λ (o : Op). MayLoadLink layout shapes w v.who cell slot read (Some o)) (sym here.same) (
        refl,
        here.source,
        subst (λ (o : Op). MayCall layout shapes w v.who o (Seen (value_of read)) None) here.same
            (may_call layout shapes w v op (action.LoadSlot dst cell slot) (Seen (value_of read)) None region.Slots at read is calling
            planned m (write m.settled region.Registers (index_of_register layout v.who dst) (val_word (value_of read)))
            (get_words w.log read m) (λ class full. absurd (cc))),
      )

  pub got_by : (read : ℕ) (u : View) → Follows layout shapes (LoadLink cell slot (Some op)) v read u →
      HasMade layout shapes op (action.LoadSlot dst cell slot) (Seen (value_of read)) v u
      (owed_register layout v.who (Some dst) (value_of read)) Nothing
  got_by read u f = record {
    made = made_by layout shapes op (action.LoadSlot dst cell slot) (Seen (value_of read)) None v u
        (seen_view layout v.who read (Some op) v) f.log region.Slots at read calling f.moment f.lawful f.own f.view
        (write f.moment.settled region.Registers (index_of_register layout v.who dst) (val_word (value_of read)))
        (get_words f.log read f.moment) refl refl (λ stays. refl) (λ is. absurd (cc)) (none_born v.born);
    owed = ap (λ (x : View). x.owed) f.view
        ∙ ap (λ (o : Op). owed_register layout v.who (filled_register o) (value_of read))
        (get_there f.moment.settled f.log
        (stands_then layout shapes v f.log region.Slots at read calling.stays f.moment)).same;
    duty = ap (λ (x : View). x.duty) f.view ∙ calling.between.duty;
  }

-- storing
module _ (layout : Layout) (shapes : ShapeLists) (v : View) (op : Op) (cell slot : ℕ) (value : Val)
    (calling : IsCalling layout v op) (told : is_told_by_registers op ≡ true)
    (planned : IsPlanned layout shapes v op (action.StoreSlot cell slot value)) where
  abbrev place : ℕ
  place = index_of_slot layout cell slot

  pub may_put : MayStep layout shapes v (StoreLink cell slot (val_word value) (Some op))
  may_put w running is =
      let read = w.heap region.Slots place in
      let m = moment_in layout shapes w v region.Slots place running is in
      let here = is_put (caller_of layout shapes v) m.settled (state_after layout w.log) op cell slot value told
      (planned m.settled w.log (stands_then layout shapes v w.log region.Slots place read calling.stays m)) in
      subst (λ (o : Op). MayStoreLink layout shapes w v.who cell slot (val_word value) (Some o)) (sym here.same) (
        refl,
        here.below,
        here.source,
        ap val_word here.held,
        subst (λ (o : Op). MayCall layout shapes w v.who o Done None) here.same
            (may_call layout shapes w v op (action.StoreSlot cell slot value) Done None region.Slots place read is calling
            planned m (write m.settled region.Slots place (val_word value)) (refl, λ other index within. refl)
            (λ class full. absurd (cc))),
      )

  pub put_by : (u : View) → FollowsSome layout shapes (StoreLink cell slot (val_word value) (Some op)) v u →
      HasMade layout shapes op (action.StoreSlot cell slot value) Done v u [] (barrier_for cell (val_word value))
  put_by u f = record {
    made = made_by layout shapes op (action.StoreSlot cell slot value) Done None v u (linked_view cell (val_word value) v) f.1.log
        region.Slots place f.0 calling f.1.moment f.1.lawful f.1.own f.1.view
        (write f.1.moment.settled region.Slots place (val_word value)) (refl, λ other index within. refl) refl refl
        (λ stays. refl) (λ is. absurd (cc)) (none_born v.born);
    owed = ap (λ (x : View). x.owed) f.1.view;
    duty = ap (λ (x : View). x.duty) f.1.view;
  }

  -- so it is of a word that is the value's
  pub may_put_with : (word : ℕ) → word ≡ val_word value → MayStep layout shapes v (StoreLink cell slot word (Some op))
  may_put_with word is = subst (λ (x : ℕ). MayStep layout shapes v (StoreLink cell slot x (Some op))) (sym is) may_put

  pub put_with : (word : ℕ) → word ≡ val_word value → (u : View) →
      FollowsSome layout shapes (StoreLink cell slot word (Some op)) v u →
      HasMade layout shapes op (action.StoreSlot cell slot value) Done v u [] (barrier_for cell (val_word value))
  put_with word is u f =
      put_by u (subst (λ (x : ℕ). FollowsSome layout shapes (StoreLink cell slot x (Some op)) v u) is f)
