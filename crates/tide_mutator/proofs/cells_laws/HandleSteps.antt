-- StrongSet, StrongGet, WeakSet and WeakGet: the step on the handle makes the call.
use Rattle.std.proofs.Common.{ℕ, ◌≡◌, ◌<◌, refl, sym, ◌∙◌, ap, subst, true, List, [], None, Some}
use Rattle.tide_heap.specs.tide_call.Callers.{Planner}
use Rattle.tide_heap.specs.tide_call.ActionWords.{ActionWords}
use Rattle.tide_heap.specs.tide_call.Actions.{IsAction, is_told_by_registers}
use Rattle.tide_heap.specs.tide_call.declared.action.Action.TheVariants as action
use Rattle.tide_heap.specs.tide_layout.Region.{index_of_register}
use Rattle.tide_heap.specs.tide_layout.declared.region.Region.TheVariants as region
use Rattle.tide_heap.specs.tide_core.machine.Kind.{LoadStrong, LoadWeak, StoreStrong, StoreWeak}
use Rattle.tide_heap.specs.tide_core.machine.May.{MayCall, called}
use Rattle.tide_heap.specs.tide_core.machine.Owed.{filled_register, owed_register}
use Rattle.tide_heap.specs.tide_core.machine.Words.{value_of}
use Rattle.tide_heap.specs.tide_core.declared.machine.view.Duty.TheVariants.{Nothing}
use Rattle.tide_heap.specs.tide_core.declared.machine.view.View.{View}
use Rattle.tide_heap.specs.tide_core.machine.Moment.{Moment}
use Rattle.tide_heap.specs.tide_core.machine.kinds.StoreRootWord.{MayLoadStrong, MayLoadWeak, MayStoreStrong, MayStoreWeak, seen_view}
use Rattle.tide_model.specs.History.{state_after}
use Rattle.tide_model.specs.Layout.{Layout}
use Rattle.tide_model.specs.Refused.{ShapeLists}
use Rattle.tide_model.specs.State.{State}
use Rattle.tide_model.specs.declared.entry.Event.{Event}
use Rattle.tide_model.specs.declared.op.Op.{Op}
use Rattle.tide_model.specs.declared.op.Op.TheVariants.{Claim, StrongGet, StrongSet, WeakGet, WeakSet}
use Rattle.tide_model.specs.declared.op.Reply.TheVariants.{Done, Seen}
use Rattle.tide_model.specs.declared.val.Val.{Val}
use Rattle.tide_mutator.proofs.owed_laws.Entering.{made_by, may_call, none_born}
use Rattle.tide_mutator.proofs.owed_laws.Standing.{moment_in, stands_then}
use Rattle.tide_mutator.proofs.cells_laws.Unowned.{found_there}
use Rattle.tide_mutator.proofs.cells_laws.Values.{value_read}
use Rattle.tide_mutator.specs.owed.Calling.{IsCalling}
use Rattle.tide_mutator.specs.owed.Made.{HasMade}
use Rattle.tide_mutator.specs.owed.Standing.{IsPlanned, caller_of}
use Rattle.tide_heap.specs.steps.Follows.{Follows, FollowsSome, MayStep}
use Rattle.tide_heap.specs.tide_words.forms.ValueWord.{val_word}
use Rattle.tide_heap.specs.tide_words.heap.Heap.{Heap, write}
use Rattle.tide_heap.specs.tide_words.heap.Reading.{IsValueOf}

-- which operation has such an action
strong_set : (caller : Planner) (heap : Heap) (state : State) (op : Op) (at : ℕ) (value : Val) →
    is_told_by_registers op ≡ true → IsAction caller heap state op (action.StoreStrong at value) →
    (val : ℕ) × (op ≡ StrongSet at val) × (value ≡ state.registers caller.who val)
strong_set caller heap state (StrongSet a val) at value told is =
    let handle : a ≡ at = cc in
    let held : value ≡ state.registers caller.who val = cc in (val, ap (λ (n : ℕ). StrongSet n val) handle, held)
strong_set caller heap state (Claim src) at value told is = absurd is.1
strong_set caller heap state op at value told is = absurd (cc)

weak_set : (caller : Planner) (heap : Heap) (state : State) (op : Op) (at : ℕ) (value : Val) →
    is_told_by_registers op ≡ true → IsAction caller heap state op (action.StoreWeak at value) →
    (val : ℕ) × (op ≡ WeakSet at val) × (value ≡ state.registers caller.who val)
weak_set caller heap state (WeakSet a val) at value told is =
    let handle : a ≡ at = cc in
    let held : value ≡ state.registers caller.who val = cc in (val, ap (λ (n : ℕ). WeakSet n val) handle, held)
weak_set caller heap state (Claim src) at value told is = absurd is.1
weak_set caller heap state op at value told is = absurd (cc)

strong_get : (caller : Planner) (heap : Heap) (state : State) (op : Op) (dst at : ℕ) →
    is_told_by_registers op ≡ true → IsAction caller heap state op (action.LoadStrong dst at) → op ≡ StrongGet dst at
strong_get caller heap state (StrongGet d a) dst at told is =
    let handle : a ≡ at = cc in
    let register : d ≡ dst = cc in ap (λ (n : ℕ). StrongGet n a) register ∙ ap (StrongGet dst) handle
strong_get caller heap state (Claim src) dst at told is = absurd is.1
strong_get caller heap state op dst at told is = absurd (cc)

weak_get : (caller : Planner) (heap : Heap) (state : State) (op : Op) (dst at : ℕ) →
    is_told_by_registers op ≡ true → IsAction caller heap state op (action.LoadWeak dst at) → op ≡ WeakGet dst at
weak_get caller heap state (WeakGet d a) dst at told is =
    let handle : a ≡ at = cc in
    let register : d ≡ dst = cc in ap (λ (n : ℕ). WeakGet n a) register ∙ ap (WeakGet dst) handle
weak_get caller heap state (Claim src) dst at told is = absurd is.1
weak_get caller heap state op dst at told is = absurd (cc)

-- storing
module _ (layout : Layout) (shapes : ShapeLists) (v : View) (op : Op) (at : ℕ) (value : Val)
    (calling : IsCalling layout v op) where
  pub may_store_strong : IsPlanned layout shapes v op (action.StoreStrong at value) → is_told_by_registers op ≡ true →
      MayStep layout shapes v (StoreStrong at (val_word value) (Some op))
  may_store_strong planned told w running is =
      let m = moment_in layout shapes w v region.Strong at running is in
      let here = planned m.settled w.log (stands_then layout shapes v w.log region.Strong at _ calling.stays m) in
      let (val, same, held) = strong_set (caller_of layout shapes v) m.settled (state_after layout w.log) op at value told here in
      subst (λ (o : Op). MayStoreStrong layout shapes w v.who at (val_word value) (Some o)) (sym same) (
        refl,
        ap val_word held,
        subst (λ (o : Op). MayCall layout shapes w v.who o Done None) same
            (may_call layout shapes w v op (action.StoreStrong at value) Done None region.Strong at (w.heap region.Strong at) is
            calling planned m (write m.settled region.Strong at (val_word value)) (refl, λ other index below. refl)
            (λ class full. absurd (cc))),
      )

  pub stored_strong : IsPlanned layout shapes v op (action.StoreStrong at value) → (u : View) →
      FollowsSome layout shapes (StoreStrong at (val_word value) (Some op)) v u →
      HasMade layout shapes op (action.StoreStrong at value) Done v u [] Nothing
  stored_strong planned u f = record {
    made = made_by layout shapes op (action.StoreStrong at value) Done None v u (called [] v) f.1.log region.Strong at f.0 calling
        f.1.moment f.1.lawful f.1.own f.1.view (write f.1.moment.settled region.Strong at (val_word value))
        (refl, λ other index below. refl) refl refl (λ stays. refl) (λ is. absurd (cc)) (none_born v.born);
    owed = ap (λ (x : View). x.owed) f.1.view;
    duty = ap (λ (x : View). x.duty) f.1.view ∙ calling.between.duty;
  }

  pub may_store_weak : IsPlanned layout shapes v op (action.StoreWeak at value) → is_told_by_registers op ≡ true →
      MayStep layout shapes v (StoreWeak at (val_word value) (Some op))
  may_store_weak planned told w running is =
      let m = moment_in layout shapes w v region.Weak at running is in
      let here = planned m.settled w.log (stands_then layout shapes v w.log region.Weak at _ calling.stays m) in
      let (val, same, held) = weak_set (caller_of layout shapes v) m.settled (state_after layout w.log) op at value told here in
      subst (λ (o : Op). MayStoreWeak layout shapes w v.who at (val_word value) (Some o)) (sym same) (
        refl,
        ap val_word held,
        subst (λ (o : Op). MayCall layout shapes w v.who o Done None) same
            (may_call layout shapes w v op (action.StoreWeak at value) Done None region.Weak at (w.heap region.Weak at) is
            calling planned m (write m.settled region.Weak at (val_word value)) (refl, λ other index below. refl)
            (λ class full. absurd (cc))),
      )

  pub stored_weak : IsPlanned layout shapes v op (action.StoreWeak at value) → (u : View) →
      FollowsSome layout shapes (StoreWeak at (val_word value) (Some op)) v u →
      HasMade layout shapes op (action.StoreWeak at value) Done v u [] Nothing
  stored_weak planned u f = record {
    made = made_by layout shapes op (action.StoreWeak at value) Done None v u (called [] v) f.1.log region.Weak at f.0 calling
        f.1.moment f.1.lawful f.1.own f.1.view (write f.1.moment.settled region.Weak at (val_word value))
        (refl, λ other index below. refl) refl refl (λ stays. refl) (λ is. absurd (cc)) (none_born v.born);
    owed = ap (λ (x : View). x.owed) f.1.view;
    duty = ap (λ (x : View). x.duty) f.1.view ∙ calling.between.duty;
  }

-- loading
module _ (layout : Layout) (shapes : ShapeLists) (v : View) (op : Op) (dst at : ℕ)
    (calling : IsCalling layout v op) where
  -- what the word of a strong handle says
  pub strong_value : at < layout.strong → (log : List Event) (read : ℕ) →
      (m : Moment layout shapes v log region.Strong at read) → IsValueOf (value_of read) read
  strong_value below log read m = value_read ((state_after layout log).strong at) read
      (subst (λ (word : ℕ). IsValueOf ((state_after layout log).strong at) word)
      (found_there layout shapes v log region.Strong at read refl (refl, refl, refl, refl, refl) (λ gone. gone) m)
      (m.reads.roots.strong at below))

  pub weak_value : at < layout.weak → (log : List Event) (read : ℕ) →
      (m : Moment layout shapes v log region.Weak at read) → IsValueOf (value_of read) read
  weak_value below log read m = value_read ((state_after layout log).weak at) read
      (subst (λ (word : ℕ). IsValueOf ((state_after layout log).weak at) word)
      (found_there layout shapes v log region.Weak at read refl (refl, refl, refl, refl, refl) (λ gone. gone) m)
      (m.reads.roots.weak at below))

  strong_words : at < layout.strong → (log : List Event) (read : ℕ) →
      (m : Moment layout shapes v log region.Strong at read) →
      ActionWords layout m.settled v.who (action.LoadStrong dst at) (Seen (value_of read)) None
      (write m.settled region.Registers (index_of_register layout v.who dst) (val_word (value_of read)))
  strong_words below log read m = (
    refl,
    subst (λ (word : ℕ). IsValueOf (value_of read) word)
        (sym (found_there layout shapes v log region.Strong at read refl (refl, refl, refl, refl, refl) (λ gone. gone)
        m))
        (strong_value below log read m),
    λ other index within. refl,
  )

  weak_words : at < layout.weak → (log : List Event) (read : ℕ) →
      (m : Moment layout shapes v log region.Weak at read) →
      ActionWords layout m.settled v.who (action.LoadWeak dst at) (Seen (value_of read)) None
      (write m.settled region.Registers (index_of_register layout v.who dst) (val_word (value_of read)))
  weak_words below log read m = (
    refl,
    subst (λ (word : ℕ). IsValueOf (value_of read) word)
        (sym (found_there layout shapes v log region.Weak at read refl (refl, refl, refl, refl, refl) (λ gone. gone) m))
        (weak_value below log read m),
    λ other index within. refl,
  )

  pub may_load_strong : at < layout.strong → IsPlanned layout shapes v op (action.LoadStrong dst at) →
      is_told_by_registers op ≡ true → MayStep layout shapes v (LoadStrong at (Some op))
  may_load_strong below planned told w running is =
      let read = w.heap region.Strong at in
      let m = moment_in layout shapes w v region.Strong at running is in
      let here = planned m.settled w.log (stands_then layout shapes v w.log region.Strong at read calling.stays m) in
      let same = strong_get (caller_of layout shapes v) m.settled (state_after layout w.log) op dst at told here in
      subst (λ (o : Op). MayLoadStrong layout shapes w v.who at read (Some o)) (sym same) (
        refl,
        subst (λ (o : Op). MayCall layout shapes w v.who o (Seen (value_of read)) None) same
            (may_call layout shapes w v op (action.LoadStrong dst at) (Seen (value_of read)) None region.Strong at read is calling
            planned m (write m.settled region.Registers (index_of_register layout v.who dst) (val_word (value_of read)))
            (strong_words below w.log read m) (λ class full. absurd (cc))),
      )

  pub may_load_weak : at < layout.weak → IsPlanned layout shapes v op (action.LoadWeak dst at) →
      is_told_by_registers op ≡ true → MayStep layout shapes v (LoadWeak at (Some op))
  may_load_weak below planned told w running is =
      let read = w.heap region.Weak at in
      let m = moment_in layout shapes w v region.Weak at running is in
      let here = planned m.settled w.log (stands_then layout shapes v w.log region.Weak at read calling.stays m) in
      let same = weak_get (caller_of layout shapes v) m.settled (state_after layout w.log) op dst at told here in
      subst (λ (o : Op). MayLoadWeak layout shapes w v.who at read (Some o)) (sym same) (
        refl,
        subst (λ (o : Op). MayCall layout shapes w v.who o (Seen (value_of read)) None) same
            (may_call layout shapes w v op (action.LoadWeak dst at) (Seen (value_of read)) None region.Weak at read is calling
            planned m (write m.settled region.Registers (index_of_register layout v.who dst) (val_word (value_of read)))
            (weak_words below w.log read m) (λ class full. absurd (cc))),
      )

  -- of which operation it is, where it may stand somewhere
  op_of_strong : IsPlanned layout shapes v op (action.LoadStrong dst at) → is_told_by_registers op ≡ true →
      (log : List Event) (read : ℕ) → Moment layout shapes v log region.Strong at read → op ≡ StrongGet dst at
  op_of_strong planned told log read m = strong_get (caller_of layout shapes v) m.settled (state_after layout log) op dst at told
      (planned m.settled log (stands_then layout shapes v log region.Strong at read calling.stays m))

  op_of_weak : IsPlanned layout shapes v op (action.LoadWeak dst at) → is_told_by_registers op ≡ true →
      (log : List Event) (read : ℕ) → Moment layout shapes v log region.Weak at read → op ≡ WeakGet dst at
  op_of_weak planned told log read m = weak_get (caller_of layout shapes v) m.settled (state_after layout log) op dst at told
      (planned m.settled log (stands_then layout shapes v log region.Weak at read calling.stays m))

  pub loaded_strong : at < layout.strong → IsPlanned layout shapes v op (action.LoadStrong dst at) →
      is_told_by_registers op ≡ true → (read : ℕ) (u : View) → Follows layout shapes (LoadStrong at (Some op)) v read u →
      HasMade layout shapes op (action.LoadStrong dst at) (Seen (value_of read)) v u
      (owed_register layout v.who (Some dst) (value_of read)) Nothing
  loaded_strong below planned told read u f = record {
    made = made_by layout shapes op (action.LoadStrong dst at) (Seen (value_of read)) None v u
        (seen_view layout v.who read (Some op) v) f.log region.Strong at read calling f.moment f.lawful f.own f.view
        (write f.moment.settled region.Registers (index_of_register layout v.who dst) (val_word (value_of read)))
        (strong_words below f.log read f.moment) refl refl (λ stays. refl) (λ is. absurd (cc)) (none_born v.born);
    owed = ap (λ (x : View). x.owed) f.view
        ∙ ap (λ (o : Op). owed_register layout v.who (filled_register o) (value_of read))
        (op_of_strong planned told f.log read f.moment);
    duty = ap (λ (x : View). x.duty) f.view ∙ calling.between.duty;
  }

  pub loaded_weak : at < layout.weak → IsPlanned layout shapes v op (action.LoadWeak dst at) →
      is_told_by_registers op ≡ true → (read : ℕ) (u : View) → Follows layout shapes (LoadWeak at (Some op)) v read u →
      HasMade layout shapes op (action.LoadWeak dst at) (Seen (value_of read)) v u
      (owed_register layout v.who (Some dst) (value_of read)) Nothing
  loaded_weak below planned told read u f = record {
    made = made_by layout shapes op (action.LoadWeak dst at) (Seen (value_of read)) None v u
        (seen_view layout v.who read (Some op) v) f.log region.Weak at read calling f.moment f.lawful f.own f.view
        (write f.moment.settled region.Registers (index_of_register layout v.who dst) (val_word (value_of read)))
        (weak_words below f.log read f.moment) refl refl (λ stays. refl) (λ is. absurd (cc)) (none_born v.born);
    owed = ap (λ (x : View). x.owed) f.view
        ∙ ap (λ (o : Op). owed_register layout v.who (filled_register o) (value_of read))
        (op_of_weak planned told f.log read f.moment);
    duty = ap (λ (x : View). x.duty) f.view ∙ calling.between.duty;
  }

-- the same by other names of the handle and of the word
module _ (layout : Layout) (shapes : ShapeLists) (v : View) (op : Op) (at handle : ℕ) (same : handle ≡ at)
    (calling : IsCalling layout v op) (told : is_told_by_registers op ≡ true) where
  module _ (value : Val) (word : ℕ) (is : word ≡ val_word value) where
    pub may_put_strong : IsPlanned layout shapes v op (action.StoreStrong at value) →
        MayStep layout shapes v (StoreStrong handle word (Some op))
    may_put_strong planned = subst (λ (h : ℕ). MayStep layout shapes v (StoreStrong h word (Some op))) (sym same)
        (subst (λ (x : ℕ). MayStep layout shapes v (StoreStrong at x (Some op))) (sym is)
        (may_store_strong layout shapes v op at value calling planned told))

    pub put_strong_by : IsPlanned layout shapes v op (action.StoreStrong at value) → (u : View) →
        FollowsSome layout shapes (StoreStrong handle word (Some op)) v u →
        HasMade layout shapes op (action.StoreStrong at value) Done v u [] Nothing
    put_strong_by planned u f = stored_strong layout shapes v op at value calling planned u
        (subst (λ (x : ℕ). FollowsSome layout shapes (StoreStrong at x (Some op)) v u) is
        (subst (λ (h : ℕ). FollowsSome layout shapes (StoreStrong h word (Some op)) v u) same f))

    pub may_put_weak : IsPlanned layout shapes v op (action.StoreWeak at value) →
        MayStep layout shapes v (StoreWeak handle word (Some op))
    may_put_weak planned = subst (λ (h : ℕ). MayStep layout shapes v (StoreWeak h word (Some op))) (sym same)
        (subst (λ (x : ℕ). MayStep layout shapes v (StoreWeak at x (Some op))) (sym is)
        (may_store_weak layout shapes v op at value calling planned told))

    pub put_weak_by : IsPlanned layout shapes v op (action.StoreWeak at value) → (u : View) →
        FollowsSome layout shapes (StoreWeak handle word (Some op)) v u →
        HasMade layout shapes op (action.StoreWeak at value) Done v u [] Nothing
    put_weak_by planned u f = stored_weak layout shapes v op at value calling planned u
        (subst (λ (x : ℕ). FollowsSome layout shapes (StoreWeak at x (Some op)) v u) is
        (subst (λ (h : ℕ). FollowsSome layout shapes (StoreWeak h word (Some op)) v u) same f))

  module _ (dst : ℕ) where
    pub may_get_strong : at < layout.strong → IsPlanned layout shapes v op (action.LoadStrong dst at) →
        MayStep layout shapes v (LoadStrong handle (Some op))
    may_get_strong below planned = subst (λ (h : ℕ). MayStep layout shapes v (LoadStrong h (Some op))) (sym same)
        (may_load_strong layout shapes v op dst at calling below planned told)

    module _ (below : at < layout.strong) (planned : IsPlanned layout shapes v op (action.LoadStrong dst at)) (read : ℕ)
        (u : View) (f : Follows layout shapes (LoadStrong handle (Some op)) v read u) where
      by_its_name : Follows layout shapes (LoadStrong at (Some op)) v read u
      by_its_name = subst (λ (h : ℕ). Follows layout shapes (LoadStrong h (Some op)) v read u) same f

      pub got_strong_value : IsValueOf (value_of read) read
      got_strong_value = strong_value layout shapes v op dst at calling below by_its_name.log read by_its_name.moment

      pub got_strong_by : HasMade layout shapes op (action.LoadStrong dst at) (Seen (value_of read)) v u
          (owed_register layout v.who (Some dst) (value_of read)) Nothing
      got_strong_by = loaded_strong layout shapes v op dst at calling below planned told read u by_its_name

    pub may_get_weak : at < layout.weak → IsPlanned layout shapes v op (action.LoadWeak dst at) →
        MayStep layout shapes v (LoadWeak handle (Some op))
    may_get_weak below planned = subst (λ (h : ℕ). MayStep layout shapes v (LoadWeak h (Some op))) (sym same)
        (may_load_weak layout shapes v op dst at calling below planned told)

    module _ (below : at < layout.weak) (planned : IsPlanned layout shapes v op (action.LoadWeak dst at)) (read : ℕ)
        (u : View) (f : Follows layout shapes (LoadWeak handle (Some op)) v read u) where
      by_this_name : Follows layout shapes (LoadWeak at (Some op)) v read u
      by_this_name = subst (λ (h : ℕ). Follows layout shapes (LoadWeak h (Some op)) v read u) same f

      pub got_weak_value : IsValueOf (value_of read) read
      got_weak_value = weak_value layout shapes v op dst at calling below by_this_name.log read by_this_name.moment

      pub got_weak_by : HasMade layout shapes op (action.LoadWeak dst at) (Seen (value_of read)) v u
          (owed_register layout v.who (Some dst) (value_of read)) Nothing
      got_weak_by = loaded_weak layout shapes v op dst at calling below planned told read u by_this_name
