-- No call makes a reference to a cell that isn't live.
use Rattle.std.proofs.Common.{ℕ, suc, ◌≡◌, ◌+◌, ◌<◌, refl, sym, ◌∙◌, ap, subst, arith, Bool, true, false, List, [], ◌∷◌, ◌++◌, length, inl, inr, ◌≢◌, length-append}
use Rattle.std.proofs.lemmas.Bool.{eqb-true, eqb-false}
use Rattle.std.proofs.lemmas.List.Elements.{Contains-push_cases, All-contains, All-filter, All-drop, All-contains_itself}
use Rattle.std.specs.Prelude.{◌==◌, ◌||◌, if◌then◌else◌, not, Contains, filter, drop, Option, None, Some}
use Rattle.tide_model.specs.declared.val.Val.{Val}
use Rattle.tide_model.specs.declared.val.Val.TheVariants.{Empty, Int, Cell}
use Rattle.tide_model.specs.declared.op.Op.{Op}
use Rattle.tide_model.specs.declared.op.Op.TheVariants.{Alloc, Table, Get, Put, Move, Set, Drop, Claim, Release, Unclaim, Add, GetProp, SetProp, StrongSet, StrongGet, WeakSet, WeakGet, PairSet, PairGet, PairDel, Group, Collect, Retire}
use Rattle.tide_model.specs.declared.op.Reply.{Reply}
use Rattle.tide_model.specs.declared.op.Reply.TheVariants.{Done, Born, Seen, Asked, Refused}
use Rattle.tide_model.specs.declared.op.Refusal.{Refusal}
use Rattle.tide_model.specs.declared.op.Refusal.TheVariants.{IsTable, NotHeld, Absent}
use Rattle.tide_model.specs.Layout.{Layout}
use Rattle.tide_model.specs.Numbers.{is_among, put_at}
use Rattle.tide_model.specs.State.{State, free, live, spent}
use Rattle.tide_model.specs.Applied.{after_call, slot_of, at_cell, put_cell, put_claims, place_of, property_of, add_property, put_property, pair_of, put_pair, spend, exchange_array, array_after}
use Rattle.tide_model.specs.Refused.{ShapeLists, refusal_of, refusal_at, first_of, refuse_if, is_table, holds, has_key, property_refusal}
use Rattle.tide_model.specs.Answer.{IsAnswer, IsAnswerUnless, IsGranted, AtCell, IsTakenFor}
use Rattle.tide_model.specs.References.{IsLiveValue, RefsAreLive, IsLive}
pub use Rattle.tide_model.proofs.NumberLaws.{put_at_elim}
pub use Rattle.tide_model.proofs.ReferenceSteps.{RefsAreLive-empty}
use Rattle.tide_model.proofs.ReferenceSteps.{RefsAreLive-cell, HoldsLive-itself, RefsAreLive-register, RefsAreLive-strong, RefsAreLive-weak, RefsAreLive-claims, RefsAreLive-retire, RefsAreLive-slot, RefsAreLive-property, RefsAreLive-pair, RefsAreLive-group, RefsAreLive-born}

-- a live cell has one more property, and the free array that was taken for it
pub RefsAreLive-add : (layout : Layout) (state : State) (cell key : ℕ) (value : Val) (took : Option ℕ) → RefsAreLive state → IsLive state cell → IsLiveValue state value →
    IsTakenFor layout state cell took → RefsAreLive (add_property state cell key value took)
RefsAreLive-add layout state cell key value took refs cell_is_live alive taken =
    let before = HoldsLive-itself state cell refs cell_is_live in
    let old = state.cells cell in
    RefsAreLive-cell state cell (record old {
      keys = old.keys ++ key ∷ [];
      properties = put_at old.properties (length old.keys) value;
      array = array_after old.array took;
    }) (exchange_array state.arrays old.array took) refs (record {
      is_live = before.is_live;
      slots = before.slots;
      properties = λ p named below. put_at_elim (λ n v. n < length (old.keys ++ key ∷ []) → v ≡ Cell named → IsLive state named) old.properties (length old.keys) value
          (λ _. alive named)
          (λ n other within. before.properties n named (let long = length-append old.keys (key ∷ []) in omega (arith, within, long, other))) p below;
      keys_of_pairs = before.keys_of_pairs;
      pairs = before.pairs;
      array_is_live = own_is_live took taken;
      array_is_own = own_is_own took taken;
      others_stay = stay took taken;
    })
  where
    -- an array of another live cell is neither the free one nor the cell's
    kept : (taken other array : ℕ) → state.arrays taken ≡ free → other ≢ cell → IsLive state other → (state.cells other).array ≡ Some array → array ≢ taken
    kept a other array is_free apart other_is_live is same =
        let other_array : state.arrays array ≡ live = refs.arrays_are_live other array other_is_live is in
        let bad : free ≡ live = sym is_free ∙ ap state.arrays (sym same) ∙ other_array in
        absurd (cc)

    own_is_live : (t : Option ℕ) → IsTakenFor layout state cell t → (array : ℕ) → array_after (state.cells cell).array t ≡ Some array →
        exchange_array state.arrays (state.cells cell).array t array ≡ live
    own_is_live None _ array is = refs.arrays_are_live cell array cell_is_live is
    own_is_live (Some a) _ array is =
        let same : array ≡ a = cc in
        put_at_elim (λ n s. n ≡ a → s ≡ live) (spend state.arrays (state.cells cell).array) a live (λ _. refl) (λ n other is_a. absurd (other is_a)) array same

    own_is_own : (t : Option ℕ) → IsTakenFor layout state cell t → (other array : ℕ) → other ≢ cell → IsLive state other →
        (state.cells other).array ≡ Some array → array_after (state.cells cell).array t ≡ Some array → ⊥
    own_is_own None _ other array apart other_is_live is own = apart (refs.arrays_are_own other cell array other_is_live cell_is_live is own)
    own_is_own (Some a) by_taken other array apart other_is_live is own = kept a other array by_taken.1.is_free apart other_is_live is (cc)

    stay : (t : Option ℕ) → IsTakenFor layout state cell t → (other array : ℕ) → other ≢ cell → IsLive state other →
        (state.cells other).array ≡ Some array → exchange_array state.arrays (state.cells cell).array t array ≡ live
    stay None _ other array apart other_is_live is = refs.arrays_are_live other array other_is_live is
    stay (Some a) by_taken other array apart other_is_live is =
        put_at_elim (λ n s. n ≡ array → s ≡ live) (spend state.arrays (state.cells cell).array) a live
        (λ _. refl) (λ n differs same. spent_apart (state.cells cell).array refl n same) array refl
      where
        spent_apart : (old : Option ℕ) → (state.cells cell).array ≡ old → (n : ℕ) → n ≡ array → spend state.arrays old n ≡ live
        spent_apart None was n same = ap state.arrays same ∙ refs.arrays_are_live other array other_is_live is
        spent_apart (Some b) was n same = put_at_elim (λ m s. m ≡ array → s ≡ live) state.arrays b spent
            (λ own. absurd (apart (refs.arrays_are_own other cell array other_is_live cell_is_live is (was ∙ ap (λ (k : ℕ). Some k) own))))
            (λ m differs same_too. ap state.arrays same_too ∙ refs.arrays_are_live other array other_is_live is) n same

-- a key that a cell has stands among its keys
pub place_of-below : (keys : List ℕ) (key : ℕ) → is_among keys key ≡ true → place_of keys key < length keys
place_of-below [] key has = absurd (cc)
place_of-below (k ∷ keys) key has = step (k == key) refl (λ apart. place_of-below keys key (later (key == k) refl has apart))
  where
    later : (here : Bool) → (key == k) ≡ here → (here || is_among keys key) ≡ true → (k == key) ≡ false → is_among keys key ≡ true
    later true e h apart = absurd (eqb-false k key apart (sym (eqb-true key k e)))
    later false e h apart = h

    step : (same : Bool) → (k == key) ≡ same → ((k == key) ≡ false → place_of keys key < length keys) →
        (if not same then 1 + place_of keys key else 0) < suc (length keys)
    step true e below = omega arith
    step false e below = let less = below e in omega (arith, less)

-- what an active mutator's register holds, and what it reads of a live cell
pub IsLiveValue-register : (state : State) (who register : ℕ) → RefsAreLive state → state.active who ≡ true → IsLiveValue state (state.registers who register)
IsLiveValue-register state who register refs active = λ cell is. refs.in_registers who register cell active is

pub IsLiveValue-slot : (state : State) (source : Val) (slot : ℕ) → RefsAreLive state → IsLiveValue state source → IsLiveValue state (slot_of state source slot)
IsLiveValue-slot state Empty slot refs alive = λ cell is. absurd (cc)
IsLiveValue-slot state (Int n) slot refs alive = λ cell is. absurd (cc)
IsLiveValue-slot state (Cell source) slot refs alive = λ cell is. refs.in_slots source slot cell (alive source refl) is

pub IsLiveValue-property : (layout : Layout) (state : State) (who register key : ℕ) → RefsAreLive state → IsLiveValue state (state.registers who register) →
    property_refusal layout state who register key ≡ None → IsLiveValue state (property_of state (state.registers who register) key)
IsLiveValue-property layout state who register key refs source_is_live granted = step (state.registers who register) source_is_live granted
  where
    has : (of_table held present : Bool) → first_of (refuse_if of_table IsTable ∷ refuse_if (not held) NotHeld ∷ refuse_if (not present) Absent ∷ []) ≡ None → present ≡ true
    has true held present none = absurd (cc)
    has false true true none = refl
    has false true false none = absurd (cc)
    has false false present none = absurd (cc)

    step : (source : Val) → IsLiveValue state source →
        refusal_at source register (λ cell. first_of (
        refuse_if (is_table layout cell) IsTable
        ∷ refuse_if (not (holds state who cell)) NotHeld
        ∷ refuse_if (not (has_key state cell key)) Absent ∷ [])) ≡ None → IsLiveValue state (property_of state source key)
    step Empty alive none = λ cell is. absurd (cc)
    step (Int n) alive none = λ cell is. absurd (cc)
    step (Cell source) alive none = λ cell is.
        refs.in_properties source (place_of (state.cells source).keys key) cell (alive source refl)
        (place_of-below (state.cells source).keys key (has (is_table layout source) (holds state who source) (has_key state source key) none)) is

pub IsLiveValue-pair : (state : State) (table key : Val) (value : Val) → RefsAreLive state → IsLiveValue state table →
    AtCell table (λ cell. pair_of state cell key ≡ Some value) → IsLiveValue state value
IsLiveValue-pair state Empty key value refs alive at = absurd at
IsLiveValue-pair state (Int n) key value refs alive at = absurd at
IsLiveValue-pair state (Cell table) Empty value refs alive at = absurd (cc)
IsLiveValue-pair state (Cell table) (Int n) value refs alive at = absurd (cc)
IsLiveValue-pair state (Cell table) (Cell key) value refs alive at = λ cell is. refs.in_pairs table key cell (alive table refl) (at ∙ ap (λ (v : Val). Some v) is)

-- a change at the cell that a value names, if it names one
pub RefsAreLive-at_cell : (state : State) (value : Val) (change : ℕ → State) → RefsAreLive state → ((cell : ℕ) → value ≡ Cell cell → RefsAreLive (change cell)) →
    RefsAreLive (at_cell state value change)
RefsAreLive-at_cell state Empty change refs each = refs
RefsAreLive-at_cell state (Int n) change refs each = refs
RefsAreLive-at_cell state (Cell cell) change refs each = each cell refl

-- a refused call changes nothing
pub after_call-refused : (state : State) (who : ℕ) (op : Op) (refusal : Refusal) (took : Option ℕ) → after_call state who op (Refused refusal) took ≡ state
after_call-refused state who Collect refusal took = refl
after_call-refused state who op refusal took = refl

-- a call that is granted
RefsAreLive-granted : (layout : Layout) (shapes : ShapeLists) (state : State) (who : ℕ) (op : Op) (reply : Reply) (took : Option ℕ) →
    RefsAreLive state → state.active who ≡ true → refusal_of layout shapes state who op ≡ None → IsGranted layout state who op reply took →
    RefsAreLive (after_call state who op reply took)
RefsAreLive-granted layout shapes state who op (Refused refusal) took refs active none granted =
    subst RefsAreLive (sym (after_call-refused state who op refusal took)) refs
RefsAreLive-granted layout shapes state who (Alloc dst class) (Born cell) took refs active none granted = RefsAreLive-born state who dst cell refs
RefsAreLive-granted layout shapes state who (Table dst) (Born cell) took refs active none granted = RefsAreLive-born state who dst cell refs
RefsAreLive-granted layout shapes state who (Get dst src slot) (Seen value) took refs active none granted =
    RefsAreLive-register state who dst value refs
    (subst (IsLiveValue state) (sym granted.1) (IsLiveValue-slot state (state.registers who src) slot refs (IsLiveValue-register state who src refs active)))
RefsAreLive-granted layout shapes state who (Put src slot val) Done took refs active none granted =
    RefsAreLive-slot state (state.registers who src) slot (state.registers who val) refs (IsLiveValue-register state who src refs active) (IsLiveValue-register state who val refs active)
RefsAreLive-granted layout shapes state who (Move dst src) Done took refs active none granted =
    RefsAreLive-register state who dst (state.registers who src) refs (IsLiveValue-register state who src refs active)
RefsAreLive-granted layout shapes state who (Set dst n) Done took refs active none granted = RefsAreLive-register state who dst (Int n) refs (λ cell is. absurd (cc))
RefsAreLive-granted layout shapes state who (Drop dst) Done took refs active none granted = RefsAreLive-register state who dst Empty refs (λ cell is. absurd (cc))
RefsAreLive-granted layout shapes state who (Claim src) Done took refs active none granted =
    RefsAreLive-at_cell state (state.registers who src) (λ cell. put_claims state who (state.claims who ++ cell ∷ [])) refs
    (λ cell is. RefsAreLive-claims state who (state.claims who ++ cell ∷ []) refs
    (λ claimed at. elim (Contains-push_cases (state.claims who) cell claimed at) [
      | inl old ↦ refs.claimed who claimed old
      | inr same ↦ refs.in_registers who src claimed active (is ∙ ap (λ (c : ℕ). Cell c) same)
    ]))
RefsAreLive-granted layout shapes state who (Release src) Done took refs active none granted =
    RefsAreLive-at_cell state (state.registers who src) (λ cell. put_claims state who (filter (λ claimed. not (claimed == cell)) (state.claims who))) refs
    (λ cell is. RefsAreLive-claims state who (filter (λ claimed. not (claimed == cell)) (state.claims who)) refs
    (λ claimed at. refs.claimed who claimed (All-contains (Contains (state.claims who)) (filter (λ c. not (c == cell)) (state.claims who)) claimed
    (All-filter (λ c. not (c == cell)) (Contains (state.claims who)) (state.claims who) (All-contains_itself (state.claims who))) at)))
RefsAreLive-granted layout shapes state who Unclaim Done took refs active none granted =
    RefsAreLive-claims state who (drop 1 (state.claims who)) refs
    (λ claimed at. refs.claimed who claimed (All-contains (Contains (state.claims who)) (drop 1 (state.claims who)) claimed
    (All-drop (Contains (state.claims who)) 1 (state.claims who) (All-contains_itself (state.claims who))) at))
RefsAreLive-granted layout shapes state who (Add src key val) Done took refs active none granted =
    add (state.registers who src) (IsLiveValue-register state who src refs active) granted
  where
    add : (source : Val) → IsLiveValue state source → AtCell source (λ cell. IsTakenFor layout state cell took) →
        RefsAreLive (at_cell state source (λ cell. add_property state cell key (state.registers who val) took))
    add Empty alive taken = refs
    add (Int n) alive taken = refs
    add (Cell cell) alive taken =
        RefsAreLive-add layout state cell key (state.registers who val) took refs (alive cell refl) (IsLiveValue-register state who val refs active) taken
RefsAreLive-granted layout shapes state who (GetProp dst src key) (Seen value) took refs active none granted =
    RefsAreLive-register state who dst value refs
    (subst (IsLiveValue state) (sym granted.1) (IsLiveValue-property layout state who src key refs (IsLiveValue-register state who src refs active) none))
RefsAreLive-granted layout shapes state who (SetProp src key val) Done took refs active none granted =
    RefsAreLive-at_cell state (state.registers who src) (λ cell. put_property state cell key (state.registers who val)) refs
    (λ cell is. RefsAreLive-property state cell key (state.registers who val) refs (refs.in_registers who src cell active is) (IsLiveValue-register state who val refs active))
RefsAreLive-granted layout shapes state who (StrongSet at val) Done took refs active none granted =
    RefsAreLive-strong state at (state.registers who val) refs (IsLiveValue-register state who val refs active)
RefsAreLive-granted layout shapes state who (StrongGet dst at) (Seen value) took refs active none granted =
    RefsAreLive-register state who dst value refs (subst (IsLiveValue state) (sym granted.1) (refs.in_strong at))
RefsAreLive-granted layout shapes state who (WeakSet at val) Done took refs active none granted =
    RefsAreLive-weak state at (state.registers who val) refs (IsLiveValue-register state who val refs active)
RefsAreLive-granted layout shapes state who (WeakGet dst at) (Seen value) took refs active none granted =
    RefsAreLive-register state who dst value refs (subst (IsLiveValue state) (sym granted.1) (refs.in_weak at))
RefsAreLive-granted layout shapes state who (PairSet src key val) Done took refs active none granted =
    RefsAreLive-at_cell state (state.registers who src) (λ table. at_cell state (state.registers who key) (λ cell. put_pair state table cell (Some (state.registers who val)))) refs
    (λ table is. RefsAreLive-at_cell state (state.registers who key) (λ cell. put_pair state table cell (Some (state.registers who val))) refs
    (λ cell is_key. RefsAreLive-pair state table cell (Some (state.registers who val)) refs (refs.in_registers who src table active is) (refs.in_registers who key cell active is_key)
    (λ value same. let e : state.registers who val ≡ value = cc in subst (IsLiveValue state) e (IsLiveValue-register state who val refs active))))
RefsAreLive-granted layout shapes state who (PairGet dst src key) (Seen value) took refs active none granted =
    RefsAreLive-register state who dst value refs
    (IsLiveValue-pair state (state.registers who src) (state.registers who key) value refs (IsLiveValue-register state who src refs active) granted.1)
RefsAreLive-granted layout shapes state who (PairDel src key) Done took refs active none granted =
    RefsAreLive-at_cell state (state.registers who src) (λ table. at_cell state (state.registers who key) (λ cell. put_pair state table cell None)) refs
    (λ table is. RefsAreLive-at_cell state (state.registers who key) (λ cell. put_pair state table cell None) refs
    (λ cell is_key. RefsAreLive-pair state table cell None refs (refs.in_registers who src table active is) (refs.in_registers who key cell active is_key)
    (λ value same. absurd (cc))))
RefsAreLive-granted layout shapes state who (Group src n) Done took refs active none granted =
    RefsAreLive-at_cell state (state.registers who src) (λ cell. put_cell state cell (record (state.cells cell) { group = n })) refs
    (λ cell is. RefsAreLive-group state cell n refs (refs.in_registers who src cell active is))
RefsAreLive-granted layout shapes state who Collect Asked took refs active none granted = refs
RefsAreLive-granted layout shapes state who Retire Done took refs active none granted = RefsAreLive-retire state who refs
RefsAreLive-granted layout shapes state who op reply took refs active none granted = absurd granted

-- a call keeps references to live cells
pub RefsAreLive-call : (layout : Layout) (shapes : ShapeLists) (state : State) (who : ℕ) (op : Op) (reply : Reply) (took : Option ℕ) →
    RefsAreLive state → state.active who ≡ true → IsAnswer layout shapes state who op reply took → RefsAreLive (after_call state who op reply took)
RefsAreLive-call layout shapes state who op reply took refs active answers = step (refusal_of layout shapes state who op) refl answers
  where
    step : (refused : Option Refusal) → refusal_of layout shapes state who op ≡ refused → IsAnswerUnless refused layout state who op reply took →
        RefsAreLive (after_call state who op reply took)
    step None none granted = RefsAreLive-granted layout shapes state who op reply took refs active none granted
    step (Some refusal) is answer =
        subst (λ (r : Reply). RefsAreLive (after_call state who op r took)) (sym answer.1) (subst RefsAreLive (sym (after_call-refused state who op refusal took)) refs)
