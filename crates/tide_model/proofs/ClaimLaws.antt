-- No cell is claimed twice.
use Rattle.std.proofs.Common.{ℕ, ◌≡◌, ◌<◌, ◌≤◌, refl, sym, ◌∙◌, ap, subst, arith, Bool, true, false, List, [], ◌∷◌, ◌++◌, length, inl, inr, ◌⊎◌}
use Rattle.std.proofs.lemmas.Bool.Decides.{leb_tells}
use Rattle.std.proofs.lemmas.Cmp.{nat_eq_equiv}
use Rattle.std.proofs.lemmas.List.Elements.{Contains-push_cases, All-contains, All-filter, All-drop, All-contains_itself, All-from_recursion, recursion_from_All}
use Rattle.std.proofs.lemmas.Map.Keys.{IsDistinct-head, IsDistinct-tail, IsDistinct-cons, IsDistinct-push}
use Rattle.std.specs.Prelude.{◌==◌, ◌||◌, if◌then◌else◌, not, nat_eq, nat_le, Contains, filter, drop, Option, None, Some}
use Rattle.std.specs.List.{IsDistinct, list_any}
use Rattle.tide_model.specs.declared.val.Val.{Val}
use Rattle.tide_model.specs.declared.val.Val.TheVariants.{Empty, Int, Cell}
use Rattle.tide_model.specs.declared.op.Op.{Op}
use Rattle.tide_model.specs.declared.op.Op.TheVariants.{Alloc, Get, Put, Claim, Release, Unclaim, Add, SetProp, PairSet, PairDel, Group, Collect}
use Rattle.tide_model.specs.declared.op.Reply.{Reply}
use Rattle.tide_model.specs.declared.op.Reply.TheVariants.{Done, Born, Seen, Asked, Refused}
use Rattle.tide_model.specs.declared.op.Refusal.{Refusal}
use Rattle.tide_model.specs.declared.op.Refusal.TheVariants.{ClaimsFull}
use Rattle.tide_model.specs.declared.entry.Entry.{Entry}
use Rattle.tide_model.specs.declared.entry.Entry.TheVariants.{Call}
use Rattle.tide_model.specs.declared.entry.Event.{Event}
use Rattle.tide_model.specs.Layout.{Layout}
use Rattle.tide_model.specs.Numbers.{put_at, is_among}
use Rattle.tide_model.specs.State.{State, empty_state}
use Rattle.tide_model.specs.Applied.{after_call, at_cell, put_cell, put_claims, put_slot, add_property, put_property, put_pair}
use Rattle.tide_model.specs.Refused.{ShapeLists, refusal_of, refusal_at, first_of, refuse_if, held_by, holders_of, claims_most}
use Rattle.tide_model.specs.Answer.{IsAnswer, IsAnswerUnless, IsGranted}
use Rattle.tide_model.specs.History.{after_entry, state_after}
use Rattle.tide_model.specs.Lawful.{Stands, StandsEntry, IsLawful}
use Rattle.tide_model.specs.References.{ClaimsAreOwn}
use Rattle.tide_model.proofs.NumberLaws.{put_at_elim, passing_is_among, numbers_where-none, numbers_where-one, among_from_contains, contains_from_among}
use Rattle.tide_model.proofs.Histories.{state_after-push, IsLawful-elim}
use Rattle.tide_model.proofs.ReferenceLaws.{after_call-refused}

-- nobody claims a cell in the empty store
pub ClaimsAreOwn-empty : (layout : Layout) → ClaimsAreOwn layout empty_state
unfolding IsDistinct
ClaimsAreOwn-empty layout = record {
  of_mutators = λ who past. refl;
  one_claims = λ who other cell at again. absurd (let below = at.1 in omega (arith, below));
  once = λ who. tt;
}

-- what leaves the claims as they are
pub ClaimsAreOwn-same : (layout : Layout) (one other : State) → other.claims ≡ one.claims → ClaimsAreOwn layout one → ClaimsAreOwn layout other
ClaimsAreOwn-same layout one other same own = record {
  of_mutators = λ who past. ap (λ (c : ℕ → List ℕ). c who) same ∙ own.of_mutators who past;
  one_claims = λ w o cell at again. own.one_claims w o cell (subst (λ (c : ℕ → List ℕ). Contains (c w) cell) same at) (subst (λ (c : ℕ → List ℕ). Contains (c o) cell) same again);
  once = λ who. subst (λ (c : ℕ → List ℕ). IsDistinct nat_eq (c who)) (sym same) (own.once who);
}

-- a mutator has other claims, each of which it had or nobody had
pub ClaimsAreOwn-claims : (layout : Layout) (state : State) (who : ℕ) (claims : List ℕ) → ClaimsAreOwn layout state → who < layout.mutators →
    ((cell : ℕ) → Contains claims cell → Contains (state.claims who) cell ⊎ ((other : ℕ) → Contains (state.claims other) cell → ⊥)) → IsDistinct nat_eq claims →
    ClaimsAreOwn layout (put_claims state who claims)
ClaimsAreOwn-claims layout state who claims own is_mutator were distinct = record {
  of_mutators = λ w. put_at_elim (λ n (c : List ℕ). layout.mutators ≤ n → c ≡ []) state.claims who claims (λ past. absurd (omega arith)) (λ n other. own.of_mutators n) w;
  one_claims = λ w o cell. put_at_elim (λ n (c : List ℕ). Contains c cell → Contains (put_at state.claims who claims o) cell → n ≡ o) state.claims who claims
      (λ at. put_at_elim (λ m (c : List ℕ). Contains c cell → who ≡ m) state.claims who claims (λ again. refl) (λ m other again. by_old m cell at again) o)
      (λ n other at. put_at_elim (λ m (c : List ℕ). Contains c cell → n ≡ m) state.claims who claims (λ again. sym (by_old n cell again at)) (λ m apart again. own.one_claims n m cell at again) o) w;
  once = λ w. put_at_elim (λ n (c : List ℕ). IsDistinct nat_eq c) state.claims who claims distinct (λ n other. own.once n) w;
}
  where
    by_old : (other cell : ℕ) → Contains claims cell → Contains (state.claims other) cell → who ≡ other
    by_old other cell at again = elim (were cell at) [
      | inl had ↦ own.one_claims who other cell had again
      | inr nobody ↦ absurd (nobody other again)
    ]

-- fewer claims are still distinct
distinct_filter : (test : ℕ → Bool) (xs : List ℕ) → IsDistinct nat_eq xs → IsDistinct nat_eq (filter test xs)
distinct_filter test [] h = h
distinct_filter test (x ∷ xs) h = step (test x) (distinct_filter test xs (IsDistinct-tail nat_eq x xs h))
  where
    step : (passes : Bool) → IsDistinct nat_eq (filter test xs) → IsDistinct nat_eq (if passes then x ∷ filter test xs else filter test xs)
    step true rest =
        IsDistinct-cons nat_eq x (filter test xs)
        (recursion_from_All (λ y. nat_eq x y ≡ false) (filter test xs)
        (All-filter test (λ y. nat_eq x y ≡ false) xs (All-from_recursion (λ y. nat_eq x y ≡ false) xs (IsDistinct-head nat_eq x xs h)))) rest
    step false rest = rest

distinct_drop : (xs : List ℕ) → IsDistinct nat_eq xs → IsDistinct nat_eq (drop 1 xs)
distinct_drop [] h = h
distinct_drop (x ∷ xs) h = IsDistinct-tail nat_eq x xs h

-- nobody claims a cell that no mutator holds
pub nobody_claims : (layout : Layout) (state : State) (cell : ℕ) → ClaimsAreOwn layout state → holders_of layout state cell ≡ [] →
    (other : ℕ) → Contains (state.claims other) cell → ⊥
nobody_claims layout state cell own none other at =
    let among : is_among (state.claims other) cell ≡ true = among_from_contains (state.claims other) cell at in
    elim (leb_tells layout.mutators other) [
      | inl past ↦
          let bad : is_among [] cell ≡ true = subst (λ (c : List ℕ). is_among c cell ≡ true) (own.of_mutators other past.1) among in
          absurd (cc)
      | inr below ↦
          let holder : is_among (holders_of layout state cell) other ≡ true = passing_is_among (λ who. is_among (state.claims who) cell) layout.mutators other below.1 among in
          let bad : is_among [] other ≡ true = subst (λ (hs : List ℕ). is_among hs other ≡ true) none holder in
          absurd (cc)
    ]

-- what a list of claims lacks, in the words of two libraries
not_any_from_nobody : (xs : List ℕ) (cell : ℕ) → (Contains xs cell → ⊥) → list_any (nat_eq cell) xs ≡ false
not_any_from_nobody xs cell nobody = step (is_among xs cell) refl
  where
    same : (ys : List ℕ) → list_any (nat_eq cell) ys ≡ is_among ys cell
    same [] = refl
    same (y ∷ ys) = ap (λ (b : Bool). nat_eq cell y || b) (same ys)

    step : (among : Bool) → is_among xs cell ≡ among → list_any (nat_eq cell) xs ≡ false
    step true is = absurd (nobody (contains_from_among xs cell is))
    step false is = same xs ∙ is

-- an operation on a cell, or on a table and a key, that leaves the claims as they are
claims-at_cell : (state : State) (value : Val) (change : ℕ → State) → ((cell : ℕ) → (change cell).claims ≡ state.claims) → (at_cell state value change).claims ≡ state.claims
claims-at_cell state Empty change same = refl
claims-at_cell state (Int n) change same = refl
claims-at_cell state (Cell cell) change same = same cell

claims-put_slot : (state : State) (source : Val) (slot : ℕ) (value : Val) → (put_slot state source slot value).claims ≡ state.claims
claims-put_slot state Empty slot value = refl
claims-put_slot state (Int n) slot value = refl
claims-put_slot state (Cell cell) slot value = refl

-- a change at the cell that a value names, if it names one
ClaimsAreOwn-at_cell : (layout : Layout) (state : State) (value : Val) (change : ℕ → State) → ClaimsAreOwn layout state →
    ((cell : ℕ) → value ≡ Cell cell → ClaimsAreOwn layout (change cell)) → ClaimsAreOwn layout (at_cell state value change)
ClaimsAreOwn-at_cell layout state Empty change own each = own
ClaimsAreOwn-at_cell layout state (Int n) change own each = own
ClaimsAreOwn-at_cell layout state (Cell cell) change own each = each cell refl

-- a granted claim is of a cell that no mutator holds
holders_of-claimed : (layout : Layout) (state : State) (who src cell : ℕ) → state.registers who src ≡ Cell cell →
    refusal_at (state.registers who src) src (λ c. first_of (
    held_by (holders_of layout state c)
    ∷ refuse_if (nat_le claims_most (length (state.claims who))) ClaimsFull ∷ [])) ≡ None →
    holders_of layout state cell ≡ []
holders_of-claimed layout state who src cell is none =
    first (holders_of layout state cell) (refuse_if (nat_le claims_most (length (state.claims who))) ClaimsFull)
    (subst (λ (v : Val). refusal_at v src (λ c. first_of (
    held_by (holders_of layout state c)
    ∷ refuse_if (nat_le claims_most (length (state.claims who))) ClaimsFull ∷ [])) ≡ None) is none)
  where
    first : (holders : List ℕ) (full : Option Refusal) → first_of (held_by holders ∷ full ∷ []) ≡ None → holders ≡ []
    first [] full h = refl
    first (h ∷ hs) full e = absurd (cc)

-- a call that is granted
ClaimsAreOwn-granted : (layout : Layout) (shapes : ShapeLists) (state : State) (who : ℕ) (op : Op) (reply : Reply) (took : Option ℕ) →
    ClaimsAreOwn layout state → who < layout.mutators → refusal_of layout shapes state who op ≡ None → IsGranted layout state who op reply took →
    ClaimsAreOwn layout (after_call state who op reply took)
ClaimsAreOwn-granted layout shapes state who op (Refused refusal) took own is_mutator none granted =
    subst (ClaimsAreOwn layout) (sym (after_call-refused state who op refusal took)) own
ClaimsAreOwn-granted layout shapes state who (Claim src) Done took own is_mutator none granted =
    ClaimsAreOwn-at_cell layout state (state.registers who src) (λ cell. put_claims state who (state.claims who ++ cell ∷ [])) own
    (λ cell is.
    let nobody = nobody_claims layout state cell own (holders_of-claimed layout state who src cell is none) in
    ClaimsAreOwn-claims layout state who (state.claims who ++ cell ∷ []) own is_mutator
    (λ claimed at. elim (Contains-push_cases (state.claims who) cell claimed at) [
      | inl old ↦ inl old
      | inr same ↦ inr (λ other has. nobody other (subst (Contains (state.claims other)) (sym same) has))
    ])
    (IsDistinct-push nat_eq_equiv (state.claims who) cell (own.once who) (not_any_from_nobody (state.claims who) cell (nobody who))))
ClaimsAreOwn-granted layout shapes state who (Release src) Done took own is_mutator none granted =
    ClaimsAreOwn-at_cell layout state (state.registers who src) (λ cell. put_claims state who (filter (λ claimed. not (claimed == cell)) (state.claims who))) own
    (λ cell is. ClaimsAreOwn-claims layout state who (filter (λ claimed. not (claimed == cell)) (state.claims who)) own is_mutator
    (λ claimed at. inl (All-contains (Contains (state.claims who)) (filter (λ c. not (c == cell)) (state.claims who)) claimed
    (All-filter (λ c. not (c == cell)) (Contains (state.claims who)) (state.claims who) (All-contains_itself (state.claims who))) at))
    (distinct_filter (λ c. not (c == cell)) (state.claims who) (own.once who)))
ClaimsAreOwn-granted layout shapes state who Unclaim Done took own is_mutator none granted =
    ClaimsAreOwn-claims layout state who (drop 1 (state.claims who)) own is_mutator
    (λ claimed at. inl (All-contains (Contains (state.claims who)) (drop 1 (state.claims who)) claimed
    (All-drop (Contains (state.claims who)) 1 (state.claims who) (All-contains_itself (state.claims who))) at))
    (distinct_drop (state.claims who) (own.once who))
ClaimsAreOwn-granted layout shapes state who (Put src slot val) Done took own is_mutator none granted =
    ClaimsAreOwn-same layout state (put_slot state (state.registers who src) slot (state.registers who val)) (claims-put_slot state (state.registers who src) slot (state.registers who val)) own
ClaimsAreOwn-granted layout shapes state who (Add src key val) Done took own is_mutator none granted =
    ClaimsAreOwn-same layout state (after_call state who (Add src key val) Done took)
    (claims-at_cell state (state.registers who src) (λ cell. add_property state cell key (state.registers who val) took) (λ cell. refl)) own
ClaimsAreOwn-granted layout shapes state who (SetProp src key val) Done took own is_mutator none granted =
    ClaimsAreOwn-same layout state (after_call state who (SetProp src key val) Done took)
    (claims-at_cell state (state.registers who src) (λ cell. put_property state cell key (state.registers who val)) (λ cell. refl)) own
ClaimsAreOwn-granted layout shapes state who (PairSet src key val) Done took own is_mutator none granted =
    ClaimsAreOwn-same layout state (after_call state who (PairSet src key val) Done took)
    (claims-at_cell state (state.registers who src) (λ table. at_cell state (state.registers who key) (λ cell. put_pair state table cell (Some (state.registers who val))))
    (λ table. claims-at_cell state (state.registers who key) (λ cell. put_pair state table cell (Some (state.registers who val))) (λ cell. refl))) own
ClaimsAreOwn-granted layout shapes state who (PairDel src key) Done took own is_mutator none granted =
    ClaimsAreOwn-same layout state (after_call state who (PairDel src key) Done took)
    (claims-at_cell state (state.registers who src) (λ table. at_cell state (state.registers who key) (λ cell. put_pair state table cell None))
    (λ table. claims-at_cell state (state.registers who key) (λ cell. put_pair state table cell None) (λ cell. refl))) own
ClaimsAreOwn-granted layout shapes state who (Group src n) Done took own is_mutator none granted =
    ClaimsAreOwn-same layout state (after_call state who (Group src n) Done took)
    (claims-at_cell state (state.registers who src) (λ cell. put_cell state cell (record (state.cells cell) { group = n })) (λ cell. refl)) own
ClaimsAreOwn-granted layout shapes state who (Alloc dst class) (Born cell) took own is_mutator none granted =
    ClaimsAreOwn-same layout state (after_call state who (Alloc dst class) (Born cell) took) refl own
ClaimsAreOwn-granted layout shapes state who (Get dst src slot) (Seen value) took own is_mutator none granted =
    ClaimsAreOwn-same layout state (after_call state who (Get dst src slot) (Seen value) took) refl own
ClaimsAreOwn-granted layout shapes state who Collect Asked took own is_mutator none granted = own
ClaimsAreOwn-granted layout shapes state who op reply took own is_mutator none granted =
    ClaimsAreOwn-same layout state (after_call state who op reply took) refl own

-- a call keeps the claims apart
pub ClaimsAreOwn-call : (layout : Layout) (shapes : ShapeLists) (state : State) (who : ℕ) (op : Op) (reply : Reply) (took : Option ℕ) →
    ClaimsAreOwn layout state → who < layout.mutators → IsAnswer layout shapes state who op reply took → ClaimsAreOwn layout (after_call state who op reply took)
ClaimsAreOwn-call layout shapes state who op reply took own is_mutator answers = step (refusal_of layout shapes state who op) refl answers
  where
    step : (refused : Option Refusal) → refusal_of layout shapes state who op ≡ refused → IsAnswerUnless refused layout state who op reply took →
        ClaimsAreOwn layout (after_call state who op reply took)
    step None none granted = ClaimsAreOwn-granted layout shapes state who op reply took own is_mutator none granted
    step (Some refusal) is answer =
        subst (λ (r : Reply). ClaimsAreOwn layout (after_call state who op r took)) (sym answer.1)
        (subst (ClaimsAreOwn layout) (sym (after_call-refused state who op refusal took)) own)

-- an event that stands keeps them apart: ends and sweeps don't touch them
pub ClaimsAreOwn-event : (layout : Layout) (shapes : ShapeLists) (before : List Event) (event : Event) →
    ClaimsAreOwn layout (state_after layout before) → Stands layout shapes before event → ClaimsAreOwn layout (state_after layout (before ++ event ∷ []))
ClaimsAreOwn-event layout shapes before event own stands =
    subst (ClaimsAreOwn layout) (sym (state_after-push layout before event)) (step event.entry event.took stands)
  where
    step : (entry : Entry) (took : Option ℕ) → StandsEntry layout shapes before entry took → ClaimsAreOwn layout (after_entry layout (state_after layout before) entry took)
    step (Call who op reply) took stands_here =
        ClaimsAreOwn-call layout shapes (state_after layout before) who op reply took own stands_here.is_mutator stands_here.answers
    step entry took _ = ClaimsAreOwn-same layout (state_after layout before) (after_entry layout (state_after layout before) entry took) refl own

-- no cell is claimed twice after a lawful history
pub ClaimsAreOwn-lawful : (layout : Layout) (shapes : ShapeLists) (history : List Event) → IsLawful layout shapes history → ClaimsAreOwn layout (state_after layout history)
ClaimsAreOwn-lawful layout shapes history lawful =
    IsLawful-elim layout shapes (λ before. ClaimsAreOwn layout (state_after layout before)) (ClaimsAreOwn-empty layout)
    (λ before event own stands. ClaimsAreOwn-event layout shapes before event own stands) history lawful

-- the mutators that claim a cell: none where nobody does, and else the one
pub holders_of-none : (layout : Layout) (state : State) (cell : ℕ) → ((who : ℕ) → who < layout.mutators → Contains (state.claims who) cell → ⊥) →
    holders_of layout state cell ≡ []
holders_of-none layout state cell nobody = numbers_where-none (λ who. is_among (state.claims who) cell) layout.mutators (λ who below. fails who below (is_among (state.claims who) cell) refl)
  where
    fails : (who : ℕ) → who < layout.mutators → (among : Bool) → is_among (state.claims who) cell ≡ among → among ≡ false
    fails who below true e = absurd (nobody who below (contains_from_among (state.claims who) cell e))
    fails who below false e = refl

pub holders_of-one : (layout : Layout) (state : State) (who cell : ℕ) → ClaimsAreOwn layout state → Contains (state.claims who) cell →
    holders_of layout state cell ≡ who ∷ []
holders_of-one layout state who cell own at =
    numbers_where-one (λ m. is_among (state.claims m) cell) layout.mutators who (is_mutator (leb_tells layout.mutators who))
    (among_from_contains (state.claims who) cell at)
    (λ m below among. own.one_claims m who cell (contains_from_among (state.claims m) cell among) at)
  where
    is_mutator : ((nat_le layout.mutators who ≡ true) × (layout.mutators ≤ who)) ⊎ ((nat_le layout.mutators who ≡ false) × (who < layout.mutators)) → who < layout.mutators
    is_mutator (inl past) =
        let none : Contains [] cell = subst (λ (c : List ℕ). Contains c cell) (own.of_mutators who past.1) at in
        absurd (let below = none.1 in omega (arith, below))
    is_mutator (inr below) = below.1
