-- What a call keeps: that nothing is dead, that what is live is so, and that no mutator has more than 8 claims.
use Rattle.std.proofs.Common.{ℕ, suc, ◌≡◌, ◌<◌, ◌≤◌, ◌⊎◌, ◌∙◌, refl, sym, subst, arith, inl, inr, Bool, true, false, List, [], ◌∷◌, ◌++◌, length, drop}
use Rattle.std.proofs.lemmas.Bool.{leb-false}
use Rattle.std.proofs.lemmas.List.{length-append, length-drop}
use Rattle.std.specs.Prelude.{Option, None, Some, filter, not, nat_le, ◌==◌, if◌then◌else◌}
use Rattle.tide_model.specs.declared.val.Val.{Val}
use Rattle.tide_model.specs.declared.val.Val.TheVariants.{Empty, Int, Cell}
use Rattle.tide_model.specs.declared.op.Op.{Op}
use Rattle.tide_model.specs.declared.op.Op.TheVariants.{Alloc, Table, Put, Claim, Release, Unclaim, Add, SetProp, PairSet, PairDel, Group, Retire}
use Rattle.tide_model.specs.declared.op.Reply.{Reply}
use Rattle.tide_model.specs.declared.op.Reply.TheVariants.{Done, Born, Refused}
use Rattle.tide_model.specs.declared.op.Refusal.{Refusal}
use Rattle.tide_model.specs.declared.op.Refusal.TheVariants.{ClaimsFull}
use Rattle.tide_model.specs.Answer.{IsAnswer, IsAnswerUnless}
use Rattle.tide_model.specs.Applied.{after_call, at_cell, add_property, array_after, exchange_array, place_of, put_cell, put_claims, put_pair, put_property, spend}
use Rattle.tide_model.specs.Layout.{Layout}
use Rattle.tide_model.specs.Numbers.{put_at}
use Rattle.tide_model.specs.References.{IsLive}
use Rattle.tide_model.specs.Refused.{ShapeLists, claims_most, first_of, held_by, holders_of, refusal_at, refusal_of, refuse_if}
use Rattle.tide_model.specs.State.{State, CellState, Status, blank_cell, dead, live, spent}
use Rattle.tide_model.proofs.PhaseLaws.{at_cell_keeps, put_slot_keeps}
use Rattle.tide_model.proofs.ReferenceLaws.{after_call-refused, put_at_elim}

-- What a call makes of statuses: a cell's is what it was, or live, and an array's what it was, live or spent.
pub record HasCallStatuses (one other : State) : Type 0 where
  pub cells : (cell : ℕ) → ((other.cells cell).status ≡ (one.cells cell).status) ⊎ ((other.cells cell).status ≡ live)
  pub arrays : (array : ℕ) → (other.arrays array ≡ one.arrays array) ⊎ ((other.arrays array ≡ live) ⊎ (other.arrays array ≡ spent))

same_statuses : (state : State) → HasCallStatuses state state
same_statuses state = record { cells = λ cell. inl refl; arrays = λ array. inl refl }

-- a cell that holds something else, with its status or live
put_status : (state : State) (at : ℕ) (held : CellState) → (held.status ≡ (state.cells at).status) ⊎ (held.status ≡ live) →
    (cell : ℕ) → ((put_at state.cells at held cell).status ≡ (state.cells cell).status) ⊎ ((put_at state.cells at held cell).status ≡ live)
put_status state at held is = put_at_elim (λ n (c : CellState). (c.status ≡ (state.cells n).status) ⊎ (c.status ≡ live))
    state.cells at held is (λ n apart. inl refl)

put_cell_statuses : (state : State) (at : ℕ) (held : CellState) → held.status ≡ (state.cells at).status →
    HasCallStatuses state (put_cell state at held)
put_cell_statuses state at held is = record { cells = put_status state at held (inl is); arrays = λ array. inl refl }

exchanged_status : (arrays : ℕ → Status) (old took : Option ℕ) (array : ℕ) → (exchange_array arrays old took array ≡ arrays array)
    ⊎ ((exchange_array arrays old took array ≡ live) ⊎ (exchange_array arrays old took array ≡ spent))
exchanged_status arrays old None array = inl refl
exchanged_status arrays old (Some taken) array =
    put_at_elim (λ n (s : Status). (s ≡ arrays n) ⊎ ((s ≡ live) ⊎ (s ≡ spent))) (spend arrays old) taken live (inr (inl refl))
    (λ n apart. spent_status old n) array
  where
    spent_status : (o : Option ℕ) (n : ℕ) → (spend arrays o n ≡ arrays n) ⊎ ((spend arrays o n ≡ live) ⊎ (spend arrays o n ≡ spent))
    spent_status None n = inl refl
    spent_status (Some own) n = put_at_elim (λ m (s : Status). (s ≡ arrays m) ⊎ ((s ≡ live) ⊎ (s ≡ spent))) arrays own spent
        (inr (inr refl)) (λ m apart. inl refl) n

pub HasCallStatuses-call : (state : State) (who : ℕ) (op : Op) (reply : Reply) (took : Option ℕ) → HasCallStatuses state (after_call state who op reply took)
HasCallStatuses-call state who (Alloc dst class) (Born cell) took =
    record { cells = put_status state cell (blank_cell live) (inr refl); arrays = λ array. inl refl }
HasCallStatuses-call state who (Table dst) (Born cell) took =
    record { cells = put_status state cell (blank_cell live) (inr refl); arrays = λ array. inl refl }
HasCallStatuses-call state who op (Refused refusal) took =
    subst (HasCallStatuses state) (sym (after_call-refused state who op refusal took)) (same_statuses state)
HasCallStatuses-call state who (Put src slot val) Done took =
    put_slot_keeps (HasCallStatuses state) state (state.registers who src) slot (state.registers who val) (same_statuses state)
    (λ cell. put_cell_statuses state cell (record (state.cells cell) { slots = put_at (state.cells cell).slots slot (state.registers who val) }) refl)
HasCallStatuses-call state who (Claim src) Done took =
    at_cell_keeps (HasCallStatuses state) state (state.registers who src) (λ cell. put_claims state who (state.claims who ++ cell ∷ []))
    (same_statuses state) (λ cell. record { cells = λ c. inl refl; arrays = λ array. inl refl })
HasCallStatuses-call state who (Release src) Done took =
    at_cell_keeps (HasCallStatuses state) state (state.registers who src) (λ cell. put_claims state who (filter (λ claimed. not (claimed == cell)) (state.claims who)))
    (same_statuses state) (λ cell. record { cells = λ c. inl refl; arrays = λ array. inl refl })
HasCallStatuses-call state who (Add src key val) Done took =
    at_cell_keeps (HasCallStatuses state) state (state.registers who src) (λ cell. add_property state cell key (state.registers who val) took)
    (same_statuses state) (λ cell. record {
      cells = put_status state cell (record (state.cells cell) {
        keys = (state.cells cell).keys ++ key ∷ [];
        properties = put_at (state.cells cell).properties (length (state.cells cell).keys) (state.registers who val);
        array = array_after (state.cells cell).array took;
      }) (inl refl);
      arrays = exchanged_status state.arrays (state.cells cell).array took;
    })
HasCallStatuses-call state who (SetProp src key val) Done took =
    at_cell_keeps (HasCallStatuses state) state (state.registers who src) (λ cell. put_property state cell key (state.registers who val))
    (same_statuses state) (λ cell. put_cell_statuses state cell
    (record (state.cells cell) { properties = put_at (state.cells cell).properties (place_of (state.cells cell).keys key) (state.registers who val) }) refl)
HasCallStatuses-call state who (PairSet src key val) Done took =
    at_cell_keeps (HasCallStatuses state) state (state.registers who src) (λ table. at_cell state (state.registers who key) (λ cell. put_pair state table cell (Some (state.registers who val))))
    (same_statuses state) (λ table. at_cell_keeps (HasCallStatuses state) state (state.registers who key) (λ cell. put_pair state table cell (Some (state.registers who val)))
    (same_statuses state) (λ cell. put_cell_statuses state table
    (record (state.cells table) { pairs = put_at (state.cells table).pairs cell (Some (state.registers who val)) }) refl))
HasCallStatuses-call state who (PairDel src key) Done took =
    at_cell_keeps (HasCallStatuses state) state (state.registers who src) (λ table. at_cell state (state.registers who key) (λ cell. put_pair state table cell None))
    (same_statuses state) (λ table. at_cell_keeps (HasCallStatuses state) state (state.registers who key) (λ cell. put_pair state table cell None)
    (same_statuses state) (λ cell. put_cell_statuses state table
    (record (state.cells table) { pairs = put_at (state.cells table).pairs cell None }) refl))
HasCallStatuses-call state who (Group src n) Done took =
    at_cell_keeps (HasCallStatuses state) state (state.registers who src) (λ cell. put_cell state cell (record (state.cells cell) { group = n }))
    (same_statuses state) (λ cell. put_cell_statuses state cell (record (state.cells cell) { group = n }) refl)
HasCallStatuses-call state who op reply took = record { cells = λ cell. inl refl; arrays = λ array. inl refl }

-- what is dead in the one was dead in the other
pub record HasNoNewDead (one other : State) : Type 0 where
  pub cells : (cell : ℕ) → (other.cells cell).status ≡ dead → (one.cells cell).status ≡ dead
  pub arrays : (array : ℕ) → other.arrays array ≡ dead → one.arrays array ≡ dead

pub same_dead : (state : State) → HasNoNewDead state state
same_dead state = record { cells = λ cell is. is; arrays = λ array is. is }

-- a call makes nothing dead
pub HasNoNewDead-call : (state : State) (who : ℕ) (op : Op) (reply : Reply) (took : Option ℕ) → HasNoNewDead state (after_call state who op reply took)
HasNoNewDead-call state who op reply took = record {
  cells = λ cell is. of_cell (all.cells cell) is;
  arrays = λ array is. of_array (all.arrays array) is;
}
  where
    all : HasCallStatuses state (after_call state who op reply took)
    all = HasCallStatuses-call state who op reply took

    of_cell : {one other : Status} → (other ≡ one) ⊎ (other ≡ live) → other ≡ dead → one ≡ dead
    of_cell (inl same) is = sym same ∙ is
    of_cell (inr alive) is = absurd (let bad : live ≡ dead = sym alive ∙ is in cc)

    of_array : {one other : Status} → (other ≡ one) ⊎ ((other ≡ live) ⊎ (other ≡ spent)) → other ≡ dead → one ≡ dead
    of_array (inl same) is = sym same ∙ is
    of_array (inr (inl alive)) is = absurd (let bad : live ≡ dead = sym alive ∙ is in cc)
    of_array (inr (inr gone)) is = absurd (let bad : spent ≡ dead = sym gone ∙ is in cc)

-- what was live is live still
abbrev pub KeepsLive : State → State → Type 0
KeepsLive one other = (cell : ℕ) → IsLive one cell → IsLive other cell

-- a call leaves each live cell live
pub KeepsLive-call : (state : State) (who : ℕ) (op : Op) (reply : Reply) (took : Option ℕ) → KeepsLive state (after_call state who op reply took)
KeepsLive-call state who op reply took cell is = elim ((HasCallStatuses-call state who op reply took).cells cell) [
  | inl same ↦ same ∙ is
  | inr alive ↦ alive
]

-- a claim is granted only to one with fewer than the most
claimed_few : (layout : Layout) (state : State) (who src : ℕ) (value : Val) →
    refusal_at value src (λ cell. first_of (held_by (holders_of layout state cell) ∷ refuse_if (nat_le claims_most (length (state.claims who))) ClaimsFull ∷ [])) ≡ None →
    (cell : ℕ) → value ≡ Cell cell → length (state.claims who) < 8
claimed_few layout state who src (Cell c) none cell is = step (nat_le claims_most (length (state.claims who))) refl (holders_of layout state c) none
  where
    step : (full : Bool) → nat_le claims_most (length (state.claims who)) ≡ full → (holders : List ℕ) →
        first_of (held_by holders ∷ refuse_if full ClaimsFull ∷ []) ≡ None → length (state.claims who) < 8
    step true e [] none' = absurd (cc)
    step true e (h ∷ hs) none' = absurd (cc)
    step false e [] none' = (let less = leb-false 8 (length (state.claims who)) e in omega (arith, less))
    step false e (h ∷ hs) none' = absurd (cc)
claimed_few layout state who src Empty none cell is = absurd (cc)
claimed_few layout state who src (Int n) none cell is = absurd (cc)

length-filter_le : (test : ℕ → Bool) (xs : List ℕ) → length (filter test xs) ≤ length xs
length-filter_le test [] = omega arith
length-filter_le test (x ∷ xs) = step (test x) (length-filter_le test xs)
  where
    step : (passes : Bool) → length (filter test xs) ≤ length xs → length (if passes then x ∷ filter test xs else filter test xs) ≤ suc (length xs)
    step true le = omega (arith, le)
    step false le = omega (arith, le)

at_cell_keeps_at : (P : State → Type 0) (state : State) (value : Val) (change : ℕ → State) → P state → ((cell : ℕ) → value ≡ Cell cell → P (change cell)) → P (at_cell state value change)
at_cell_keeps_at P state Empty change holds each = holds
at_cell_keeps_at P state (Int n) change holds each = holds
at_cell_keeps_at P state (Cell cell) change holds each = each cell refl

-- no mutator has more than the most claims
abbrev pub HasFewClaims : State → Type 0
HasFewClaims state = (who : ℕ) → length (state.claims who) ≤ 8

few_put : (state : State) (who : ℕ) (claims : List ℕ) → HasFewClaims state → length claims ≤ 8 → HasFewClaims (put_claims state who claims)
few_put state who claims few short = put_at_elim (λ n (c : List ℕ). length c ≤ 8) state.claims who claims short (λ n apart. few n)

few_granted : (layout : Layout) (shapes : ShapeLists) (state : State) (who : ℕ) (op : Op) (reply : Reply) (took : Option ℕ) → HasFewClaims state →
    refusal_of layout shapes state who op ≡ None → HasFewClaims (after_call state who op reply took)
few_granted layout shapes state who Retire Done took few none = few
few_granted layout shapes state who op (Refused refusal) took few none = subst HasFewClaims (sym (after_call-refused state who op refusal took)) few
few_granted layout shapes state who (Put src slot val) Done took few none =
    put_slot_keeps HasFewClaims state (state.registers who src) slot (state.registers who val) few (λ cell. few)
few_granted layout shapes state who (Claim src) Done took few none =
    at_cell_keeps_at HasFewClaims state (state.registers who src) (λ cell. put_claims state who (state.claims who ++ cell ∷ [])) few
    (λ cell is. few_put state who (state.claims who ++ cell ∷ []) few
    (let less = claimed_few layout state who src (state.registers who src) none cell is in let longer = length-append (state.claims who) (cell ∷ []) in omega (arith, less, longer)))
few_granted layout shapes state who (Release src) Done took few none =
    at_cell_keeps HasFewClaims state (state.registers who src) (λ cell. put_claims state who (filter (λ claimed. not (claimed == cell)) (state.claims who))) few
    (λ cell. few_put state who (filter (λ claimed. not (claimed == cell)) (state.claims who)) few
    (let shorter = length-filter_le (λ claimed. not (claimed == cell)) (state.claims who) in let had = few who in omega (arith, shorter, had)))
few_granted layout shapes state who Unclaim Done took few none =
    few_put state who (drop 1 (state.claims who)) few (let shorter = length-drop 1 (state.claims who) in let had = few who in omega (arith, shorter, had))
few_granted layout shapes state who (Add src key val) Done took few none =
    at_cell_keeps HasFewClaims state (state.registers who src) (λ cell. add_property state cell key (state.registers who val) took) few (λ cell. few)
few_granted layout shapes state who (SetProp src key val) Done took few none =
    at_cell_keeps HasFewClaims state (state.registers who src) (λ cell. put_property state cell key (state.registers who val)) few (λ cell. few)
few_granted layout shapes state who (PairSet src key val) Done took few none =
    at_cell_keeps HasFewClaims state (state.registers who src) (λ table. at_cell state (state.registers who key) (λ cell. put_pair state table cell (Some (state.registers who val)))) few
    (λ table. at_cell_keeps HasFewClaims state (state.registers who key) (λ cell. put_pair state table cell (Some (state.registers who val))) few (λ cell. few))
few_granted layout shapes state who (PairDel src key) Done took few none =
    at_cell_keeps HasFewClaims state (state.registers who src) (λ table. at_cell state (state.registers who key) (λ cell. put_pair state table cell None)) few
    (λ table. at_cell_keeps HasFewClaims state (state.registers who key) (λ cell. put_pair state table cell None) few (λ cell. few))
few_granted layout shapes state who (Group src n) Done took few none =
    at_cell_keeps HasFewClaims state (state.registers who src) (λ cell. put_cell state cell (record (state.cells cell) { group = n })) few (λ cell. few)
few_granted layout shapes state who op reply took few none = few

-- nor after a call
pub HasFewClaims-call : (layout : Layout) (shapes : ShapeLists) (state : State) (who : ℕ) (op : Op) (reply : Reply) (took : Option ℕ) → HasFewClaims state →
    IsAnswer layout shapes state who op reply took → HasFewClaims (after_call state who op reply took)
HasFewClaims-call layout shapes state who op reply took few answers = step (refusal_of layout shapes state who op) refl answers
  where
    step : (refused : Option Refusal) → refusal_of layout shapes state who op ≡ refused → IsAnswerUnless refused layout state who op reply took → HasFewClaims (after_call state who op reply took)
    step None none granted = few_granted layout shapes state who op reply took few none
    step (Some refusal) is answer =
        subst (λ (r : Reply). HasFewClaims (after_call state who op r took)) (sym answer.1) (subst HasFewClaims (sym (after_call-refused state who op refusal took)) few)
