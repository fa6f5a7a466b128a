-- What a call tells of what came before it: from a moment on since which its mutator made no call.
use Rattle.std.proofs.Common.{ℕ, ◌≡◌, refl, sym, ◌∙◌, ap, subst, arith, Bool, true, false, List, [], ◌∷◌, ◌++◌, length, inl, inr, append_assoc, append-nil, length-append}
use Rattle.std.proofs.lemmas.Bool.{eq-eqb}
use Rattle.std.proofs.lemmas.List.{append_cancel_left, append_cancel_right}
use Rattle.std.proofs.lemmas.List.Elements.{All-nil, All-cons, filter-append}
use Rattle.std.specs.Prelude.{All, Option, filter, if◌then◌else◌, ◌⊎◌}
use Rattle.tide_heap.proofs.tide_core.machine_laws.steps.OwnState.{own_state}
use Rattle.tide_heap.specs.tide_core.machine.Own.{own_of}
use Rattle.tide_model.proofs.Histories.{take-append-short}
use Rattle.tide_model.specs.Caller.{IsOwn, MakesCall}
use Rattle.tide_model.specs.History.{is_call_of, state_after}
use Rattle.tide_model.specs.Lawful.{IsLawful, Stands, StandsCall}
use Rattle.tide_model.specs.Layout.{Layout}
use Rattle.tide_model.specs.Prefix.{IsPrefix, prefix_trans}
use Rattle.tide_model.specs.Refused.{ShapeLists}
use Rattle.tide_model.specs.declared.entry.Entry.TheVariants.{Call}
use Rattle.tide_model.specs.declared.entry.Event.{Event}
use Rattle.tide_model.specs.declared.op.Op.{Op}
use Rattle.tide_model.specs.declared.op.Reply.{Reply}
use Rattle.std.proofs.Common.{take_all}
use Rattle.std.specs.Prelude.{slice_get, Some}

-- the event of a call
abbrev pub call_event : ℕ → Op → Reply → Option ℕ → Event
call_event who op reply took = record { entry = Call who op reply; took = took }

-- the last event of a lawful history stands
pub stands_last : (layout : Layout) (shapes : ShapeLists) (before : List Event) (event : Event) →
    IsLawful layout shapes (before ++ event ∷ []) → Stands layout shapes before event
stands_last layout shapes before event lawful =
    subst (λ (h : List Event). Stands layout shapes h event)
    (take-append-short before (event ∷ []) (length before) (omega arith) ∙ take_all (length before) before (omega arith))
    (lawful (length before) event (at_end before event))
  where
    at_end : (xs : List Event) (x : Event) → slice_get (xs ++ x ∷ []) (length xs) ≡ Some x
    at_end [] x = refl
    at_end (y ∷ xs) x = at_end xs x

-- a list is empty, or has a last element
last_cases : {X : Type 0} (xs : List X) → (xs ≡ []) ⊎ ((front : List X) × (x : X) × (xs ≡ front ++ x ∷ []))
last_cases [] = inl refl
last_cases (x ∷ xs) = elim (last_cases xs) [
  | inl none ↦ inr ([], x, ap (λ (l : List _). x ∷ l) none)
  | inr some ↦ inr (x ∷ some.0, some.1, ap (λ (l : List _). x ∷ l) some.2)
]

-- the front and the last element of a list are one
push_same : {X : Type 0} (xs ys : List X) (x y : X) → xs ++ x ∷ [] ≡ ys ++ y ∷ [] → (xs ≡ ys) × (x ≡ y)
push_same [] [] x y e = (refl, cc)
push_same [] (z ∷ []) x y e = absurd (cc)
push_same [] (z ∷ w ∷ ys) x y e = absurd (cc)
push_same (z ∷ []) [] x y e = absurd (cc)
push_same (z ∷ w ∷ xs) [] x y e = absurd (cc)
push_same (z ∷ xs) (w ∷ ys) x y e =
    let head : z ≡ w = cc in
    let tail : xs ++ x ∷ [] ≡ ys ++ y ∷ [] = cc in
    let rest = push_same xs ys x y tail in
    (ap (λ (v : _). v ∷ xs) head ∙ ap (λ (l : List _). w ∷ l) rest.0, rest.1)

-- where nothing passes a filter, each fails
none_pass : {X : Type 0} (test : X → Bool) (xs : List X) → filter test xs ≡ [] → All (λ x. test x ≡ false) xs
none_pass test [] none = All-nil (λ x. test x ≡ false)
none_pass test (x ∷ xs) none = step (test x) refl none (λ e. none_pass test xs e)
  where
    step : (b : Bool) → test x ≡ b → (if b then x ∷ filter test xs else filter test xs) ≡ [] →
        (filter test xs ≡ [] → All (λ y. test y ≡ false) xs) → All (λ y. test y ≡ false) (x ∷ xs)
    step true is e rest = absurd (cc)
    step false is e rest = All-cons (λ y. test y ≡ false) x xs is (rest e)

-- A call, by a moment before it since which its mutator made none: what came in between, and the call.
pub record Advances (layout : Layout) (shapes : ShapeLists) (who : ℕ) (op : Op) (reply : Reply)
    (at new mine : List Event) : Type 0 where
  pub rest : List Event
  pub took : Option ℕ
  pub grown : new ≡ (at ++ rest) ++ call_event who op reply took ∷ []
  pub others : All (λ event. is_call_of who event.entry ≡ false) rest
  pub lawful : IsLawful layout shapes new
  pub own : IsOwn who (at ++ rest) mine
  pub stands : StandsCall layout shapes (at ++ rest) who op reply took

module _ (layout : Layout) (shapes : ShapeLists) (who : ℕ) (op : Op) (reply : Reply)
    (at old_seen new_seen old_mine new_mine : List Event) where
  pub advances : IsPrefix at old_seen → IsOwn who at old_mine →
      MakesCall layout shapes who op reply old_seen new_seen old_mine new_mine →
      Advances layout shapes who op reply at new_seen old_mine
  advances earlier own makes = elim (last_cases prefix.rest) [
    | inl none ↦ absurd (nothing none)
    | inr some ↦ grows some.0 some.1 some.2
  ]
    where
      event : Event
      event = call_event who op reply makes.took

      test : Event → Bool
      test e = is_call_of who e.entry

      prefix : IsPrefix at new_seen
      prefix = prefix_trans at old_seen new_seen earlier makes.seen

      filtered : filter test new_seen ≡ old_mine ++ event ∷ []
      filtered = sym makes.are_own ∙ makes.adds

      nothing : prefix.rest ≡ [] → ⊥
      nothing none =
          let same : at ≡ new_seen = sym (append-nil at) ∙ ap (λ (l : List Event). at ++ l) (sym none) ∙ prefix.joins in
          let longer = ap (λ (l : List Event). length l) (own ∙ ap (filter test) same ∙ filtered) in
          let counted = length-append old_mine (event ∷ []) in
          omega (arith, longer, counted)

      grows : (front : List Event) (last : Event) → prefix.rest ≡ front ++ last ∷ [] →
          Advances layout shapes who op reply at new_seen old_mine
      grows front last is =
          let joined : new_seen ≡ (at ++ front) ++ last ∷ [] =
          sym prefix.joins ∙ ap (λ (l : List Event). at ++ l) is ∙ sym (append_assoc at front (last ∷ [])) in
          let two = push_same (at ++ front) makes.between last event (sym joined ∙ makes.ends) in
          let grown : new_seen ≡ (at ++ front) ++ event ∷ [] = joined ∙ ap (λ (e : Event). (at ++ front) ++ e ∷ []) two.1 in
          let before : filter test (at ++ front) ≡ old_mine =
          append_cancel_right (filter test (at ++ front)) old_mine (event ∷ [])
          (ap (λ (b : Bool). filter test (at ++ front) ++ (if b then event ∷ [] else [])) (sym (eq-eqb who who refl))
          ∙ sym (filter-append test (at ++ front) (event ∷ [])) ∙ ap (filter test) (sym grown) ∙ filtered) in
          let none : filter test front ≡ [] =
          append_cancel_left (filter test at) (filter test front) []
          (sym (filter-append test at front) ∙ before ∙ own ∙ sym (append-nil (filter test at))) in
          record {
            rest = front;
            took = makes.took;
            grown = grown;
            others = none_pass test front none;
            lawful = makes.lawful;
            own = sym before;
            stands = stands_last layout shapes (at ++ front) event (subst (IsLawful layout shapes) grown makes.lawful);
          }

-- what is a mutator's own is the same after two histories with the same calls of its
pub same_own : (layout : Layout) (who : ℕ) (one other mine : List Event) → IsOwn who one mine → IsOwn who other mine →
    own_of who (state_after layout one) ≡ own_of who (state_after layout other)
same_own layout who one other mine is_one is_other =
    own_state layout who one ∙ ap (λ (l : List Event). own_of who (state_after layout l)) (sym is_one ∙ is_other)
    ∙ sym (own_state layout who other)
