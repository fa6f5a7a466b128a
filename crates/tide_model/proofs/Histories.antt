-- How a history grows by one event, and by several.
use Rattle.std.proofs.Common.{ℕ, zero, suc, ◌≡◌, ◌<◌, ◌≤◌, refl, sym, ◌∙◌, ap, subst, arith, Bool, true, false, List, [], ◌∷◌, ◌++◌, length, take, append_assoc, inl, inr, take_all, add-one, get_or}
use Rattle.std.proofs.lemmas.List.{take_more}
use Rattle.std.proofs.lemmas.Option.{slice_get_cases, slice_get_within}
use Rattle.std.specs.Prelude.{Option, Some, slice_get, if◌then◌else◌, is_some}
use Rattle.tide_model.specs.declared.op.Op.{Op}
use Rattle.tide_model.specs.declared.op.Reply.{Reply}
use Rattle.tide_model.specs.declared.entry.Event.{Event}
use Rattle.tide_model.specs.Layout.{Layout}
use Rattle.tide_model.specs.State.{State, empty_state}
use Rattle.tide_model.specs.History.{after_event, state_from, state_after, one_later, moment_after_last}
use Rattle.tide_model.specs.Prefix.{IsPrefix}
use Rattle.tide_model.specs.Refused.{ShapeLists}
use Rattle.tide_model.specs.Lawful.{Stands, IsLawful}
use Rattle.tide_model.specs.Script.{calls_of, own_calls, retry_after, retry_after_all, script_from}

-- events after events
pub state_from-append : (layout : Layout) (state : State) (xs ys : List Event) → state_from layout state (xs ++ ys) ≡ state_from layout (state_from layout state xs) ys
state_from-append layout state [] ys = refl
state_from-append layout state (x ∷ xs) ys = state_from-append layout (after_event layout state x) xs ys

pub state_after-append : (layout : Layout) (xs ys : List Event) → state_after layout (xs ++ ys) ≡ state_from layout (state_after layout xs) ys
state_after-append layout xs ys = state_from-append layout empty_state xs ys

-- one event more
pub state_after-push : (layout : Layout) (history : List Event) (event : Event) → state_after layout (history ++ event ∷ []) ≡ after_event layout (state_after layout history) event
state_after-push layout history event = state_after-append layout history (event ∷ [])

-- what stands at a place of a longer list: it stood there, or is the new one at the end
pub take-append-short : {X : Type 0} (xs ys : List X) (n : ℕ) → n ≤ length xs → take n (xs ++ ys) ≡ take n xs
take-append-short [] ys zero h = refl
take-append-short [] ys (suc n) h = absurd (omega arith)
take-append-short (x ∷ xs) ys zero h = refl
take-append-short (x ∷ xs) ys (suc n) h = ap (λ (rest : List _). x ∷ rest) (take-append-short xs ys n (omega arith))

slice_get-append-short : {X : Type 0} (xs ys : List X) (place : ℕ) (x : X) → slice_get xs place ≡ Some x → slice_get (xs ++ ys) place ≡ Some x
slice_get-append-short [] ys zero x is = absurd (cc)
slice_get-append-short [] ys (suc place) x is = absurd (cc)
slice_get-append-short (first ∷ xs) ys zero x is = is
slice_get-append-short (first ∷ xs) ys (suc place) x is = slice_get-append-short xs ys place x is

pub push_cases : {X : Type 0} (P : List X → X → Type 0) (xs : List X) (x : X) →
    ((place : ℕ) (y : X) → slice_get xs place ≡ Some y → P (take place xs) y) → P xs x →
    (place : ℕ) (y : X) → slice_get (xs ++ x ∷ []) place ≡ Some y → P (take place (xs ++ x ∷ [])) y
push_cases {X} P [] x each last zero y is = let e : x ≡ y = cc in subst (P []) e last
push_cases {X} P [] x each last (suc place) y is = absurd (cc)
push_cases {X} P (first ∷ xs) x each last zero y is = each zero y is
push_cases {X} P (first ∷ xs) x each last (suc place) y is =
    push_cases (λ before. P (first ∷ before)) xs x (λ p z at. each (suc p) z at) last place y is

-- the empty history is lawful, and one event that stands keeps it so
pub IsLawful-nil : (layout : Layout) (shapes : ShapeLists) → IsLawful layout shapes []
IsLawful-nil layout shapes zero event is = absurd (cc)
IsLawful-nil layout shapes (suc place) event is = absurd (cc)

pub IsLawful-push : (layout : Layout) (shapes : ShapeLists) (history : List Event) (event : Event) →
    IsLawful layout shapes history → Stands layout shapes history event → IsLawful layout shapes (history ++ event ∷ [])
IsLawful-push layout shapes history event lawful stands = push_cases (λ before e. Stands layout shapes before e) history event lawful stands

-- a beginning of a lawful history is lawful
pub IsLawful-prefix : (layout : Layout) (shapes : ShapeLists) (before history : List Event) → IsPrefix before history → IsLawful layout shapes history → IsLawful layout shapes before
IsLawful-prefix layout shapes before history prefix lawful place event is =
    let within = slice_get_within before place event is in
    subst (λ (first : List Event). Stands layout shapes first event)
    (ap (take place) (sym prefix.joins) ∙ take-append-short before prefix.rest place (omega (arith, within)))
    (lawful place event (ap (λ (all : List Event). slice_get all place) (sym prefix.joins) ∙ slice_get-append-short before prefix.rest place event is))

-- what holds of the empty history, and is kept by each event that stands, holds of a lawful history
pub IsLawful-elim : (layout : Layout) (shapes : ShapeLists) (P : List Event → Type 0) → P [] →
    ((before : List Event) (event : Event) → P before → Stands layout shapes before event → P (before ++ event ∷ [])) →
    (history : List Event) → IsLawful layout shapes history → P history
IsLawful-elim layout shapes P at_first kept history lawful = subst P (take_all (length history) history (omega arith)) (upto (length history) (omega arith))
  where
    one_more : (n : ℕ) (event : Event) → n < length history → get_or history n event ≡ event → take (suc n) history ≡ take n history ++ event ∷ []
    one_more n event below is =
        ap (λ (k : ℕ). take k history) (sym (add-one n)) ∙ take_more history n event below ∙ ap (λ (e : Event). take n history ++ e ∷ []) is

    upto : (n : ℕ) → n ≤ length history → P (take n history)
    upto zero h = at_first
    upto (suc n) h = elim (slice_get_cases history n).1 [
      | inl at ↦ subst P (sym (one_more n at.0 at.1 at.3)) (kept (take n history) at.0 (upto n (omega arith)) (lawful n at.0 at.2))
      | inr past ↦ absurd (let short = past.0 in omega (arith, short))
    ]

-- the moment after the last event that passes a test is no later than the end
pub moment_after_last-le : (test : Event → Bool) (history : List Event) → moment_after_last test history ≤ length history
moment_after_last-le test [] = omega arith
moment_after_last-le test (event ∷ events) = step (moment_after_last test events) (length events) (test event) (moment_after_last-le test events)
  where
    step : (later rest : ℕ) (passes : Bool) → later ≤ rest → one_later later passes ≤ suc rest
    step zero rest true h = omega arith
    step zero rest false h = omega arith
    step (suc later) rest passes h = omega arith

-- the same where one more event came
pub moment_after_last-push : (test : Event → Bool) (history : List Event) (event : Event) →
    moment_after_last test (history ++ event ∷ []) ≡ (if test event then suc (length history) else moment_after_last test history)
moment_after_last-push test [] event = step (test event)
  where
    step : (passes : Bool) → one_later 0 passes ≡ (if passes then 1 else 0)
    step true = refl
    step false = refl
moment_after_last-push test (first ∷ history) event =
    ap (λ (m : ℕ). one_later m (test first)) (moment_after_last-push test history event) ∙ step (test event)
  where
    step : (passes : Bool) → one_later (if passes then suc (length history) else moment_after_last test history) (test first)
        ≡ (if passes then suc (suc (length history)) else one_later (moment_after_last test history) (test first))
    step true = refl
    step false = refl

-- the calls of a longer history
pub calls_of-append : (who : ℕ) (xs ys : List Event) → calls_of who (xs ++ ys) ≡ calls_of who xs ++ calls_of who ys
calls_of-append who [] ys = refl
calls_of-append who (x ∷ xs) ys =
    ap (λ (rest : List (Op × Reply)). own_calls who x.entry ++ rest) (calls_of-append who xs ys)
    ∙ sym (append_assoc (own_calls who x.entry) (calls_of who xs) (calls_of who ys))

pub retry_after_all-append : (retry : Option Op) (xs ys : List (Op × Reply)) → retry_after_all retry (xs ++ ys) ≡ retry_after_all (retry_after_all retry xs) ys
retry_after_all-append retry [] ys = refl
retry_after_all-append retry (x ∷ xs) ys = retry_after_all-append (retry_after retry x) xs ys

pub script_from-append : (retry : Option Op) (xs ys : List (Op × Reply)) → script_from retry (xs ++ ys) ≡ script_from retry xs ++ script_from (retry_after_all retry xs) ys
script_from-append retry [] ys = refl
script_from-append retry (x ∷ xs) ys =
    ap (λ (rest : List Op). (if is_some (retry_after retry x) then [] else x.0 ∷ []) ++ rest) (script_from-append (retry_after retry x) xs ys)
    ∙ sym (append_assoc (if is_some (retry_after retry x) then [] else x.0 ∷ []) (script_from (retry_after retry x) xs) (script_from (retry_after_all (retry_after retry x) xs) ys))
